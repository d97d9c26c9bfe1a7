-- No second outcome satisfies the contract of an exported function: of any two results that the contract itself allows for the same
-- arguments, each is the other. Assumes nothing.
use mathlib.Core.Path.{◌≡◌, sym, ◌∙◌}
use Rattle.motion.proofs.sound.counted_at.Reads as counted-at
use Rattle.motion.proofs.route.plan.Reads as plan
use Rattle.motion.proofs.steps.step_to.Reads as step-to
use Rattle.motion.proofs.Move.next.Reads as next
use Rattle.motion.proofs.Move.within.Reads as within
use Rattle.motion.proofs.Move.beat.Reads as beat
use Rattle.motion.proofs.Move.beat_in.Reads as beat-in
use Rattle.motion.proofs.Move.look.Reads as look
use Rattle.motion.proofs.Move.at_mark.Reads as at_mark
use Rattle.motion.proofs.Move.left.Reads as left
use Rattle.motion.proofs.Move.sound.Reads as sound
use Rattle.motion.proofs.Move.resting.Reads as resting
use Rattle.motion.proofs.Sign.value.Reads as sign-value
use Rattle.motion.proofs.Sign.character.Reads as sign-character
use Rattle.motion.proofs.sound.speed_right.Reads as speed-right

pub plan-one : (κs : _) (a : _) (r r' : _) (s s' : _) → plan.Post κs a r s → plan.Post κs a r' s' → r ≡ r'
plan-one κs a r r' s s' p q = p ∙ sym q

pub step-to-one : (κs : _) (a : _) (r r' : _) (s s' : _) → step-to.Post κs a r s → step-to.Post κs a r' s' → r ≡ r'
step-to-one κs a r r' s s' p q = p ∙ sym q

pub next_one : (κs : _) (a : _) (r r' : _) (s s' : _) → next.Post κs a r s → next.Post κs a r' s' → r ≡ r'
next_one κs a r r' s s' p q = p ∙ sym q

pub within-one : (κs : _) (a : _) (r r' : _) (s s' : _) → within.Post κs a r s → within.Post κs a r' s' → r ≡ r'
within-one κs a r r' s s' p q = p ∙ sym q

pub left_one : (κs : _) (a : _) (r r' : _) (s s' : _) → left.Post κs a r s → left.Post κs a r' s' → r ≡ r'
left_one κs a r r' s s' p q = p ∙ sym q

pub sound-one : (κs : _) (a : _) (r r' : _) (s s' : _) → sound.Post κs a r s → sound.Post κs a r' s' → r ≡ r'
sound-one κs a r r' s s' p q = p ∙ sym q

pub resting-one : (κs : _) (a : _) (r r' : _) (s s' : _) → resting.Post κs a r s → resting.Post κs a r' s' → r ≡ r'
resting-one κs a r r' s s' p q = p ∙ sym q

pub beat-one : (κs : _) (a : _) (r r' : _) (s s' : _) → beat.Post κs a r s → beat.Post κs a r' s' → r ≡ r'
beat-one κs a r r' s s' p q = p ∙ sym q

pub beat-in-one : (κs : _) (a : _) (r r' : _) (s s' : _) → beat-in.Post κs a r s → beat-in.Post κs a r' s' → r ≡ r'
beat-in-one κs a r r' s s' p q = p ∙ sym q

pub look_one : (κs : _) (a : _) (r r' : _) (s s' : _) → look.Post κs a r s → look.Post κs a r' s' → r ≡ r'
look_one κs a r r' s s' p q = p ∙ sym q

pub at-mark-one : (κs : _) (a : _) (r r' : _) (s s' : _) → at_mark.Post κs a r s → at_mark.Post κs a r' s' → r ≡ r'
at-mark-one κs a r r' s s' p q = p ∙ sym q

pub counted-at-one : (κs : _) (a : _) (r r' : _) (s s' : _) → counted-at.Post κs a r s → counted-at.Post κs a r' s' → r ≡ r'
counted-at-one κs a r r' s s' p q = p ∙ sym q

pub sign-value-one : (κs : _) (a : _) (r r' : _) (s s' : _) → sign-value.Post κs a r s → sign-value.Post κs a r' s' → r ≡ r'
sign-value-one κs a r r' s s' p q = p ∙ sym q

pub sign-character-one : (κs : _) (a : _) (r r' : _) (s s' : _) → sign-character.Post κs a r s → sign-character.Post κs a r' s' → r ≡ r'
sign-character-one κs a r r' s s' p q = p ∙ sym q

pub speed-right-one : (κs : _) (a : _) (r r' : _) (s s' : _) → speed-right.Post κs a r s → speed-right.Post κs a r' s' → r ≡ r'
speed-right-one κs a r r' s s' p q = p ∙ sym q
