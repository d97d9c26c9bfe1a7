-- No second outcome satisfies the contract of an exported function: of any two results that the contract itself allows for the same
-- arguments, each is the other. Assumes nothing.
use mathlib.Core.Path.{◌≡◌, sym, ◌∙◌}
use Rattle.travel.proofs.plans.plan.Reads as plan
use Rattle.travel.proofs.plans.circle.Reads as circle
use Rattle.travel.proofs.Travel.beat.Reads as beat
use Rattle.travel.proofs.Travel.beat_in.Reads as beat-in
use Rattle.travel.proofs.Travel.look.Reads as look
use Rattle.travel.proofs.Travel.sound.Reads as sound
use Rattle.travel.proofs.Travel.left.Reads as left
use Rattle.travel.proofs.Travel.at_mark.Reads as at_mark
use Rattle.travel.proofs.Travel.made.Reads as made
use Rattle.travel.proofs.Travel.with_made.Reads as with-made

pub plan-one : (κs : _) (a : _) (r r' : _) (s s' : _) → plan.Post κs a r s → plan.Post κs a r' s' → r ≡ r'
plan-one κs a r r' s s' p q = p ∙ sym q

pub circle-one : (κs : _) (a : _) (r r' : _) (s s' : _) → circle.Post κs a r s → circle.Post κs a r' s' → r ≡ r'
circle-one κs a r r' s s' p q = p ∙ sym q

pub beat-one : (κs : _) (a : _) (r r' : _) (s s' : _) → beat.Post κs a r s → beat.Post κs a r' s' → r ≡ r'
beat-one κs a r r' s s' p q = p ∙ sym q

pub beat-in-one : (κs : _) (a : _) (r r' : _) (s s' : _) → beat-in.Post κs a r s → beat-in.Post κs a r' s' → r ≡ r'
beat-in-one κs a r r' s s' p q = p ∙ sym q

pub look_one : (κs : _) (a : _) (r r' : _) (s s' : _) → look.Post κs a r s → look.Post κs a r' s' → r ≡ r'
look_one κs a r r' s s' p q = p ∙ sym q

pub sound-one : (κs : _) (a : _) (r r' : _) (s s' : _) → sound.Post κs a r s → sound.Post κs a r' s' → r ≡ r'
sound-one κs a r r' s s' p q = p ∙ sym q

pub left_one : (κs : _) (a : _) (r r' : _) (s s' : _) → left.Post κs a r s → left.Post κs a r' s' → r ≡ r'
left_one κs a r r' s s' p q = p ∙ sym q

pub at-mark-one : (κs : _) (a : _) (r r' : _) (s s' : _) → at_mark.Post κs a r s → at_mark.Post κs a r' s' → r ≡ r'
at-mark-one κs a r r' s s' p q = p ∙ sym q

pub made_one : (κs : _) (a : _) (r r' : _) (s s' : _) → made.Post κs a r s → made.Post κs a r' s' → r ≡ r'
made_one κs a r r' s s' p q = p ∙ sym q

pub with-made-one : (κs : _) (a : _) (r r' : _) (s s' : _) → with-made.Post κs a r s → with-made.Post κs a r' s' → r ≡ r'
with-made-one κs a r r' s s' p q = p ∙ sym q
