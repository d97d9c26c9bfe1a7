-- No second outcome satisfies the contract of an exported function: of any two results that the contract itself allows for the same
-- arguments, each is the other. Assumes nothing.
use mathlib.Core.Path.{◌≡◌, sym, ◌∙◌}
use Rattle.circle.proofs.plan.bend.Reads as bend
use Rattle.circle.proofs.plan.plane_of.Reads as plane-of
use Rattle.circle.proofs.plan.direction_of.Reads as direction-of
use Rattle.circle.proofs.Arc.beat.Reads as beat
use Rattle.circle.proofs.Arc.beat_in.Reads as beat-in
use Rattle.circle.proofs.Arc.with_made.Reads as with-made
use Rattle.circle.proofs.Arc.left.Reads as left
use Rattle.circle.proofs.Arc.sound.Reads as sound
use Rattle.circle.proofs.Arc.look.Reads as look
use Rattle.circle.proofs.Plane.number.Reads as plane-number
use Rattle.circle.proofs.Direction.number.Reads as direction-number

pub bend-one : (κs : _) (a : _) (r r' : _) (s s' : _) → bend.Post κs a r s → bend.Post κs a r' s' → r ≡ r'
bend-one κs a r r' s s' p q = p ∙ sym q

pub plane-of-one : (κs : _) (a : _) (r r' : _) (s s' : _) → plane-of.Post κs a r s → plane-of.Post κs a r' s' → r ≡ r'
plane-of-one κs a r r' s s' p q = p ∙ sym q

pub direction-of-one : (κs : _) (a : _) (r r' : _) (s s' : _) → direction-of.Post κs a r s → direction-of.Post κs a r' s' → r ≡ r'
direction-of-one κs a r r' s s' p q = p ∙ sym q

pub beat-one : (κs : _) (a : _) (r r' : _) (s s' : _) → beat.Post κs a r s → beat.Post κs a r' s' → r ≡ r'
beat-one κs a r r' s s' p q = p ∙ sym q

pub beat-in-one : (κs : _) (a : _) (r r' : _) (s s' : _) → beat-in.Post κs a r s → beat-in.Post κs a r' s' → r ≡ r'
beat-in-one κs a r r' s s' p q = p ∙ sym q

pub with-made-one : (κs : _) (a : _) (r r' : _) (s s' : _) → with-made.Post κs a r s → with-made.Post κs a r' s' → r ≡ r'
with-made-one κs a r r' s s' p q = p ∙ sym q

pub left_one : (κs : _) (a : _) (r r' : _) (s s' : _) → left.Post κs a r s → left.Post κs a r' s' → r ≡ r'
left_one κs a r r' s s' p q = p ∙ sym q

pub sound-one : (κs : _) (a : _) (r r' : _) (s s' : _) → sound.Post κs a r s → sound.Post κs a r' s' → r ≡ r'
sound-one κs a r r' s s' p q = p ∙ sym q

pub look_one : (κs : _) (a : _) (r r' : _) (s s' : _) → look.Post κs a r s → look.Post κs a r' s' → r ≡ r'
look_one κs a r r' s s' p q = p ∙ sym q

pub plane-number-one : (κs : _) (a : _) (r r' : _) (s s' : _) → plane-number.Post κs a r s → plane-number.Post κs a r' s' → r ≡ r'
plane-number-one κs a r r' s s' p q = p ∙ sym q

pub direction-number-one : (κs : _) (a : _) (r r' : _) (s s' : _) → direction-number.Post κs a r s → direction-number.Post κs a r' s' → r ≡ r'
direction-number-one κs a r r' s s' p q = p ∙ sym q
