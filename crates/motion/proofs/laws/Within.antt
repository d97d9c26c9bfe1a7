-- The pulses of the phase under way are the movement's next ones. Assumes nothing.
use Rattle.std.specs.Prelude.{Option, Some, None}
use mathlib.Core.Path.{◌≡◌, refl, ap}
use mathlib.Core.Bool.{Bool, true, false}
use lib.Dec.{ltb}
use borrow.Author.Tests.{ltb-true}
use Rattle.count.specs.Pick.{pick}
use Rattle.motion.specs.declared.Counters.{Counters}
use Rattle.motion.specs.declared.Move.{Move}
use Rattle.motion.specs.declared.Stepped.{Stepped}
use Rattle.motion.specs.work.Here.{next_of, within_of}
use Rattle.motion.specs.Next.{leg, at_phase, settled, stepped, signs_by, from_of, to_of, next_by}
use Rattle.motion.specs.work.Here.{sign_here}
use Rattle.motion.specs.work.Made.{made}
use Rattle.motion.proofs.laws.Skip.{settled_here}

-- the next pulse is the next one of the phase that has one left
pub next-settled : (m : Move) (at : Counters) → next_of m at ≡ within_of (settled m) at
unfolding next_of next_by within_of
next-settled m at = refl

left_by : (b : Bool) (s : Stepped) → made (pick b (Some s) None) ≡ true → b ≡ true
left_by true s p = refl
left_by false s p = p

-- a pulse in the phase is the movement's next
pub within-next : (m : Move) (at : Counters) → made (within_of m at) ≡ true → next_of m at ≡ within_of m at
unfolding next_of next_by within_of
within-next m at p =
    let b = left_by (ltb m.made (leg m)) (stepped m at (signs_by sign_here at (from_of m) (to_of m) m.made (leg m))) p in
    ap (λ (x : Move). within_of x at) (settled_here m (ltb-true m.made (leg m) b))

-- what is left of the movement after it: only the pulses made have changed
abbrev rest_of : Option Stepped → Move → Move
rest_of (Some s) m = s.rest
rest_of None m = m

rest-by : (b : Bool) (m : Move) (s : Stepped) → s.rest ≡ at_phase m m.phase s.rest.made
    → rest_of (pick b (Some s) None) m ≡ at_phase m m.phase (rest_of (pick b (Some s) None) m).made
rest-by true m s e = e
rest-by false m s e = refl

rest-is : (m : Move) (at : Counters) → rest_of (within_of m at) m ≡ at_phase m m.phase (rest_of (within_of m at) m).made
unfolding within_of
rest-is m at = rest-by (ltb m.made (leg m)) m (stepped m at (signs_by sign_here at (from_of m) (to_of m) m.made (leg m))) refl

pub within-rest : (m : Move) (at : Counters) {s : Stepped} → within_of m at ≡ Some s → s.rest ≡ at_phase m m.phase s.rest.made
within-rest m at e = rw e at (rest-is m at)
