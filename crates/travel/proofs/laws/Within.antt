-- The pulses of the phase under way are the next ones. Assumes nothing.
use Rattle.motion.specs.declared.Stepped.{Stepped as StraightStepped}
use Rattle.std.specs.Prelude.{Option, Some, None}
use Rattle.motion.specs.declared.Beat.{Beat}
use mathlib.Core.Path.{◌≡◌, refl, ap, ◌∙◌}
use mathlib.Core.Bool.{true}
use Rattle.motion.specs.declared.Counters.{Counters}
use Rattle.motion.specs.declared.Move.{Move}
use Rattle.motion.specs.work.Here.{within_of as straight_in}
use Rattle.motion.specs.work.Made.{made as straight_made}
use Rattle.motion.proofs.laws.Within.{within-next as straight-next, within-rest as straight-rest}
use Rattle.circle.specs.declared.Arc.{Arc}
use Rattle.circle.specs.Arc.{arc_beat}
use Rattle.travel.specs.declared.Travel.{Travel}
use Rattle.travel.specs.declared.Travel.TheVariants as travel
use Rattle.travel.specs.Next.{Stepped, straight_next, arc_next}
use Rattle.travel.specs.Next.Next.{Made}
use Rattle.travel.specs.work.Beat.{next_of, within_of, made, made_of, with_made}
use Rattle.travel.proofs.laws.Beats.{same, never}

made_by : (n : Option StraightStepped) → straight_made n ≡ made (straight_next n)
made_by (Some s) = refl
made_by None = refl

-- a pulse in the phase is the next
pub within-next : (m : Travel) (at : Counters) → made (within_of m at) ≡ true → next_of m at ≡ within_of m at
unfolding next_of within_of
within-next (travel.Straight m) at p = ap straight_next (straight-next m at (made_by (straight_in m at) ∙ p))
within-next (travel.Round a) at p = refl

-- what is left after it: only the pulses made have changed
straight-by : (m : Move) (at : Counters) {s : Stepped} (n : Option StraightStepped) → straight_in m at ≡ n → straight_next n ≡ Made s
    → s.rest ≡ with_made (travel.Straight m) (made_of s.rest)
straight-by m at (Some t) e p = rw (same p) (ap travel.Straight (straight-rest m at e))
straight-by m at None e p = never p

arc-by : (a : Arc) {s : Stepped} (n : Option Beat) → arc_next a n ≡ Made s → s.rest ≡ with_made (travel.Round a) (made_of s.rest)
arc-by a (Some b) p = rw (same p) refl
arc-by a None p = never p

pub within-rest : (m : Travel) (at : Counters) {s : Stepped} → within_of m at ≡ Made s → s.rest ≡ with_made m (made_of s.rest)
unfolding within_of
within-rest (travel.Straight m) at p = straight-by m at (straight_in m at) refl p
within-rest (travel.Round a) at p = arc-by a (arc_beat a at) p
