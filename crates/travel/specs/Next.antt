-- What moves is a straight movement (01, "Movement") or an arc (02, §3): its next pulse, and the pulses left.
use Rattle.motion.specs.declared.Beat.{Beat}
use Rattle.motion.specs.declared.Stepped.{Stepped as StraightStepped}
use Rattle.std.specs.Prelude.{[], ◌∷◌, ℕ, pos, Option, Some, None}
use Rattle.count.specs.Paper.{Paper, says}
use Rattle.motion.specs.declared.Signs.{Signs}
use Rattle.motion.specs.declared.Counters.{Counters}
use Rattle.motion.specs.Phase.{signs_then}
use Rattle.motion.specs.Next.{pulse_of as straight_pulse, left_of as straight_left}
use Rattle.circle.specs.declared.Arc.{Arc}
use Rattle.circle.specs.Arc.{arc_beat, with_made, arc_left}
use Rattle.travel.specs.declared.Travel.{Travel}
use Rattle.travel.specs.declared.Travel.TheVariants as travel

-- one pulse: its signs and speed, the counters and what is left afterwards; or that none is left
pub record Stepped : Type 0 where
  pub signs : Signs
  pub speed : ℕ
  pub at : Counters
  pub rest : Travel

pub data Next : Type 0 where
  Made : Stepped → Next
  Over : Next

-- a straight movement's pulse, and an arc's
abbrev pub straight_next : Option StraightStepped → Next
straight_next (Some s) = Made (record { signs = s.signs; speed = s.speed; at = s.at; rest = travel.Straight s.rest })
straight_next None = Over

abbrev pub arc_next : Arc → Option Beat → Next
arc_next a (Some b) = Made (record { signs = b.signs; speed = b.speed; at = b.at; rest = travel.Round (with_made a b.mark.made) })
arc_next a None = Over

-- the next pulse: 01's formula for a straight movement, 02's rule for an arc
unfoldable pub pulse_of : Travel → Counters → Next
pulse_of (travel.Straight m) at = straight_next (straight_pulse m at)
pulse_of (travel.Round a) at = arc_next a (arc_beat a at)

-- the pulses still to make
unfoldable pub left_of : Travel → ℕ
left_of (travel.Straight m) = straight_left m
left_of (travel.Round a) = arc_left a

-- the clock's answers are 1, a pulse with its signs and speed, to 5, nothing
abbrev pub next_paper : Next → Paper
next_paper (Made s) = says 1 (signs_then s.signs (pos s.speed ∷ []))
next_paper Over = says 5 []
