-- The next pulse of a movement (01, "Movement", paragraph 2).
use Rattle.std.specs.Prelude.{[], ◌∷◌, ℕ, ◌+◌, ◌-◌, ltb, leb, eqb, pos, Option, Some, None}
use Rattle.count.specs.Pick.{pick}
use Rattle.count.specs.Paper.{Paper, says}
use Rattle.motion.specs.declared.Sign.{Sign}
use Rattle.motion.specs.declared.Signs.{Signs}
use Rattle.motion.specs.declared.Counters.{Counters}
use Rattle.motion.specs.declared.Move.{Move}
use Rattle.motion.specs.declared.Stepped.{Stepped}
use Rattle.motion.specs.Axes.{on, pulse}
use Rattle.motion.specs.Phase.{pulses, sign_at, moved_all, signs_then}

-- where a phase starts and ends. A movement past its third phase is over: it stays where that phase ended.
unfoldable pub from_of : Move → Counters
from_of m = pick (eqb m.phase 0) m.start (pick (eqb m.phase 1) m.first (pick (eqb m.phase 2) m.second m.third))

unfoldable pub to_of : Move → Counters
to_of m = pick (eqb m.phase 0) m.first (pick (eqb m.phase 1) m.second m.third)

-- the pulses of the phase under way
abbrev pub leg : Move → ℕ
leg m = pulses (from_of m) (to_of m)

-- the speed of pulse k of a phase: the phase's, for each of its pulses; past the third there is no pulse
unfoldable pub speed_at : Move → ℕ → ℕ
speed_at m k = pick (eqb m.phase 0) m.speed1 (pick (eqb m.phase 1) m.speed2 m.speed3)

abbrev pub at_phase : Move → ℕ → ℕ → Move
at_phase m p k = record {
  start = m.start;
  first = m.first;
  second = m.second;
  third = m.third;
  speed1 = m.speed1;
  speed2 = m.speed2;
  speed3 = m.speed3;
  phase = p;
  made = k;
}

-- a phase whose pulses are made, or that has none, gives way to the next without a call; past the third there is no next
unfoldable pub skipped : Move → Move
skipped m = pick (leb 3 m.phase) m (pick (ltb m.made (leg m)) m (at_phase m (m.phase + 1) 0))

abbrev pub settled : Move → Move
settled m = skipped (skipped (skipped m))

-- a rule says what a pulse shows on an axis, from where the axis stands, the phase's ends on it, the pulses made and their number
abbrev pub SignRule : Type 0
SignRule = ℕ → ℕ → ℕ → ℕ → ℕ → Sign

abbrev pub signs_by : SignRule → Counters → Counters → Counters → ℕ → ℕ → Signs
signs_by rule at from to k n = pulse (λ i. rule (on i at) (on i from) (on i to) k n)

-- one pulse with its signs: the counters that much further, and one pulse more made
abbrev pub stepped : Move → Counters → Signs → Stepped
stepped m at s = record { signs = s; speed = speed_at m (m.made + 1); at = moved_all at s; rest = at_phase m m.phase (m.made + 1) }

-- the next pulse of the phase under way, or that it has none left
abbrev pub within_by : SignRule → Move → Counters → Option Stepped
within_by rule m at = pick (ltb m.made (leg m)) (Some (stepped m at (signs_by rule at (from_of m) (to_of m) m.made (leg m)))) None

-- the next pulse of a movement, or that it has none left
unfoldable pub next_by : SignRule → Move → Counters → Option Stepped
next_by rule m at = within_by rule (settled m) at

-- by 01's formula: the rule that the board and every promise cite
unfoldable pub pulse_of : Move → Counters → Option Stepped
pulse_of m at = next_by (λ here from to k n. sign_at k from to n) m at

-- the pulses of the phases after the one under way; after the third, and past it, there are none
unfoldable pub after_of : Move → ℕ
after_of m =
    pick (eqb m.phase 0) (pulses m.first m.second + pulses m.second m.third)
    (pick (eqb m.phase 1) (pulses m.second m.third) 0)

-- the pulses still to make: of this phase and of those after it
unfoldable pub left_of : Move → ℕ
left_of m = (leg m - m.made) + after_of m

-- the clock's answers are 1, a pulse with its signs and speed, to 5, nothing
abbrev pub next_paper : Option Stepped → Paper
next_paper (Some s) = says 1 (signs_then s.signs (pos s.speed ∷ []))
next_paper None = says 5 []
