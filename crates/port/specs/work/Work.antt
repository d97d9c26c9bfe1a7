-- Forms that the code goes through.
use Rattle.std.specs.Prelude.{ℕ, Bool, true, false, Option, Some, None}
use Rattle.motion.specs.declared.Counters.{Counters}
use Rattle.motion.specs.declared.Move.{Move}
use Rattle.travel.specs.declared.Travel.{Travel}
use Rattle.engine.specs.declared.Act.{Act}
use Rattle.engine.specs.declared.Act.TheVariants as act
use Rattle.port.specs.declared.Round.{Round}
use Rattle.port.specs.declared.State.{State}
use Rattle.port.specs.Code.{straight_in, round_in, kind_in}

-- nothing runs
abbrev pub is_still : Act → Bool
is_still act.Wrong = false
is_still act.Still = true
is_still (act.Pulse b) = false
is_still (act.Pause q) = false
is_still act.Finish = false
is_still act.Record = false

-- a state with other counters and another movement or arc
abbrev pub moved : State → Counters → Move → Round → State
moved s at straight round =
    record {
      at = at;
      origin = s.origin;
      straight = straight;
      round = round;
      held = s.held;
      place = s.place;
      number = s.number;
      loops = s.loops;
      line = s.line;
      len = s.len;
      over = s.over;
      standing = s.standing;
      axes = s.axes;
      three = s.three;
      plane = s.plane;
      direction = s.direction;
      output = s.output;
      job = s.job;
      kind = s.kind;
      byte = s.byte;
    }

-- what moves, if something does, written over what stood there
abbrev pub of_under : {A : Type 0} → (Travel → A) → A → Option Travel → A
of_under f old (Some t) = f t
of_under f old None = old

unfoldable pub straight_under : Option Travel → Move → Move
straight_under u old = of_under (λ t. straight_in t old) old u

unfoldable pub round_under : Option Travel → Round → Round
round_under u old = of_under (λ t. round_in t old) old u

unfoldable pub kind_under : Option Travel → ℕ → ℕ
kind_under u old = of_under kind_in old u
