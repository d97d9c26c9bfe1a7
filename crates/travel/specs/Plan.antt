-- What is planned: a straight movement or a circle, or the reply that refuses it.
use Rattle.circle.specs.declared.Arc.{Arc}
use Rattle.count.specs.declared.Fault.TheVariants as fault
use Rattle.count.specs.declared.Fault.{Fault}
use Rattle.motion.specs.declared.Move.{Move}
use Rattle.std.specs.Prelude.{ℕ, List, Option, Result, Some, None, Ok, Err}
use Rattle.count.specs.Chars.{ch}
use Rattle.count.specs.Paper.{Paper}
use Rattle.count.specs.Refusals.{letter_of, fault_paper}
use Rattle.motion.specs.declared.Counters.{Counters}
use Rattle.motion.specs.Plan.{Asked, plan_of as straight_plan, planned_paper as straight_paper}
use Rattle.circle.specs.declared.Circling.{Circling}
use Rattle.circle.specs.Plan.{bend_of, bent_paper}
use Rattle.travel.specs.declared.Travel.{Travel}
use Rattle.travel.specs.declared.Travel.TheVariants as travel

-- a straight movement is refused 9 alone
abbrev pub straightly : Option Move → Result Travel Fault
straightly (Some m) = Ok (travel.Straight m)
straightly None = Err fault.Outside

unfoldable pub plan_of : Asked → Result Travel Fault
plan_of q = straightly (straight_plan q)

-- a circle 3, 1, D or 9
abbrev pub roundly : Result Arc Fault → Result Travel Fault
roundly (Ok a) = Ok (travel.Round a)
roundly (Err f) = Err f

unfoldable pub circle_of : ℕ → Circling → Counters → List ℕ → Result Travel Fault
circle_of axes c at l = roundly (bend_of axes c at l)

-- the reply: 0 where nothing refuses it
abbrev pub refusal : Result Travel Fault → ℕ
refusal (Ok t) = ch "0"
refusal (Err f) = letter_of f

-- on paper as straight movements and circles are
abbrev pub travel_paper : Travel → Paper
travel_paper (travel.Straight m) = straight_paper (Some m)
travel_paper (travel.Round a) = bent_paper (Ok a)

abbrev pub planned_paper : Result Travel Fault → Paper
planned_paper (Ok t) = travel_paper t
planned_paper (Err f) = fault_paper f
