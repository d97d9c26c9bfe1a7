-- What pulses and plans say on paper: what those of straight movements and of circles say. Assumes nothing.
use Rattle.std.specs.Prelude.{Option, Result, Some, None, Ok, Err}
use Rattle.circle.specs.declared.Arc.{Arc}
use Rattle.count.specs.declared.Fault.{Fault}
use Rattle.motion.specs.declared.Stepped.{Stepped as StraightStepped}
use mathlib.Core.Path.{◌≡◌, refl, ap, ◌∙◌}
use mathlib.Core.Bool.{Bool, true, false}
use mathlib.Core.List.{List, []}
use Prim.Native.Nat.{ℕ}
use Rattle.count.specs.Pick.{pick}
use Rattle.count.specs.Paper.{says}
use Rattle.motion.specs.declared.Counters.{Counters}
use Rattle.motion.specs.declared.Move.{Move}
use Rattle.motion.specs.declared.Look.TheVariants as look
use Rattle.motion.specs.Next.{pulse_of as straight_pulse, next_paper as straight_next_paper}
use Rattle.motion.specs.Plan.{Asked, plan_of as straight_plan, planned_paper as straight_paper}
use Rattle.circle.specs.declared.Circling.{Circling}
use Rattle.circle.specs.Plan.{bend_of, bent_paper}
use Rattle.travel.specs.declared.Travel.{Travel}
use Rattle.travel.specs.declared.Travel.TheVariants as travel
use Rattle.travel.specs.Next.{Next, straight_next, pulse_of, next_paper}
use Rattle.travel.specs.Next.Next.{Made, Over}
use Rattle.travel.specs.Plan.{straightly, roundly, plan_of, circle_of, refusal, travel_paper, planned_paper}
use Rattle.travel.specs.Sound.{under_way}
use Rattle.travel.specs.work.Beat.{next_of, beaten, looked_by, look_of, beaten_paper, look_paper}
use Rattle.travel.proofs.laws.Beats.{next-back}

-- A PULSE of a straight movement says what 01's says
pub straight-paper : (m : Move) (at : Counters) → next_paper (pulse_of (travel.Straight m) at) ≡ straight_next_paper (straight_pulse m at)
unfolding pulse_of
straight-paper m at = by (straight_pulse m at)
  where
    by : (n : Option StraightStepped) → next_paper (straight_next n) ≡ straight_next_paper n
    by (Some s) = refl
    by None = refl

-- A PULSE WITHOUT WHAT MOVES says what the pulse says, and so does a look at what 103 lets pass; what it refuses is 103
pub beaten-paper : (m : Travel) (at : Counters) → beaten_paper m (beaten (next_of m at)) ≡ next_paper (next_of m at)
beaten-paper m at = ap next_paper (next-back m at)

looked-paper : (m : Travel) (n : Next) → look_paper m (looked_by n) ≡ beaten_paper m (beaten n)
looked-paper m (Made s) = refl
looked-paper m Over = refl

pub look-paper : (m : Travel) (at : Counters) → look_paper m (look_of m at) ≡ pick (under_way m at) (next_paper (next_of m at)) (says 103 [])
unfolding look_of
look-paper m at = by (under_way m at)
  where
    by : (b : Bool) → look_paper m (pick b (looked_by (next_of m at)) look.Wrong) ≡ pick b (next_paper (next_of m at)) (says 103 [])
    by true = looked-paper m (next_of m at) ∙ beaten-paper m at
    by false = refl

-- A PLAN says what the straight movement's or the circle's says, and its number is its reply
pub plan-paper : (q : Asked) → planned_paper (plan_of q) ≡ straight_paper (straight_plan q)
unfolding plan_of
plan-paper q = by (straight_plan q)
  where
    by : (p : Option Move) → planned_paper (straightly p) ≡ straight_paper p
    by (Some m) = refl
    by None = refl

pub circle-paper : (axes : ℕ) (c : Circling) (at : Counters) (l : List ℕ) → planned_paper (circle_of axes c at l) ≡ bent_paper (bend_of axes c at l)
unfolding circle_of
circle-paper axes c at l = by (bend_of axes c at l)
  where
    by : (b : Result Arc Fault) → planned_paper (roundly b) ≡ bent_paper b
    by (Ok a) = refl
    by (Err b) = refl

going-number : (t : Travel) → (travel_paper t).number ≡ refusal (Ok t)
going-number (travel.Straight m) = refl
going-number (travel.Round a) = refl

pub refusal-paper : (p : Result Travel Fault) → (planned_paper p).number ≡ refusal p
refusal-paper (Ok t) = going-number t
refusal-paper (Err b) = refl
