-- What a plan says on paper: its reply goes by its resting points' replies, its last point is where the pulses lead, and its points and
-- speeds are those of the phases. Assumes nothing.
use Rattle.std.specs.Prelude.{Option, Some, None}
use Rattle.motion.specs.declared.Stepped.{Stepped}
use mathlib.Core.Path.{◌≡◌, refl, sym, ap, ◌∙◌}
use mathlib.Core.Bool.{Bool, true, false, ◌&&◌}
use mathlib.Core.List.{[], ◌∷◌}
use Prim.Native.Nat.{ℕ}
use lib.Dec.{eqb}
use lib.IntN.{pos}
use lib.ListN.{take, drop}
use Rattle.count.specs.Pick.{pick}
use Rattle.count.specs.Paper.{says}
use Rattle.count.specs.Numbers.{paper}
use Rattle.motion.specs.declared.Counters.{Counters}
use Rattle.motion.specs.declared.Move.{Move}
use Rattle.motion.specs.declared.Look.TheVariants as look
use Rattle.count.specs.Axes.{on_all}
use Rattle.motion.specs.Axes.{point_then}
use Rattle.motion.specs.Plan.{Asked, goal_of, goal_z2, lies, going_to, plan_of, planned_paper}
use Rattle.motion.specs.Next.{to_of, speed_at, at_phase, next_paper}
use Rattle.motion.specs.Sound.{counted, under_way}
use Rattle.motion.specs.work.Here.{next_of}
use Rattle.motion.specs.work.Beat.{beaten, looked_by, look_of, beaten_paper, look_paper}
use Rattle.motion.proofs.laws.Beats.{next-back}
use Rattle.motion.proofs.laws.Plans.{plan-sound, all_lie, route_of}
use Rattle.motion.proofs.laws.Whole.{all_pulses, reached, whole}

-- a resting point lies in 24 bits exactly if its reply is 0
lies-paper : (p : Option ℕ) → lies p ≡ eqb (paper p).number 48
lies-paper (Some c) = refl
lies-paper None = refl

-- A PLAN'S REPLY is 9 exactly if a resting point's is
pub goals-paper : (q : Asked)
    → (planned_paper (going_to q)).number ≡ pick (on_all (λ i. eqb (paper (goal_of q i)).number 48) && eqb (paper (goal_z2 q)).number 48) 48 57
unfolding going_to
goals-paper q = by (all_lie q) ∙ (λ j. pick (on_all (λ i. lies-paper (goal_of q i) j) && lies-paper (goal_z2 q) j) 48 57)
  where
    by : (b : Bool) → (planned_paper (pick b (Some (route_of q)) None)).number ≡ pick b 48 57
    by true = refl
    by false = refl

-- ITS LAST POINT is where all its pulses lead
pub end-paper : (q : Asked) (m : Move) → counted q.at ≡ true → plan_of q ≡ Some m
    → point_then (reached q.at (all_pulses m q.at)) [] ≡ take 4 (drop 8 (planned_paper (plan_of q)).values)
end-paper q m c e =
    ap (λ (p : Counters). point_then p []) (whole m q.at (plan-sound q m c e)).ends
    ∙ sym (ap (λ (g : Option Move). take 4 (drop 8 (planned_paper g).values)) e)

-- ITS POINTS AND SPEEDS are those that the phases go to and have, whatever the pulses made
pub phases-paper : (m : Move) (i j k n : ℕ)
    → (planned_paper (Some m)).values
    ≡ point_then (to_of (at_phase m 0 i)) (point_then (to_of (at_phase m 1 j)) (point_then (to_of (at_phase m 2 k))
    (pos (speed_at (at_phase m 0 i) n) ∷ pos (speed_at (at_phase m 1 j) n) ∷ pos (speed_at (at_phase m 2 k) n) ∷ [])))
unfolding to_of speed_at
phases-paper m i j k n = refl

-- A PULSE WITHOUT THE MOVEMENT says what the pulse says, and so does a look at a movement that 103 lets pass; what it refuses is 103
pub beaten-paper : (m : Move) (at : Counters) → beaten_paper m (beaten (next_of m at)) ≡ next_paper (next_of m at)
beaten-paper m at = ap next_paper (next-back m at)

looked-paper : (m : Move) (n : Option Stepped) → look_paper m (looked_by n) ≡ beaten_paper m (beaten n)
looked-paper m (Some s) = refl
looked-paper m None = refl

pub look-paper : (m : Move) (at : Counters) → look_paper m (look_of m at) ≡ pick (under_way m at) (next_paper (next_of m at)) (says 103 [])
unfolding look_of
look-paper m at = by (under_way m at)
  where
    by : (b : Bool) → look_paper m (pick b (looked_by (next_of m at)) look.Wrong) ≡ pick b (next_paper (next_of m at)) (says 103 [])
    by true = looked-paper m (next_of m at) ∙ beaten-paper m at
    by false = refl
