-- What is planned passes the test of 103 where it is planned, and a circle has the arc length that was sent. Assumes nothing.
use Rattle.std.specs.Prelude.{Option, Result, Some, None, Ok, Err}
use Rattle.count.specs.declared.Fault.{Fault}
use Rattle.motion.specs.declared.Move.{Move}
use mathlib.Core.Path.{◌≡◌, refl, ap}
use mathlib.Core.Bool.{true, false}
use mathlib.Core.List.{List}
use Prim.Native.Nat.{ℕ}
use native.Mathlib.Omega.{arith}
use lib.ListN.{get_or}
use Rattle.count.specs.declared.Axis.TheVariants.{A}
use Rattle.count.specs.Axes.{has}
use Rattle.motion.specs.declared.Counters.{Counters}
use Rattle.motion.specs.Plan.{Asked, plan_of as straight_plan}
use Rattle.motion.specs.Sound.{counted}
use Rattle.motion.proofs.laws.Plans.{plan-sound as straight-sound}
use Rattle.motion.proofs.laws.ThreeD.{SameButZ2, with_words, right_asked, three-plan as straight-three}
use Rattle.circle.specs.declared.Circling.{Circling}
use Rattle.circle.specs.declared.Arc.{Arc}
use Rattle.circle.specs.Arc.{arc_left}
use Rattle.circle.specs.Plan.{bend_of}
use Rattle.circle.proofs.laws.Bends.{bends, bend-sound}
use Rattle.travel.specs.declared.Travel.{Travel}
use Rattle.travel.specs.Next.{left_of}
use Rattle.travel.specs.Plan.{straightly, roundly, plan_of, circle_of}
use Rattle.travel.specs.Sound.{under_way}

same : {s t : Travel} → ◌≡◌ {A = Result Travel Fault} (Ok s) (Ok t) → t ≡ s
same e = cc

never : {A : Type 0} {b : Fault} {t : Travel} → Err b ≡ Ok t → A
never p = let z : ◌≡◌ {A = ℕ} 0 1 = cc in absurd (omega arith)

-- A STRAIGHT MOVEMENT planned from counters of 24 bits
straight-by : (q : Asked) (m : Travel) → counted q.at ≡ true → (p : Option Move) → straight_plan q ≡ p → straightly p ≡ Ok m → under_way m q.at ≡ true
unfolding under_way
straight-by q m c (Some k) e p = rw (same p) (straight-sound q k c e)
straight-by q m c None e p = never p

pub plan-sound : (q : Asked) (m : Travel) → counted q.at ≡ true → plan_of q ≡ Ok m → under_way m q.at ≡ true
unfolding plan_of
plan-sound q m c p = straight-by q m c (straight_plan q) refl p

-- A CIRCLE
round_by : (axes : ℕ) (c : Circling) (at : Counters) (l : List ℕ) (m : Travel) (p : Result Arc Fault) → bend_of axes c at l ≡ p → roundly p ≡ Ok m → under_way m at ≡ true
unfolding under_way
round_by axes c at l m (Ok a) e p = rw (same p) (bend-sound axes c at l a e)
round_by axes c at l m (Err b) e p = never p

pub circle-sound : (axes : ℕ) (c : Circling) (at : Counters) (l : List ℕ) (m : Travel) → circle_of axes c at l ≡ Ok m → under_way m at ≡ true
unfolding circle_of
circle-sound axes c at l m p = round_by axes c at l m (bend_of axes c at l) refl p

-- which has as many pulses left as were sent
arc-left : (axes : ℕ) (c : Circling) (at : Counters) (l : List ℕ) {a : Arc} → bend_of axes c at l ≡ Ok a → arc_left a ≡ get_or l 0 0
unfolding arc_left
arc-left axes c at l e = rw (bends axes c at l e).is (omega arith)

left_by : (axes : ℕ) (c : Circling) (at : Counters) (l : List ℕ) (m : Travel) (p : Result Arc Fault) → bend_of axes c at l ≡ p → roundly p ≡ Ok m → left_of m ≡ get_or l 0 0
unfolding left_of
left_by axes c at l m (Ok a) e p = rw (same p) (arc-left axes c at l e)
left_by axes c at l m (Err b) e p = never p

pub circle-left : (axes : ℕ) (c : Circling) (at : Counters) (l : List ℕ) (m : Travel) → circle_of axes c at l ≡ Ok m → left_of m ≡ get_or l 0 0
unfolding circle_of
circle-left axes c at l m p = left_by axes c at l m (bend_of axes c at l) refl p

-- IN 3D the plan of a straight movement does not depend on z2; with A set there is no z2
pub three-plan : (q : Asked) (m : List ℕ) → SameButZ2 q.words m → has q.axes A ≡ false → right_asked q ≡ true → right_asked (with_words q m) ≡ true → q.three ≡ true
    → plan_of q ≡ plan_of (with_words q m)
unfolding plan_of
three-plan q m s n p r e = ap straightly (straight-three q m s n p r e)
