-- z2 stays in 3D: two movements asked for whose numbers are right and differ in z2 alone have the same plan, so the same pulses with the
-- same speeds and the same end. The same holds of absolute movement. With A set there is no z2. Assumes nothing.
use Rattle.std.specs.Prelude.{Some, None}
use mathlib.Core.Path.{◌≡◌, refl, sym, ap, ◌∙◌}
use mathlib.Core.Bool.{Bool, true, false, ◌&&◌, not}
use mathlib.Core.List.{List}
use Prim.Native.Nat.{ℕ}
use native.Mathlib.Omega.{arith}
use lib.Dec.{ltb, eqb}
use lib.ListN.{get_or}
use Rattle.count.specs.Pick.{pick}
use Rattle.count.specs.Numbers.{far}
use Rattle.count.specs.declared.Axis.{Axis}
use Rattle.count.specs.declared.Axis.TheVariants.{X, Y, Z, A}
use Rattle.count.specs.Axes.{has, on_all}
use Rattle.count.specs.Ranges.{right_distances, right_speeds}
use Rattle.motion.specs.declared.Counters.{Counters}
use Rattle.motion.specs.declared.Move.{Move}
use Rattle.motion.specs.Axes.{point}
use Rattle.motion.specs.Plan.{Asked, asked, goal, goal_of, goal_z2, moves_z2, on_from, first_speed, later_speed, resting_at, with_z, route, lies, count_of, going_to, plan_of}
use Rattle.motion.proofs.laws.Whole.{all_pulses}

-- the same numbers but for z2, which stands at 6
pub record SameButZ2 (l m : List ℕ) : Type 0 where
  pub others : (i : ℕ) → (i ≡ 6 → ⊥) → get_or l i 0 ≡ get_or m i 0

-- the same movement asked for with other numbers
abbrev pub with_words : Asked → List ℕ → Asked
with_words q m = asked q.axes q.three q.at q.origin q.absolute m

-- the numbers are a movement's: right distances and right speeds
abbrev pub right_asked : Asked → Bool
right_asked q = right_distances q.axes q.absolute q.words && right_speeds q.axes q.words

plan-right : (q : Asked) → right_asked q ≡ true → plan_of q ≡ going_to q
unfolding plan_of
plan-right q e = ap (λ (b : Bool). pick b (going_to q) None) e

still-three : (a c : Bool) → a && not true && c ≡ false
still-three true c = refl
still-three false c = refl

still-absolute : (a c : Bool) → a && c && not true ≡ false
still-absolute true true = refl
still-absolute true false = refl
still-absolute false c = refl

pub three-still : (q : Asked) → q.three ≡ true → moves_z2 q ≡ false
three-still q e = ap (λ (b : Bool). eqb q.axes 7 && not b && not q.absolute) e ∙ still-three (eqb q.axes 7) (not q.absolute)

pub absolute-still : (q : Asked) → q.absolute ≡ true → moves_z2 q ≡ false
absolute-still q e = ap (λ (b : Bool). eqb q.axes 7 && not q.three && not b) e ∙ still-absolute (eqb q.axes 7) (not q.three)

-- where z2 does not move, the movement ends where z1 rests
pub still-z2 : (q : Asked) → moves_z2 q ≡ false → goal_z2 q ≡ goal_of q Z
unfolding goal_z2
still-z2 q e = ap (λ (b : Bool). pick b (on_from (goal_of q Z) (get_or q.words 6 0)) (goal_of q Z)) e

-- with A the number at 6 is A's, so z2 is one without A only
module _ (q : Asked) (m : List ℕ) (s : SameButZ2 q.words m) (no : has q.axes A ≡ false) where
  w0 : get_or q.words 0 0 ≡ get_or m 0 0
  w0 = s.others 0 (λ e. omega arith)

  w1 : get_or q.words 1 0 ≡ get_or m 1 0
  w1 = s.others 1 (λ e. omega arith)

  w2 : get_or q.words 2 0 ≡ get_or m 2 0
  w2 = s.others 2 (λ e. omega arith)

  w3 : get_or q.words 3 0 ≡ get_or m 3 0
  w3 = s.others 3 (λ e. omega arith)

  w4 : get_or q.words 4 0 ≡ get_or m 4 0
  w4 = s.others 4 (λ e. omega arith)

  w5 : get_or q.words 5 0 ≡ get_or m 5 0
  w5 = s.others 5 (λ e. omega arith)

  w7 : get_or q.words 7 0 ≡ get_or m 7 0
  w7 = s.others 7 (λ e. omega arith)

  goal-same : (i : Axis) → goal_of q i ≡ goal_of (with_words q m) i
  unfolding goal_of
  goal-same X = λ j. pick (has q.axes X) (goal q.absolute q.at.x q.origin.x (w0 j)) (Some q.at.x)
  goal-same Y = λ j. pick (has q.axes Y) (goal q.absolute q.at.y q.origin.y (w2 j)) (Some q.at.y)
  goal-same Z = λ j. pick (has q.axes Z) (goal q.absolute q.at.z q.origin.z (w4 j)) (Some q.at.z)
  goal-same A = rw no

  z2-same : moves_z2 q ≡ false → goal_z2 q ≡ goal_z2 (with_words q m)
  z2-same n = still-z2 q n ∙ goal-same Z ∙ sym (still-z2 (with_words q m) n)

  first-same : (goals : Counters) → first_speed q goals ≡ first_speed (with_words q m) goals
  unfolding first_speed
  first-same goals = λ j. pick q.three (w1 j) (pick (ltb (far q.at.x goals.x) (far q.at.y goals.y)) (w3 j) (w1 j))

  later_same : (k : ℕ) → get_or q.words k 0 ≡ get_or m k 0 → later_speed q k ≡ later_speed (with_words q m) k
  unfolding later_speed
  later_same k w = λ j. pick (has q.axes Z && not q.three) (w j) (w1 j)

  route-same : (goals : Counters) (z2 : ℕ) → route q goals z2 ≡ route (with_words q m) goals z2
  unfolding route
  route-same goals z2 = λ j. record {
    start = q.at;
    first = resting_at q goals 0;
    second = resting_at q goals 1;
    third = with_z (resting_at q goals 2) z2;
    speed1 = first-same goals j;
    speed2 = later_same 5 w5 j;
    speed3 = later_same 7 w7 j;
    phase = 0;
    made = 0;
  }

  going-same : moves_z2 q ≡ false → going_to q ≡ going_to (with_words q m)
  unfolding going_to
  going-same n = λ j. pick (on_all (λ i. lies (goal-same i j)) && lies (z2-same n j))
      (Some (route-same (point (λ i. count_of (goal-same i j))) (count_of (z2-same n j)) j)) None

  module _ (p : right_asked q ≡ true) (r : right_asked (with_words q m) ≡ true) where
    pub still-plan : moves_z2 q ≡ false → plan_of q ≡ plan_of (with_words q m)
    still-plan n = plan-right q p ∙ going-same n ∙ sym (plan-right (with_words q m) r)

    -- IN 3D THE PLAN DOES NOT DEPEND ON Z2
    pub three-plan : q.three ≡ true → plan_of q ≡ plan_of (with_words q m)
    three-plan e = still-plan (three-still q e)

    -- nor does it in absolute movement
    pub absolute-plan : q.absolute ≡ true → plan_of q ≡ plan_of (with_words q m)
    absolute-plan e = still-plan (absolute-still q e)

    -- so every pulse, its speed and where it leads are the same, and the last resting point
    pub three-pulses : (f g : Move) → q.three ≡ true → plan_of q ≡ Some f → plan_of (with_words q m) ≡ Some g
        → (all_pulses f q.at ≡ all_pulses g q.at) × (f.third ≡ g.third)
    three-pulses f g e a b =
        let c = three-plan e in
        let h : f ≡ g = cc in
        (ap (λ (o : Move). all_pulses o q.at) h, ap (λ (o : Move). o.third) h)
