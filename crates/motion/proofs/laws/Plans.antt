-- The laws of a plan: its resting points lie in 24 bits, its speeds in range. Assumes nothing.
use Rattle.std.specs.Prelude.{Option, Some, None}
use mathlib.Core.Path.{◌≡◌, refl, sym, ◌∙◌}
use mathlib.Core.Bool.{Bool, true, false, ◌&&◌, ◌||◌, not}
use mathlib.Core.List.{List}
use Prim.Native.Nat.{ℕ, ◌≤◌, ◌<◌}
use native.Mathlib.Omega.{arith}
use lib.Dec.{ltb, leb, eqb}
use lib.IntN.{ℤ, pos, negsuc, ◌+ℤ◌}
use lib.Signed.{le_z}
use lib.ListN.{get_or}
use borrow.Author.Tests.{ltb-true, leb-true, eqb-true}
use Rattle.count.specs.Pick.{pick}
use Rattle.count.specs.Numbers.{far, full, value, signed, within, in24, count, placed as place_of, added}
use Rattle.count.specs.declared.Axis.{Axis}
use Rattle.count.specs.declared.Axis.TheVariants.{X, Y, Z, A}
use Rattle.count.specs.Axes.{has, on_all}
use Rattle.count.specs.Ranges.{in_speed, nth, one_pair, two_pairs, four_pairs, right_distances, right_speeds}
use Rattle.count.proofs.laws.Laws.{within-up}
use Rattle.count.proofs.laws.Truth.{never, and_left, and_right}
use Rattle.motion.specs.declared.Counters.{Counters}
use Rattle.motion.specs.declared.Move.{Move}
use Rattle.motion.specs.Axes.{on, point}
use Rattle.motion.specs.Plan.{Asked, asked, goal, slot, goal_of, goal_z2, moves_z2, on_from, first_speed, later_speed, phase_of, resting_at, with_z, route, lies, count_of, going_to, plan_of}
use Rattle.motion.specs.Next.{from_of, to_of}
use Rattle.motion.specs.Sound.{speed_right, counted, under_way}
use Rattle.motion.proofs.laws.Axis.{count-first}
use Rattle.motion.proofs.laws.Points.{on-point}
use Rattle.motion.proofs.laws.Pulses.{In24}
use Rattle.motion.proofs.laws.Passed.{Passed, passes, in24-of}

-- ---- resting points

-- a place that is in 24 bits, or none
abbrev pub Fits : Option ℕ → Type 0
Fits (Some c) = c < full
Fits None = 0 ≤ 0

count_fits : (z : ℤ) → le_z z (pos 8388607) ≡ true → count z < full
count_fits (pos n) e = omega (arith, leb-true n 8388607 e)
count_fits (negsuc n) e = omega arith

place-by : (t : Bool) (z : ℤ) → in24 z ≡ t → Fits (pick t (Some (count z)) None)
unfolding in24 within
place-by true z e = count_fits z (and_right (le_z (negsuc 8388607) z) (le_z z (pos 8388607)) e)
place-by false z e = omega arith

pub added-fits : (c w : ℕ) → Fits (added c w)
unfolding added place_of
added-fits c w = place-by (in24 (value c +ℤ signed w)) (value c +ℤ signed w) refl

pick-fits : (t : Bool) (a b : Option ℕ) → Fits a → Fits b → Fits (pick t a b)
pick-fits true a b p q = p
pick-fits false a b p q = q

goal-fits : (t : Bool) (at o w : ℕ) → Fits (goal t at o w)
unfolding goal
goal-fits t at o w = pick-fits t (added o w) (added at w) (added-fits o w) (added-fits at w)

on_fits : (p : Option ℕ) (w : ℕ) → Fits p → Fits (on_from p w)
on_fits (Some c) w h = added-fits c w
on_fits None w h = h

module _ (q : Asked) (h : In24 q.at) where
  pub fits_on : (i : Axis) → Fits (goal_of q i)
  unfolding goal_of
  fits_on i =
      pick-fits (has q.axes i) _ (Some (on i q.at))
      (goal-fits q.absolute (on i q.at) (on i q.origin) (get_or q.words (slot q.axes i) 0)) (h.each i)

  pub fits-z2 : Fits (goal_z2 q)
  unfolding goal_z2
  fits-z2 = pick-fits (moves_z2 q) _ (goal_of q Z) (on_fits (goal_of q Z) (get_or q.words 6 0) (fits_on Z)) (fits_on Z)

-- its count is of 24 bits
fits_count : (p : Option ℕ) → Fits p → count_of p < full
fits_count (Some c) h = h
fits_count None h = omega arith

-- ---- speeds

-- a word's speed
pub speed-word : (w : ℕ) → in_speed (signed w) ≡ true → speed_right w ≡ true
unfolding in_speed
speed-word w e = sym (within-up 30 10000 w (omega arith)) ∙ e

-- axes of one pair have neither y nor z, and those of two have no z
one-flat : (axes : ℕ) → one_pair axes ≡ true → (has axes Y ≡ false) × (has axes Z ≡ false)
one-flat axes e = by (eqb axes 1) refl e
  where
    by : (t : Bool) → eqb axes 1 ≡ t → t || eqb axes 8 ≡ true → (has axes Y ≡ false) × (has axes Z ≡ false)
    by true f g = rw (eqb-true axes 1 f) (refl, refl)
    by false f g = rw (eqb-true axes 8 g) (refl, refl)

two-flat : (axes : ℕ) → two_pairs axes ≡ true → has axes Z ≡ false
two-flat axes e = rw (eqb-true axes 3 e)

-- so an axis that is set has its speed among the right ones
module _ (axes : ℕ) (l : List ℕ) (h : right_speeds axes l ≡ true) where
  one-by : (a b c p q r s : Bool) → pick a p (pick b (p && q) (pick c (p && q && r && s) false)) ≡ true → p ≡ true
  one-by true b c p q r s e = e
  one-by false true c p q r s e = and_left p q e
  one-by false false true p q r s e = and_left p q (and_left (p && q) r (and_left (p && q && r) s e))
  one-by false false false p q r s e = never e

  two-by : (a b c p q r s : Bool) → one_pair axes ≡ a → has axes Y ≡ true → pick a p (pick b (p && q) (pick c (p && q && r && s) false)) ≡ true → q ≡ true
  two-by true b c p q r s f g e = never (sym (one-flat axes f).0 ∙ g)
  two-by false true c p q r s f g e = and_right p q e
  two-by false false true p q r s f g e = and_right p q (and_left (p && q) r (and_left (p && q && r) s e))
  two-by false false false p q r s f g e = never e

  four-by : (a b c p q r s : Bool) → one_pair axes ≡ a → two_pairs axes ≡ b → has axes Z ≡ true → pick a p (pick b (p && q) (pick c (p && q && r && s) false)) ≡ true
      → (r ≡ true) × (s ≡ true)
  four-by true b c p q r s f g k e = never (sym (one-flat axes f).1 ∙ k)
  four-by false true c p q r s f g k e = never (sym (two-flat axes g) ∙ k)
  four-by false false true p q r s f g k e = (and_right (p && q) r (and_left (p && q && r) s e), and_right (p && q && r) s e)
  four-by false false false p q r s f g k e = never e

  abbrev v : ℕ → Bool
  v i = in_speed (nth l i)

  speed-1 : speed_right (get_or l 1 0) ≡ true
  unfolding right_speeds
  speed-1 = speed-word (get_or l 1 0) (one-by (one_pair axes) (two_pairs axes) (four_pairs axes) (v 1) (v 3) (v 5) (v 7) h)

  speed-3 : has axes Y ≡ true → speed_right (get_or l 3 0) ≡ true
  unfolding right_speeds
  speed-3 k = speed-word (get_or l 3 0) (two-by (one_pair axes) (two_pairs axes) (four_pairs axes) (v 1) (v 3) (v 5) (v 7) refl k h)

  speed-5 : has axes Z ≡ true → speed_right (get_or l 5 0) ≡ true
  unfolding right_speeds
  speed-5 k = speed-word (get_or l 5 0) (four-by (one_pair axes) (two_pairs axes) (four_pairs axes) (v 1) (v 3) (v 5) (v 7) refl refl k h).0

  speed-7 : has axes Z ≡ true → speed_right (get_or l 7 0) ≡ true
  unfolding right_speeds
  speed-7 k = speed-word (get_or l 7 0) (four-by (one_pair axes) (two_pairs axes) (four_pairs axes) (v 1) (v 3) (v 5) (v 7) refl refl k h).1

-- the speeds of a plan are in range: the y speed is taken only where y moves, and a later one only where z is set
module _ (q : Asked) (h : right_speeds q.axes q.words ≡ true) where
  -- y moves only where it is set
  set-y : (goals : Counters) → goals.y ≡ count_of (goal_of q Y) → far q.at.x goals.x < far q.at.y goals.y → has q.axes Y ≡ true
  unfolding goal_of
  set-y goals e l = by (has q.axes Y) refl
    where
      by : (t : Bool) → has q.axes Y ≡ t → has q.axes Y ≡ true
      by true f = f
      by false f =
          let g : goals.y ≡ q.at.y = rw f at e in
          absurd (omega arith)

  first_by : (t u : Bool) (goals : Counters) → ltb (far q.at.x goals.x) (far q.at.y goals.y) ≡ u → goals.y ≡ count_of (goal_of q Y)
      → speed_right (pick t (get_or q.words 1 0) (pick u (get_or q.words 3 0) (get_or q.words 1 0))) ≡ true
  first_by true u goals f e = speed-1 q.axes q.words h
  first_by false true goals f e = speed-3 q.axes q.words h (set-y goals e (ltb-true _ _ f))
  first_by false false goals f e = speed-1 q.axes q.words h

  pub first-right : (goals : Counters) → goals.y ≡ count_of (goal_of q Y) → speed_right (first_speed q goals) ≡ true
  unfolding first_speed
  first-right goals e = first_by q.three (ltb (far q.at.x goals.x) (far q.at.y goals.y)) goals refl e

  later-by : (i : ℕ) → (has q.axes Z ≡ true → speed_right (get_or q.words i 0) ≡ true) → (t u : Bool) → has q.axes Z ≡ t
      → speed_right (pick (t && u) (get_or q.words i 0) (get_or q.words 1 0)) ≡ true
  later-by i f true true e = f e
  later-by i f true false e = speed-1 q.axes q.words h
  later-by i f false u e = speed-1 q.axes q.words h

  pub second-right : speed_right (later_speed q 5) ≡ true
  unfolding later_speed
  second-right = later-by 5 (speed-5 q.axes q.words h) (has q.axes Z) (not q.three) refl

  pub third-right : speed_right (later_speed q 7) ≡ true
  unfolding later_speed
  third-right = later-by 7 (speed-7 q.axes q.words h) (has q.axes Z) (not q.three) refl

-- ---- a planned movement passes the test of 103 where it was planned

not_going : {A : Type 0} {m : Move} → None ≡ Some m → A
not_going p = let z : ◌≡◌ {A = ℕ} 0 1 = cc in absurd (omega arith)

-- the goals and the end of z2 as counts, and the plan by whether all of them lie in 24 bits
abbrev pub goals_of : Asked → Counters
goals_of q = point (λ i. count_of (goal_of q i))

abbrev pub all_lie : Asked → Bool
all_lie q = on_all (λ i. lies (goal_of q i)) && lies (goal_z2 q)

abbrev pub route_of : Asked → Move
route_of q = route q (goals_of q) (count_of (goal_z2 q))

pick_small : (t : Bool) (a b : ℕ) → a < full → b < full → pick t a b < full
pick_small true a b p q = p
pick_small false a b p q = q

module _ (q : Asked) (h : In24 q.at) (v : right_speeds q.axes q.words ≡ true) where
  goals-in : In24 (goals_of q)
  goals-in = record { each = λ i. rw (on-point (λ (j : Axis). count_of (goal_of q j)) i) (fits_count (goal_of q i) (fits_on q h i)) }

  resting-in : (p : ℕ) → In24 (resting_at q (goals_of q) p)
  resting-in p = record {
    each = λ i. rw (on-point (λ (j : Axis). pick (leb (phase_of j) p || q.three) (on j (goals_of q)) (on j q.at)) i)
        (pick_small (leb (phase_of i) p || q.three) (on i (goals_of q)) (on i q.at) (goals-in.each i) (h.each i));
  }

  with-z-in : (c : Counters) (z : ℕ) → In24 c → z < full → In24 (with_z c z)
  with-z-in c z k l = record { each = by }
    where
      by : (i : Axis) → on i (with_z c z) < full
      by X = k.each X
      by Y = k.each Y
      by Z = l
      by A = k.each A

  route-passes : Passed (route_of q) q.at
  unfolding route from_of to_of
  route-passes = record {
    ranges = record {
      speed1 = first-right q v (goals_of q) refl;
      speed2 = second-right q v;
      speed3 = third-right q v;
      start = h;
      first = resting-in 0;
      second = resting-in 1;
      third = with-z-in (resting_at q (goals_of q) 2) (count_of (goal_z2 q)) (resting-in 2) (fits_count (goal_z2 q) (fits-z2 q h));
    };
    phase = omega arith;
    made = omega arith;
    stands = λ i. sym (count-first _ _ _);
  }

planned-by : (t : Bool) (p : Option Move) {m : Move} → pick t p None ≡ Some m → (t ≡ true) × (p ≡ Some m)
planned-by true p e = (refl, e)
planned-by false p e = not_going e

-- a plan is the movement to its goals
pub planned-route : (q : Asked) (m : Move) → plan_of q ≡ Some m → (right_speeds q.axes q.words ≡ true) × (route_of q ≡ m)
unfolding plan_of going_to
planned-route q m e =
    let d = right_distances q.axes q.absolute q.words in
    let b = planned-by (d && right_speeds q.axes q.words) (going_to q) e in
    let g = (planned-by (all_lie q) (Some (route_of q)) b.1).1 in
    (and_right d (right_speeds q.axes q.words) b.0, cc)

-- one planned from counters of 24 bits, whatever the origins
pub plan-sound : (q : Asked) (m : Move) → counted q.at ≡ true → plan_of q ≡ Some m → under_way m q.at ≡ true
plan-sound q m c e =
    let b = planned-route q m e in
    rw (← b.1) (passes (route_of q) q.at (route-passes q (in24-of q.at c) b.0))

-- which starts at its first pulse, where the counters stand
pub planned-first : (q : Asked) (m : Move) → plan_of q ≡ Some m → (m.phase ≡ 0) × (m.made ≡ 0) × (m.start ≡ q.at)
unfolding route
planned-first q m e = rw (← (planned-route q m e).1) (refl, refl, refl)

-- ---- a relative movement does not use the origin

module _ (axes : ℕ) (three : Bool) (at o o' : Counters) (words : List ℕ) where
  pub relative : plan_of (asked axes three at o false words) ≡ plan_of (asked axes three at o' false words)
  unfolding plan_of going_to goal_of goal_z2 goal route first_speed later_speed
  relative = refl
