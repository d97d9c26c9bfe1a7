-- A planned arc passes the test of 103 where it is planned, and has the length that was sent. Assumes nothing.
use Rattle.std.specs.Prelude.{Ok, Err}
use Rattle.count.specs.declared.Fault.{Fault}
use Rattle.count.specs.declared.Fault.TheVariants as fault
use mathlib.Core.Path.{◌≡◌, refl, ◌∙◌}
use mathlib.Core.Bool.{Bool, true, false, not, ◌&&◌}
use mathlib.Core.List.{List}
use Prim.Native.Nat.{ℕ, suc, ◌+◌, ◌-◌, ◌*◌, ◌≤◌, ◌<◌}
use native.Mathlib.Omega.{arith}
use lib.Dec.{ltb, leb, eqb}
use lib.IntN.{ℤ, pos, negsuc, ◌+ℤ◌}
use lib.ListN.{get_or}
use borrow.Author.Tests.{le-leb, ltb-true, ltb-false, leb-true, leb-false, ne_eqb, eq-eqb}
use Rattle.count.specs.Pick.{pick}
use Rattle.count.specs.Numbers.{within, in24, far, half, full, value, count}
use Rattle.count.specs.Ranges.{in_start, in_zero, in_speed, in_arc, in_way, nth, right_arc}
use Rattle.count.proofs.laws.Laws.{sub-pos, sub-neg, sub-eq, sub-plus, sub-minus}
use Rattle.count.proofs.laws.Truth.{and_left, and_right, both}
use Rattle.motion.specs.declared.Counters.{Counters}
use Rattle.motion.specs.Sound.{counted}
use Rattle.motion.proofs.laws.Plans.{speed-word}
use Rattle.circle.specs.declared.Circling.{Circling}
use Rattle.circle.specs.declared.Pair.{Pair}
use Rattle.circle.specs.declared.Arc.{Arc}
use Rattle.circle.specs.Rule.{on_plane, measure}
use Rattle.circle.specs.Arc.{zero}
use Rattle.circle.specs.Plan.{plane_set, start_of, ways_fit, less, centre_of, reaches, reach_of, has_room, arc_from, going_by, bend_of}
use Rattle.circle.specs.Sound.{start_sound, point_sound, arc_under_way}
use Rattle.circle.proofs.laws.Roots.{square-up}
use Rattle.circle.proofs.laws.Arcs.{passes, apart_of, point-sound, reach-high}

-- ---- the start that was sent

start-near : (z : ℤ) → in_start z ≡ true → far half (count z) ≤ 4000000
unfolding in_start within
start-near (pos n) h = omega (arith, leb-true n 4000000 (and_right true (leb n 4000000) h))
start-near (negsuc n) h = omega (arith, leb-true n 3999999 (and_left (leb n 3999999) true h))

zero-count : (z : ℤ) → eqb (count z) half ≡ in_zero z
unfolding in_zero within
zero-count (pos n) = by (leb n 0) refl
  where
    by : (b : Bool) → leb n 0 ≡ b → eqb (n + half) half ≡ leb 0 n && b
    by true e = rw (le-leb 0 n (omega arith)) (eq-eqb (n + half) half (omega (arith, leb-true n 0 e)))
    by false e = rw (le-leb 0 n (omega arith)) (ne_eqb (n + half) half (λ p. omega (arith, leb-false n 0 e)))
zero-count (negsuc n) = ne_eqb (8388607 - n) half (λ p. omega arith)

-- of the numbers that are right: the start
arc-start : (l : List ℕ) → right_arc l ≡ true → in_start (nth l 3) && in_start (nth l 4) && not (in_zero (nth l 3) && in_zero (nth l 4)) ≡ true
unfolding right_arc
arc-start l h =
    let a = in_arc (nth l 0) in
    let d = in24 (nth l 2) in
    let s = in_start (nth l 3) && in_start (nth l 4) && not (in_zero (nth l 3) && in_zero (nth l 4)) in
    let w = in_way (nth l 5) && in_way (nth l 6) in
    and_right (a && d) s (and_left (a && d && s) w h)

pub start-sound : (l : List ℕ) → right_arc l ≡ true → start_sound (start_of l) ≡ true
unfolding start_sound
start-sound l h =
    let a = in_start (nth l 3) in
    let b = in_start (nth l 4) in
    let o = not (in_zero (nth l 3) && in_zero (nth l 4)) in
    let s = arc-start l h in
    let ab = and_left (a && b) o s in
    both (both (le-leb _ 4000000 (start-near (nth l 3) (and_left a b ab))) (le-leb _ 4000000 (start-near (nth l 4) (and_right a b ab))))
    (rw (zero-count (nth l 3), zero-count (nth l 4)) (and_right (a && b) o s))

-- ---- the square around the centre holds the position

-- each coordinate of the start is less than half the square's side
within-reach : (x y n r : ℕ) → x * x + y * y ≡ n → n < r * r → (x ≤ r) × (y ≤ r)
within-reach x y n r e h = (by x y e, by y x (omega (arith, e)))
  where
    by : (x y : ℕ) → x * x + y * y ≡ n → x ≤ r
    by x y e = case (leb x r) refl
      where
        case : (b : Bool) → leb x r ≡ b → x ≤ r
        case true p = leb-true x r p
        case false p = absurd (omega (arith, square-up r x (omega (arith, leb-false x r p))))

same-far : (at start reach : ℕ) → 0 < reach → reach ≤ less at start → far (less at start) at ≡ far half start
same-far at start reach h l = omega arith

reach-some : (start : Pair) → 0 < reach_of start
unfolding reach_of
reach-some start = omega arith

room-low : (centre start : Pair) → has_room centre start ≡ true → (reach_of start ≤ centre.first) × (reach_of start ≤ centre.second)
unfolding has_room
room-low centre start h =
    let r = reach_of start in
    let a = reaches r centre.first in
    let b = reaches r centre.second in (
      leb-true r centre.first (and_left (leb r centre.first) (ltb (centre.first + r) full) (and_left a b h)),
      leb-true r centre.second (and_left (leb r centre.second) (ltb (centre.second + r) full) (and_right a b h)),
    )

measure-is : (start : Pair) → far half start.first * far half start.first + far half start.second * far half start.second ≡ measure zero start
unfolding measure
measure-is start = refl

-- the start is not the centre
start-apart : (s : Pair) → start_sound s ≡ true → 0 < far half s.first + far half s.second
unfolding start_sound
start-apart s h =
    let a = leb (far half s.first) 4000000 && leb (far half s.second) 4000000 in
    let o = not (eqb s.first half && eqb s.second half) in
    let e = apart_of s.first s.second half half (and_right a o h) in
    omega arith

module _ (at start : Pair) (s : start_sound start ≡ true) (h : has_room (centre_of at start) start ≡ true) where
  low : (reach_of start ≤ less at.first start.first) × (reach_of start ≤ less at.second start.second)
  unfolding centre_of
  low = room-low (centre_of at start) start h

  fx : far (less at.first start.first) at.first ≡ far half start.first
  fx = same-far at.first start.first (reach_of start) (reach-some start) low.0

  fy : far (less at.second start.second) at.second ≡ far half start.second
  fy = same-far at.second start.second (reach_of start) (reach-some start) low.1

  pub centre-point : point_sound start (centre_of at start) at ≡ true
  unfolding centre_of
  centre-point =
      let w = within-reach (far half start.first) (far half start.second) (measure zero start) (reach_of start) (measure-is start) (reach-high start) in
      let o = start-apart start s in
      point-sound start (centre_of at start) at (rw fx w.0) (rw fy w.1) (rw (fx, fy) o)

-- THE CENTRE IS THE POSITION MINUS THE START: with the start added to it, it is the position
pub centre-value : (at start : ℕ) → start ≤ at + half → value (less at start) +ℤ value start ≡ value at
centre-value at start h = by (ltb start half) refl
  where
    by : (t : Bool) → ltb start half ≡ t → value (less at start) +ℤ value start ≡ value at
    by true e =
        let l = ltb-true start half e in
        rw (sub-neg start half l) (sub-minus (less at start) half (half - suc start) ∙ sub-eq (less at start) (half + suc (half - suc start)) at half (omega arith))
    by false e =
        let l = ltb-false start half e in
        rw (sub-pos start half l) (sub-plus (less at start) half (start - half) ∙ sub-eq (less at start + (start - half)) half at half (omega arith))

-- ---- the plan

never : {A : Type 0} {b : Fault} {a : Arc} → Err b ≡ Ok a → A
never p = let z : ◌≡◌ {A = ℕ} 0 1 = cc in absurd (omega arith)

-- what an accepted circle has
pub record Bends (axes : ℕ) (c : Circling) (at : Counters) (l : List ℕ) (a : Arc) : Type 0 where
  pub plane : plane_set axes c.plane ≡ true
  pub right : right_arc l ≡ true
  pub fits : ways_fit c.direction l ≡ true
  pub speed : in_speed (nth l 1) ≡ true
  pub position : counted at ≡ true
  pub room : has_room (centre_of (on_plane c.plane at) (start_of l)) (start_of l) ≡ true
  pub is : a ≡ arc_from c (centre_of (on_plane c.plane at) (start_of l)) (start_of l) l

bends-by : (t1 t2 t3 t4 t5 t6 : Bool) (d a : Arc)
    → pick (not t1) (Err fault.Axes) (pick (not t2) (Err fault.Range) (pick (not t3) (Err fault.Range) (pick (not t4) (Err fault.Speed)
    (pick (not t5) (Err fault.Outside) (pick t6 (Ok d) (Err fault.Outside)))))) ≡ Ok a
    → (t1 ≡ true) × (t2 ≡ true) × (t3 ≡ true) × (t4 ≡ true) × (t5 ≡ true) × (t6 ≡ true) × (a ≡ d)
bends-by false t2 t3 t4 t5 t6 d a e = never e
bends-by true false t3 t4 t5 t6 d a e = never e
bends-by true true false t4 t5 t6 d a e = never e
bends-by true true true false t5 t6 d a e = never e
bends-by true true true true false t6 d a e = never e
bends-by true true true true true false d a e = never e
bends-by true true true true true true d a e = (refl, refl, refl, refl, refl, refl, cc)

pub bends : (axes : ℕ) (c : Circling) (at : Counters) (l : List ℕ) {a : Arc} → bend_of axes c at l ≡ Ok a → Bends axes c at l a
unfolding bend_of going_by
bends axes c at l {a} e =
    let centre = centre_of (on_plane c.plane at) (start_of l) in
    let p = bends-by (plane_set axes c.plane) (right_arc l) (ways_fit c.direction l) (in_speed (nth l 1)) (counted at) (has_room centre (start_of l))
    (arc_from c centre (start_of l) l) a e in
    record { plane = p.0; right = p.1; fits = p.2; speed = p.3; position = p.4; room = p.5; is = p.6 }

-- A PLANNED ARC PASSES
pub bend-sound : (axes : ℕ) (c : Circling) (at : Counters) (l : List ℕ) (a : Arc) → bend_of axes c at l ≡ Ok a → arc_under_way a at ≡ true
bend-sound axes c at l a e =
    let b = bends axes c at l e in
    let s = start-sound l b.right in
    rw b.is
    (passes (arc_from c (centre_of (on_plane c.plane at) (start_of l)) (start_of l) l) at
    (record {
      position = b.position;
      speed = speed-word (get_or l 1 0) b.speed;
      start = s;
      room = b.room;
      point = centre-point (on_plane c.plane at) (start_of l) s b.room;
      made = omega arith;
    }))
