-- How many numbers a right record has, and of what size: a movement's distances and speeds, a circle's seven, or one or two numbers.
-- Assumes nothing.
use Prim.Native.Nat.{ℕ, ◌<◌}
use mathlib.Core.Path.{◌≡◌}
use mathlib.Core.List.{List}
use mathlib.Core.Bool.{Bool, true, false, not, ◌&&◌}
use mathlib.Core.Logic.{◌⊎◌, inl, inr}
use native.Mathlib.Omega.{arith}
use borrow.Author.Tests.{eqb-true}
use lib.Dec.{eqb}
use lib.IntN.{ℤ, pos, negsuc}
use lib.Signed.{mag}
use Rattle.count.specs.Pick.{pick}
use Rattle.count.specs.Numbers.{within, in24}
use Rattle.count.specs.declared.Axis.TheVariants.{X, A}
use Rattle.count.specs.Axes.{has}
use Rattle.count.specs.Ranges.{in_speed, in_offset, in_back, in_loop, in_delay, in_character, in_switch, in_zero, in_plane, in_direction, in_arc, in_start, in_way, nth, one_pair, two_pairs, four_pairs, right_count, right_z2, right_distances, right_speeds, right_arc}
use Rattle.count.proofs.laws.Truth.{never, and_left, and_right, and_parts}
use Rattle.record.specs.Fault.{named_by, count_right, axes_right, loop_right, ranges_right, speeds_right}
use Rattle.record.proofs.laws.Faultless.{Faultless, either, by_code-each, within-mag}

-- a number of at most seven digits, a speed, and which way an axis goes
abbrev pub Seven : ℤ → Type 0
Seven z = mag z < 9999999

abbrev pub Fast : ℤ → Type 0
Fast z = in_speed z ≡ true

abbrev pub Way : ℤ → Type 0
Way z = in_way z ≡ true

pub data Shape (n : ℕ) (w : List ℕ) : Type 0 where
  one : n ≡ 1 → Seven (nth w 0) → Shape n w
  two : n ≡ 2 → Seven (nth w 0) → Seven (nth w 1) → Shape n w
  -- distances and speeds of two axes, and of three or four
  four : n ≡ 4 → Seven (nth w 0) → Fast (nth w 1) → Seven (nth w 2) → Fast (nth w 3) → Shape n w
  eight : n ≡ 8 → Seven (nth w 0) → Fast (nth w 1) → Seven (nth w 2) → Fast (nth w 3) → Seven (nth w 4) → Fast (nth w 5) → Seven (nth w 6)
      → Fast (nth w 7) → Shape n w
  -- a circle's: arc length, speed, D, the start and the two ways
  seven : n ≡ 7 → Seven (nth w 0) → Fast (nth w 1) → Seven (nth w 2) → Seven (nth w 3) → Seven (nth w 4) → Way (nth w 5) → Way (nth w 6) → Shape n w

-- ---- each range

in-seven : (lo hi z : ℤ) → mag lo < 9999999 → mag hi < 9999999 → within lo hi z ≡ true → Seven z
in-seven lo hi z l h e = within-mag lo hi z 9999999 l h e

pub speed-seven : (z : ℤ) → Fast z → Seven z
unfolding in_speed
speed-seven z e = in-seven (pos 30) (pos 10000) z (omega arith) (omega arith) e

far-seven : (z : ℤ) → in24 z ≡ true → Seven z
unfolding in24
far-seven z e = in-seven (negsuc 8388607) (pos 8388607) z (omega arith) (omega arith) e

last-seven : (a : Bool) (z : ℤ) → right_z2 a z ≡ true → Seven z
unfolding right_z2 in_zero
last-seven true z e = in-seven (pos 0) (pos 0) z (omega arith) (omega arith) e
last-seven false z e = far-seven z e

offset-seven : (z : ℤ) → in_offset z ≡ true → Seven z
unfolding in_offset
offset-seven z e = in-seven (negsuc 32767) (pos 32767) z (omega arith) (omega arith) e

loop-seven : (x y : ℤ) → loop_right x y ≡ true → Seven x × Seven y
unfolding loop_right in_loop in_back in_zero
loop-seven x y e = by (either _ _ e)
  where
    by : (in_loop x && in_back y ≡ true) ⊎ (in_zero x && in_offset y ≡ true) → Seven x × Seven y
    by (inl p) =
        let q = and_parts (in_loop x) (in_back y) p in
        (in-seven (pos 1) (pos 32767) x (omega arith) (omega arith) q.0, in-seven (negsuc 32767) (negsuc 0) y (omega arith) (omega arith) q.1)
    by (inr p) =
        let q = and_parts (in_zero x) (in_offset y) p in
        (in-seven (pos 0) (pos 0) x (omega arith) (omega arith) q.0, offset-seven y q.1)

named-seven : (axes : ℕ) (z : ℤ) → named_by axes z ≡ true → Seven z
unfolding named_by
named-seven axes z e = by (either _ _ e)
  where
    by : (has axes X && within (pos 1) (pos 7) z && within (pos 1) (pos axes) z ≡ true) ⊎ (has axes A && within (pos 8) (pos 8) z ≡ true) → Seven z
    by (inl p) =
        let q = and_left (has axes X && within (pos 1) (pos 7) z) (within (pos 1) (pos axes) z) p in
        in-seven (pos 1) (pos 7) z (omega arith) (omega arith) (and_right (has axes X) (within (pos 1) (pos 7) z) q)
    by (inr p) = in-seven (pos 8) (pos 8) z (omega arith) (omega arith) (and_right (has axes A) (within (pos 8) (pos 8) z) p)

-- one digit
pub way-short : (z : ℤ) → Way z → mag z < 9
unfolding in_way
way-short z e = by (either _ _ e)
  where
    by : (within (pos 1) (pos 1) z ≡ true) ⊎ (within (negsuc 0) (negsuc 0) z ≡ true) → mag z < 9
    by (inl p) = within-mag (pos 1) (pos 1) z 9 (omega arith) (omega arith) p
    by (inr p) = within-mag (negsuc 0) (negsuc 0) z 9 (omega arith) (omega arith) p

pub way-seven : (z : ℤ) → Way z → Seven z
way-seven z e = omega (arith, way-short z e)

start-seven : (z : ℤ) → in_start z ≡ true → Seven z
unfolding in_start
start-seven z e = in-seven (negsuc 3999999) (pos 4000000) z (omega arith) (omega arith) e

-- ---- every code

module _ (w : List ℕ) where
  movement-by : (a b c : Bool) (n : ℕ) (absolute : Bool) → pick a (eqb n 2) (pick b (eqb n 4) (pick c (eqb n 8) false)) ≡ true
      → pick a (in24 (nth w 0)) (pick b (in24 (nth w 0) && in24 (nth w 2)) (pick c (in24 (nth w 0) && in24 (nth w 2) && in24 (nth w 4) && right_z2 absolute (nth w 6)) false)) ≡ true
      → pick a (in_speed (nth w 1)) (pick b (in_speed (nth w 1) && in_speed (nth w 3)) (pick c (in_speed (nth w 1) && in_speed (nth w 3) && in_speed (nth w 5) && in_speed (nth w 7)) false)) ≡ true
      → Shape n w
  movement-by true b c n absolute p q r = two (eqb-true n 2 p) (far-seven (nth w 0) q) (speed-seven (nth w 1) r)
  movement-by false true c n absolute p q r =
      let d = and_parts (in24 (nth w 0)) (in24 (nth w 2)) q in
      let s = and_parts (in_speed (nth w 1)) (in_speed (nth w 3)) r in
      four (eqb-true n 4 p) (far-seven (nth w 0) d.0) s.0 (far-seven (nth w 2) d.1) s.1
  movement-by false false true n absolute p q r =
      let d = and_parts (in24 (nth w 0) && in24 (nth w 2) && in24 (nth w 4)) (right_z2 absolute (nth w 6)) q in
      let d' = and_parts (in24 (nth w 0) && in24 (nth w 2)) (in24 (nth w 4)) d.0 in
      let d'' = and_parts (in24 (nth w 0)) (in24 (nth w 2)) d'.0 in
      let s = and_parts (in_speed (nth w 1) && in_speed (nth w 3) && in_speed (nth w 5)) (in_speed (nth w 7)) r in
      let s' = and_parts (in_speed (nth w 1) && in_speed (nth w 3)) (in_speed (nth w 5)) s.0 in
      let s'' = and_parts (in_speed (nth w 1)) (in_speed (nth w 3)) s'.0 in
      eight (eqb-true n 8 p) (far-seven (nth w 0) d''.0) s''.0 (far-seven (nth w 2) d''.1) s''.1 (far-seven (nth w 4) d'.1) s'.1
      (last-seven absolute (nth w 6) d.1) s.1
  movement-by false false false n absolute p q r = never p

  movement : (axes n : ℕ) (absolute : Bool) → right_count axes n ≡ true → right_distances axes absolute w ≡ true → right_speeds axes w ≡ true → Shape n w
  unfolding right_count right_distances right_speeds
  movement axes n absolute p q r = movement-by (one_pair axes) (two_pairs axes) (four_pairs axes) n (absolute && eqb axes 7) p q r

  circle : (n : ℕ) → n ≡ 7 → right_arc w ≡ true → in_speed (nth w 1) ≡ true → Shape n w
  unfolding right_arc in_arc
  circle n e q r =
      let a = and_parts (in_arc (nth w 0) && in24 (nth w 2) && (in_start (nth w 3) && in_start (nth w 4) && not (in_zero (nth w 3) && in_zero (nth w 4)))) (in_way (nth w 5) && in_way (nth w 6)) q in
      let b = and_parts (in_arc (nth w 0) && in24 (nth w 2)) (in_start (nth w 3) && in_start (nth w 4) && not (in_zero (nth w 3) && in_zero (nth w 4))) a.0 in
      let l = and_parts (in_arc (nth w 0)) (in24 (nth w 2)) b.0 in
      let p = and_parts (in_start (nth w 3) && in_start (nth w 4)) (not (in_zero (nth w 3) && in_zero (nth w 4))) b.1 in
      let s = and_parts (in_start (nth w 3)) (in_start (nth w 4)) p.0 in
      let d = and_parts (in_way (nth w 5)) (in_way (nth w 6)) a.1 in
      seven e (in-seven (pos 0) (pos 8388607) (nth w 0) (omega arith) (omega arith) l.0) r (far-seven (nth w 2) l.1) (start-seven (nth w 3) s.0)
      (start-seven (nth w 4) s.1) d.0 d.1

  abbrev ShapeAs : ℕ → ℕ → ℕ → Type 0
  ShapeAs axes n code = count_right axes code n ≡ true → axes_right axes code w ≡ true → ranges_right axes code w ≡ true → speeds_right axes code w ≡ true → Shape n w

  -- A RIGHT RECORD HAS ONE OF FIVE SHAPES
  pub shape : (axes code n : ℕ) → Faultless axes code n w → Shape n w
  unfolding count_right axes_right ranges_right speeds_right in_switch in_delay in_character in_plane in_direction
  shape axes code n f =
      by_code-each (ShapeAs axes n) code f.code-so relative target origin switch loop delay send wait plane direction arc f.count-so f.axes-so f.ranges-so f.speeds-so
    where
      relative : ShapeAs axes n 48
      relative p q r s = movement axes n false p r s

      target : ShapeAs axes n 109
      target p q r s = movement axes n true p r s

      origin : ShapeAs axes n 110
      origin p q r s = one (eqb-true n 1 p) (named-seven axes (nth w 0) q)

      switch : ShapeAs axes n 122
      switch p q r s = one (eqb-true n 1 p) (in-seven (pos 0) (pos 1) (nth w 0) (omega arith) (omega arith) r)

      loop : ShapeAs axes n 51
      loop p q r s =
          let h = loop-seven (nth w 0) (nth w 1) r in
          two (eqb-true n 2 p) h.0 h.1

      delay : ShapeAs axes n 53
      delay p q r s = one (eqb-true n 1 p) (in-seven (pos 0) (pos 65535) (nth w 0) (omega arith) (omega arith) r)

      send : ShapeAs axes n 49
      send p q r s = one (eqb-true n 1 p) (in-seven (pos 33) (pos 126) (nth w 0) (omega arith) (omega arith) r)

      wait : ShapeAs axes n 50
      wait p q r s =
          let h = and_parts (in_character (nth w 0)) (in_offset (nth w 1)) r in
          two (eqb-true n 2 p) (in-seven (pos 33) (pos 126) (nth w 0) (omega arith) (omega arith) h.0) (offset-seven (nth w 1) h.1)

      plane : ShapeAs axes n 101
      plane p q r s = one (eqb-true n 1 p) (in-seven (pos 0) (pos 2) (nth w 0) (omega arith) (omega arith) r)

      direction : ShapeAs axes n 102
      direction p q r s = one (eqb-true n 1 p) (in-seven (negsuc 0) (pos 0) (nth w 0) (omega arith) (omega arith) r)

      arc : ShapeAs axes n 121
      arc p q r s = circle n (eqb-true n 7 p) r s
