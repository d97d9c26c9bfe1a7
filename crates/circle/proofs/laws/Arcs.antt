-- The test of 103 on an arc as facts, and what a plane's axes are on the three. Assumes nothing.
use mathlib.Core.Path.{◌≡◌, refl}
use mathlib.Core.Bool.{Bool, true, false, not, ◌&&◌}
use Prim.Native.Nat.{ℕ, ◌+◌, ◌*◌, ◌≤◌, ◌<◌}
use native.Mathlib.Omega.{arith}
use lib.Dec.{ltb, leb, eqb}
use borrow.Author.Tests.{lt-ltb, le-leb, ltb-true, ltb-false, leb-true, eqb-true, eqb-false}
use Rattle.count.specs.Numbers.{far, half, full}
use Rattle.count.proofs.laws.Truth.{and_left, and_right, both}
use Rattle.motion.specs.declared.Counters.{Counters}
use Rattle.motion.specs.Phase.{moved_all}
use Rattle.motion.specs.Sound.{speed_right, counted}
use Rattle.motion.specs.Pulse.{has_step, have_steps}
use Rattle.circle.specs.declared.Plane.{Plane}
use Rattle.circle.specs.declared.Plane.TheVariants.{XY, XZ, YZ}
use Rattle.circle.specs.declared.Pair.{Pair}
use Rattle.circle.specs.declared.Ways.{Ways}
use Rattle.circle.specs.declared.Arc.{Arc}
use Rattle.circle.specs.Rule.{on_plane, on_axes, shifted, measure}
use Rattle.circle.specs.Arc.{zero, counted_pair}
use Rattle.circle.specs.Plan.{reaches, reach_of, has_room as has_square}
use Rattle.circle.specs.Sound.{at_point, start_sound, point_sound, arc_under_way}
use Rattle.circle.proofs.laws.Roots.{rooted}
use Rattle.circle.proofs.laws.Square.{Lies}

-- ---- the test of 103 as facts

-- a square around a centre, and a point of it
pub record Lays (start centre p : Pair) : Type 0 where
  pub first : Lies (reach_of start) centre.first p.first
  pub second : Lies (reach_of start) centre.second p.second
  pub apart : 0 < far centre.first p.first + far centre.second p.second

pub record Passed (a : Arc) (at : Counters) : Type 0 where
  pub position : counted at ≡ true
  pub speed : speed_right a.speed ≡ true
  pub start : start_sound a.start ≡ true
  pub room : has_square a.centre a.start ≡ true
  pub point : point_sound a.start a.centre (on_plane a.circling.plane at) ≡ true
  pub made : a.made ≤ a.length

pub passed : (a : Arc) (at : Counters) → arc_under_way a at ≡ true → Passed a at
unfolding arc_under_way
passed a at u =
    let t1 = counted at in
    let t2 = speed_right a.speed in
    let t3 = start_sound a.start in
    let t4 = has_square a.centre a.start in
    let t5 = point_sound a.start a.centre (on_plane a.circling.plane at) in
    let t6 = leb a.made a.length in
    let e5 = and_left (t1 && t2 && t3 && t4 && t5) t6 u in
    let e4 = and_left (t1 && t2 && t3 && t4) t5 e5 in
    let e3 = and_left (t1 && t2 && t3) t4 e4 in
    let e2 = and_left (t1 && t2) t3 e3 in
    record {
      position = and_left t1 t2 e2;
      speed = and_right t1 t2 e2;
      start = and_right (t1 && t2) t3 e3;
      room = and_right (t1 && t2 && t3) t4 e4;
      point = and_right (t1 && t2 && t3 && t4) t5 e5;
      made = leb-true a.made a.length (and_right (t1 && t2 && t3 && t4 && t5) t6 u);
    }

pub passes : (a : Arc) (at : Counters) → Passed a at → arc_under_way a at ≡ true
unfolding arc_under_way
passes a at p = both (both (both (both (both p.position p.speed) p.start) p.room) p.point) (le-leb a.made a.length p.made)

-- ---- the square and the point by their numbers

reach_of-both : (r c : ℕ) → reaches r c ≡ true → (r ≤ c) × (c + r < full)
reach_of-both r c h = (leb-true r c (and_left (leb r c) (ltb (c + r) full) h), ltb-true (c + r) full (and_right (leb r c) (ltb (c + r) full) h))

not_same : (a b : ℕ) → eqb a b ≡ false → 0 < far a b
not_same a b e = by (ltb a b) (ltb b a) refl refl
  where
    by : (s t : Bool) → ltb a b ≡ s → ltb b a ≡ t → 0 < far a b
    by true t p q = omega (arith, ltb-true a b p)
    by false true p q = omega (arith, ltb-true b a q)
    by false false p q = absurd (eqb-false a b e (omega (arith, ltb-false a b p, ltb-false b a q)))

pub apart_of : (a b c d : ℕ) → not (eqb a c && eqb b d) ≡ true → 0 < far a c + far b d
apart_of a b c d h = by (eqb a c) (eqb b d) refl refl
  where
    by : (s t : Bool) → eqb a c ≡ s → eqb b d ≡ t → 0 < far a c + far b d
    by true true e f = let z : ◌≡◌ {A = ℕ} 0 1 = cc in absurd (omega arith)
    by true false e f = omega (arith, not_same b d f)
    by false t e f = omega (arith, not_same a c e)

pub lays : (start centre p : Pair) → has_square centre start ≡ true → point_sound start centre p ≡ true → Lays start centre p
unfolding has_square point_sound
lays start centre p h q =
    let r = reach_of start in
    let s1 = reaches r centre.first in
    let s2 = reaches r centre.second in
    let d1 = leb (far centre.first p.first) r in
    let d2 = leb (far centre.second p.second) r in
    let o = not (at_point centre p) in
    let near = and_left (d1 && d2) o q in
    let g = reach_of-both r centre.first (and_left s1 s2 h) in
    let k = reach_of-both r centre.second (and_right s1 s2 h) in
    record {
      first = record { low = g.0; high = g.1; near = leb-true (far centre.first p.first) r (and_left d1 d2 near) };
      second = record { low = k.0; high = k.1; near = leb-true (far centre.second p.second) r (and_right d1 d2 near) };
      apart = apart_of centre.first centre.second p.first p.second (and_right (d1 && d2) o q);
    }

-- and back
point-of : (a b c d : ℕ) → 0 < far a c + far b d → not (eqb a c && eqb b d) ≡ true
point-of a b c d h = by (eqb a c) (eqb b d) refl refl
  where
    by : (s t : Bool) → eqb a c ≡ s → eqb b d ≡ t → not (s && t) ≡ true
    by true true e f = absurd (omega (arith, eqb-true a c e, eqb-true b d f))
    by true false e f = refl
    by false t e f = refl

pub point-sound : (start centre p : Pair) → far centre.first p.first ≤ reach_of start → far centre.second p.second ≤ reach_of start
    → 0 < far centre.first p.first + far centre.second p.second → point_sound start centre p ≡ true
unfolding point_sound
point-sound start centre p h g o =
    both (both (le-leb _ (reach_of start) h) (le-leb _ (reach_of start) g)) (point-of centre.first centre.second p.first p.second o)

-- ---- the axes of a plane and all axes

-- a move of the plane's axes, and what it is on all
pub plane-moved : (q : Plane) (w : Ways) (at : Counters) → on_plane q (moved_all at (on_axes q w)) ≡ shifted (on_plane q at) w
plane-moved XY w at = refl
plane-moved XZ w at = refl
plane-moved YZ w at = refl

pub plane-steps : (q : Plane) (w : Ways) (at : Counters) → has_step (on_plane q at).first w.first ≡ true → has_step (on_plane q at).second w.second ≡ true
    → have_steps at (on_axes q w) ≡ true
plane-steps XY w at h g = both (both (both h g) refl) refl
plane-steps XZ w at h g = both (both (both h refl) g) refl
plane-steps YZ w at h g = both (both (both refl h) g) refl

-- ---- numbers of 24 bits, and the radius

pub reach-high : (start : Pair) → measure zero start < reach_of start * reach_of start
unfolding reach_of
reach-high start = (rooted (measure zero start)).high

pub small-start : (s : Pair) → start_sound s ≡ true → counted_pair s ≡ true
unfolding start_sound
small-start s h =
    let x = leb (far half s.first) 4000000 in
    let y = leb (far half s.second) 4000000 in
    let xy = and_left (x && y) (not (eqb s.first half && eqb s.second half)) h in
    both (lt-ltb s.first full (omega (arith, leb-true (far half s.first) 4000000 (and_left x y xy))))
    (lt-ltb s.second full (omega (arith, leb-true (far half s.second) 4000000 (and_right x y xy))))

pub small-centre : (reach : ℕ) (c p : Pair) → Lies reach c.first p.first → Lies reach c.second p.second → counted_pair c ≡ true
small-centre reach c p l k = both (lt-ltb c.first full (omega (arith, l.high))) (lt-ltb c.second full (omega (arith, k.high)))
