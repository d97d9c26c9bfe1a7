-- The test of 103 as facts: what a movement that passes it has, and that one that has it passes. Assumes nothing.
use mathlib.Core.Path.{◌≡◌}
use mathlib.Core.Bool.{Bool, true, false, ◌&&◌}
use Prim.Native.Nat.{ℕ, ◌≤◌, ◌<◌}
use lib.Dec.{ltb, leb, eqb}
use borrow.Author.Tests.{lt-ltb, le-leb, eq-eqb, ltb-true, leb-true, eqb-true}
use Rattle.count.specs.Pick.{pick}
use Rattle.count.specs.Numbers.{far, full}
use Rattle.count.specs.declared.Axis.{Axis}
use Rattle.count.proofs.laws.Truth.{and_left, and_right, both}
use Rattle.count.proofs.laws.Axes.{all-each, each_all}
use Rattle.motion.specs.declared.Counters.{Counters}
use Rattle.motion.specs.declared.Move.{Move}
use Rattle.motion.specs.Axes.{on}
use Rattle.motion.specs.Phase.{count_after}
use Rattle.motion.specs.Next.{from_of, to_of, leg, speed_at}
use Rattle.motion.specs.Sound.{speed_right, counted, in_range, stands_at, under_way}
use Rattle.motion.proofs.laws.Axis.{count_small}
use Rattle.motion.proofs.laws.Pulses.{In24, within_on}

-- ---- counts of 24 bits

pub in24-of : (c : Counters) → counted c ≡ true → In24 c
unfolding counted
in24-of c e = record { each = λ i. ltb-true (on i c) full (all-each (λ (j : Axis). ltb (on j c) full) e i) }

pub counted_of : (c : Counters) → In24 c → counted c ≡ true
unfolding counted
counted_of c h = each_all (λ (j : Axis). ltb (on j c) full) (λ i. lt-ltb (on i c) full (h.each i))

-- ---- speeds and resting points

pub record Ranges (m : Move) : Type 0 where
  pub speed1 : speed_right m.speed1 ≡ true
  pub speed2 : speed_right m.speed2 ≡ true
  pub speed3 : speed_right m.speed3 ≡ true
  pub start : In24 m.start
  pub first : In24 m.first
  pub second : In24 m.second
  pub third : In24 m.third

pub ranges-of : (m : Move) → in_range m ≡ true → Ranges m
unfolding in_range
ranges-of m e =
    let v1 = speed_right m.speed1 in
    let v2 = speed_right m.speed2 in
    let v3 = speed_right m.speed3 in
    let c0 = counted m.start in
    let c1 = counted m.first in
    let c2 = counted m.second in
    let c3 = counted m.third in
    let s = and_left (v1 && v2 && v3) (c0 && c1 && c2 && c3) e in
    let p = and_right (v1 && v2 && v3) (c0 && c1 && c2 && c3) e in
    record {
      speed1 = and_left v1 v2 (and_left (v1 && v2) v3 s);
      speed2 = and_right v1 v2 (and_left (v1 && v2) v3 s);
      speed3 = and_right (v1 && v2) v3 s;
      start = in24-of m.start (and_left c0 c1 (and_left (c0 && c1) c2 (and_left (c0 && c1 && c2) c3 p)));
      first = in24-of m.first (and_right c0 c1 (and_left (c0 && c1) c2 (and_left (c0 && c1 && c2) c3 p)));
      second = in24-of m.second (and_right (c0 && c1) c2 (and_left (c0 && c1 && c2) c3 p));
      third = in24-of m.third (and_right (c0 && c1 && c2) c3 p);
    }

pub of-ranges : (m : Move) → Ranges m → in_range m ≡ true
unfolding in_range
of-ranges m r =
    both (both (both r.speed1 r.speed2) r.speed3)
    (both (both (both (counted_of m.start r.start) (counted_of m.first r.first)) (counted_of m.second r.second)) (counted_of m.third r.third))

-- the ends of the phase under way are resting points
module _ (m : Move) (r : Ranges m) where
  pick-in : (t : Bool) (a b : Counters) → In24 a → In24 b → In24 (pick t a b)
  pick-in true a b p q = p
  pick-in false a b p q = q

  pub from_in : In24 (from_of m)
  unfolding from_of
  from_in =
      pick-in (eqb m.phase 0) m.start _ r.start
      (pick-in (eqb m.phase 1) m.first _ r.first (pick-in (eqb m.phase 2) m.second m.third r.second r.third))

  pub to_in : In24 (to_of m)
  unfolding to_of
  to_in = pick-in (eqb m.phase 0) m.first _ r.first (pick-in (eqb m.phase 1) m.second m.third r.second r.third)

  -- so that no axis has further to go than the phase has pulses
  pub leg-on : (i : Axis) → far (on i (from_of m)) (on i (to_of m)) ≤ leg m
  leg-on = within_on (from_of m) (to_of m) from_in to_in

  -- and the phase's speed is a speed
  pick-right : (t : Bool) (a b : ℕ) → speed_right a ≡ true → speed_right b ≡ true → speed_right (pick t a b) ≡ true
  pick-right true a b p q = p
  pick-right false a b p q = q

  pub speed-in : (k : ℕ) → speed_right (speed_at m k) ≡ true
  unfolding speed_at
  speed-in k =
      pick-right (eqb m.phase 0) m.speed1 _ r.speed1
      (pick-right (eqb m.phase 1) m.speed2 m.speed3 r.speed2 r.speed3)

-- ---- the whole test

pub record Passed (m : Move) (at : Counters) : Type 0 where
  pub ranges : Ranges m
  pub phase : m.phase < 3
  pub made : m.made ≤ leg m
  pub stands : (i : Axis) → on i at ≡ count_after m.made (on i (from_of m)) (on i (to_of m)) (leg m)

-- an axis where its pulse number puts it
abbrev placed : Move → Counters → Axis → Bool
placed m at i = eqb (on i at) (count_after m.made (on i (from_of m)) (on i (to_of m)) (leg m))

pub passed : (m : Move) (at : Counters) → under_way m at ≡ true → Passed m at
unfolding under_way
passed m at e =
    let r = in_range m in
    let p = ltb m.phase 3 in
    let k = leb m.made (leg m) in
    let h = and_left (r && (p && k)) (stands_at m at) e in
    let s = and_right (r && (p && k)) (stands_at m at) e in
    let pk = and_right r (p && k) h in
    record {
      ranges = ranges-of m (and_left r (p && k) h);
      phase = ltb-true m.phase 3 (and_left p k pk);
      made = leb-true m.made (leg m) (and_right p k pk);
      stands = λ i. eqb-true (on i at) _ (all-each (placed m at) s i);
    }

pub passes : (m : Move) (at : Counters) → Passed m at → under_way m at ≡ true
unfolding under_way
passes m at s =
    both (both (of-ranges m s.ranges) (both (lt-ltb m.phase 3 s.phase) (le-leb m.made (leg m) s.made)))
    (each_all (placed m at) (λ i. eq-eqb (on i at) _ (s.stands i)))

-- the counters of a movement that passes are of 24 bits
pub position_in : (m : Move) (at : Counters) → under_way m at ≡ true → counted at ≡ true
position_in m at u =
    let p = passed m at u in
    let r = p.ranges in
    counted_of at
    (record {
      each = λ i. rw (p.stands i)
          (count_small m.made (on i (from_of m)) (on i (to_of m)) (leg m) (leg-on m r i) p.made ((from_in m r).each i) ((to_in m r).each i));
    })
