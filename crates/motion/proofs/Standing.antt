-- What the test of 103 rests on in the code: 01's quotient by its two bounds, and a direction by comparison. Assumes nothing.
use mathlib.Core.Path.{◌≡◌, refl, ap}
use mathlib.Core.Bool.{Bool, true, false, ◌&&◌}
use Prim.Native.Nat.{ℕ, ◌+◌, ◌-◌, ◌*◌, ◌/◌, ◌≤◌, ◌<◌}
use native.Mathlib.Nat.{div-lt_iff_lt-mul, le-div_iff_mul-le}
use native.Mathlib.Omega.{arith}
use lib.Dec.{ltb, leb, eqb}
use borrow.Author.Tests.{lt-ltb, le-ltb, ltb-true, ltb-false, leb-true, leb-false, eqb-true, eqb-false}
use Rattle.count.specs.Pick.{pick}
use Rattle.count.specs.Numbers.{far}
use Rattle.motion.specs.declared.Counters.{Counters}
use Rattle.motion.specs.declared.Move.{Move}
use Rattle.count.specs.declared.Axis.{Axis}
use Rattle.count.proofs.laws.Axes.{each_of}
use Rattle.motion.specs.Axes.{on}
use Rattle.motion.specs.work.Room.{NoFurther}
use Rattle.motion.specs.Phase.{steps, count_after, pulses}
use Rattle.motion.specs.Next.{from_of, to_of, leg, after_of}
use Rattle.motion.proofs.laws.Axis.{below, above, steps-is, steps-empty, steps-at-most}
use Rattle.motion.proofs.laws.Pulses.{pulses-small}
use Rattle.motion.specs.Sound.{in_range}
use Rattle.motion.proofs.laws.Passed.{ranges-of, leg-on}

-- s is the quotient of x by m exactly if m·s ≤ x < m·s + m
quot-test : (x m s : ℕ) → 0 < m → leb (m * s) x && ltb x (m * s + m) ≡ eqb s (x / m)
quot-test x m s h = by (leb (m * s) x) (ltb x (m * s + m)) (eqb s (x / m)) refl refl refl
  where
    by : (a b c : Bool) → leb (m * s) x ≡ a → ltb x (m * s + m) ≡ b → eqb s (x / m) ≡ c → a && b ≡ c
    by true true true p q r = refl
    by true true false p q r =
        let l : s ≤ x / m = (le-div_iff_mul-le h).1 (omega (arith, leb-true (m * s) x p)) in
        let g : x / m < s + 1 = (div-lt_iff_lt-mul h).1 (omega (arith, ltb-true x (m * s + m) q)) in
        absurd (eqb-false s (x / m) r (omega arith))
    by true false true p q r = absurd (omega (arith, above x m h, ltb-false x (m * s + m) q, ap (λ (y : ℕ). y * m) (eqb-true s (x / m) r)))
    by true false false p q r = refl
    by false b true p q r = absurd (omega (arith, below x m h, leb-false (m * s) x p, ap (λ (y : ℕ). y * m) (eqb-true s (x / m) r)))
    by false b false p q r = refl

pub made-test : (s k d n : ℕ) → 0 < n → leb (2 * n * s) (2 * k * d + n) && ltb (2 * k * d + n) (2 * n * s + 2 * n) ≡ eqb s (steps k d n)
made-test s k d n p = rw (steps-is k d n p) (quot-test (2 * k * d + n) (2 * n) s (omega arith))

-- a phase without pulses leaves an axis at its start
pub stands-empty : (at k from to : ℕ) {n : ℕ} → n ≡ 0 → eqb at from ≡ eqb at (count_after k from to n)
unfolding count_after
stands-empty at k from to e = rw (e, steps-empty k (far from to)) (by (ltb to from))
  where
    by : (t : Bool) → eqb at from ≡ eqb at (pick t (from - 0) (from + 0))
    by true = ap (λ (c : ℕ). eqb at c) (omega arith)
    by false = ap (λ (c : ℕ). eqb at c) (omega arith)

-- back: not past the start, and as far from it as the steps
back-test : (at from s : ℕ) → s ≤ from → leb at from && eqb (far from at) s ≡ eqb at (from - s)
back-test at from s h = by (leb at from) (eqb (far from at) s) (eqb at (from - s)) refl refl refl
  where
    by : (a b c : Bool) → leb at from ≡ a → eqb (far from at) s ≡ b → eqb at (from - s) ≡ c → a && b ≡ c
    by true true true p q r = refl
    by true true false p q r = absurd (eqb-false at (from - s) r (omega (arith, leb-true at from p, eqb-true (far from at) s q)))
    by true false true p q r = absurd (eqb-false (far from at) s q (omega (arith, leb-true at from p, eqb-true at (from - s) r)))
    by true false false p q r = refl
    by false b true p q r = absurd (omega (arith, leb-false at from p, eqb-true at (from - s) r))
    by false b false p q r = refl

-- on: not before the start, and as far from it as the steps
on_test : (at from s : ℕ) → leb from at && eqb (far from at) s ≡ eqb at (from + s)
on_test at from s = by (leb from at) (eqb (far from at) s) (eqb at (from + s)) refl refl refl
  where
    by : (a b c : Bool) → leb from at ≡ a → eqb (far from at) s ≡ b → eqb at (from + s) ≡ c → a && b ≡ c
    by true true true p q r = refl
    by true true false p q r = absurd (eqb-false at (from + s) r (omega (arith, leb-true from at p, eqb-true (far from at) s q)))
    by true false true p q r = absurd (eqb-false (far from at) s q (omega (arith, leb-true from at p, eqb-true at (from + s) r)))
    by true false false p q r = refl
    by false b true p q r = absurd (omega (arith, leb-false from at p, eqb-true at (from + s) r))
    by false b false p q r = refl

module _ (at k from to n : ℕ) (w : k ≤ n) (f : far from to ≤ n) {s d : ℕ} {b : Bool} (p : s ≡ far from at) (q : d ≡ far from to) (e : b ≡ eqb s (steps k d n)) where
  pub stands-back : to < from → leb at from && b ≡ eqb at (count_after k from to n)
  unfolding count_after
  stands-back h =
      rw (e, p, q, lt-ltb to from h) (back-test at from (steps k (far from to) n) (omega (arith, steps-at-most k from to n f w)))

  pub stands_on : from ≤ to → leb from at && b ≡ eqb at (count_after k from to n)
  unfolding count_after
  stands_on h = rw (e, p, q, le-ltb to from h) (on_test at from (steps k (far from to) n))

-- what each axis asks where the ranges are right
pub ready_at : (m : Move) {n : ℕ} {f t : Counters} → n ≡ leg m → in_range m ≡ true → f ≡ from_of m → t ≡ to_of m
    → (n < 16777216) × NoFurther f t n
ready_at m e h a b =
    rw (e, a, b)
    (pulses-small (from_of m) (to_of m), each_of (λ (i : Axis). far (on i (from_of m)) (on i (to_of m)) ≤ leg m) (leg-on m (ranges-of m h)))

-- the pulses left fit 32 bits
pub after_small : (m : Move) → after_of m < 33554432
unfolding after_of
after_small m =
    by (eqb m.phase 0) (eqb m.phase 1) (pulses m.first m.second) (pulses m.second m.third) (pulses-small m.first m.second) (pulses-small m.second m.third)
  where
    by : (a b : Bool) (p q : ℕ) → p < 16777216 → q < 16777216 → pick a (p + q) (pick b q 0) < 33554432
    by true b p q h l = omega arith
    by false true p q h l = omega arith
    by false false p q h l = omega arith
