-- The laws of one axis in one phase, cited for x, y and z. Assumes nothing.
use mathlib.Core.Path.{◌≡◌, refl, sym, ap, ◌∙◌}
use mathlib.Core.Bool.{Bool, true, false}
use Prim.Native.Nat.{ℕ, zero, suc, ◌+◌, ◌-◌, ◌*◌, ◌/◌, ◌≤◌, ◌<◌}
use native.Mathlib.Nat.{div-add-mod', mod-lt, div-eq_of_lt-le, mul-le-mul_right, div-lt_iff_lt-mul, le-div_iff_mul-le}
use native.Mathlib.Numerals.{add-one}
use native.Mathlib.Omega.{arith}
use lib.Dec.{ltb, eqb}
use borrow.Author.Tests.{ltb-true, ltb-false, eqb-true, eqb-false, ne_eqb}
use Rattle.count.specs.Pick.{pick}
use Rattle.count.specs.Numbers.{far, full}
use Rattle.motion.specs.declared.Sign.{Sign}
use Rattle.motion.specs.declared.Sign.TheVariants.{Minus, Rest, Plus}
use Rattle.motion.specs.work.Here.{sign_here}
use Rattle.motion.specs.Phase.{steps, sign_at, count_after, moved}

-- ---- quotients

-- a quotient as two bounds
module _ (x m : ℕ) (h : 0 < m) where
  pub below : x / m * m ≤ x
  below = omega (arith, div-add-mod' x m)

  pub above : x < x / m * m + m
  above = omega (arith, div-add-mod' x m, mod-lt x h)

-- a numerator that grows by at most m has a quotient that grows by at most 1
module _ (x y m : ℕ) (h : 0 < m) (g : x ≤ y) (l : y ≤ x + m) where
  quot-grow : x / m ≤ y / m
  quot-grow = (le-div_iff_mul-le h).1 (omega (arith, below x m h))

  quot-one : y / m ≤ x / m + 1
  quot-one =
      let e : y / m < x / m + 2 = (div-lt_iff_lt-mul h).1 (omega (arith, above x m h)) in omega arith

-- ---- the steps after pulse k of n

-- in a phase with a pulse they are 01's quotient
pub steps-is : (k d n : ℕ) → 0 < n → steps k d n ≡ (2 * k * d + n) / (2 * n)
unfolding steps
steps-is k d n p = rw (ne_eqb n 0 (λ e. omega arith))

-- 0 after 0 pulses, |d| after n
module _ (d n : ℕ) (p : 0 < n) where
  pub steps-none : steps 0 d n ≡ 0
  steps-none = steps-is 0 d n p ∙ div-eq_of_lt-le (2 * n) (omega arith) (omega arith)

  pub steps_all : steps n d n ≡ d
  steps_all = steps-is n d n p ∙ div-eq_of_lt-le (2 * n) (omega arith) (omega arith)

-- a phase without pulses has no steps
pub steps-empty : (k d : ℕ) → steps k d 0 ≡ 0
unfolding steps
steps-empty k d = refl

module _ (k d n : ℕ) (p : 0 < n) (f : d ≤ n) where
  -- no pulse takes a step back
  pub steps-grow : steps k d n ≤ steps (k + 1) d n
  steps-grow = rw (steps-is k d n p, steps-is (k + 1) d n p) (quot-grow (2 * k * d + n) (2 * (k + 1) * d + n) (2 * n) (omega arith) (omega arith) (omega arith))

  -- and none takes more than one
  pub steps-one : steps (k + 1) d n ≤ steps k d n + 1
  steps-one = rw (steps-is k d n p, steps-is (k + 1) d n p) (quot-one (2 * k * d + n) (2 * (k + 1) * d + n) (2 * n) (omega arith) (omega arith) (omega arith))

  -- up to the last pulse the axis has made at most its distance
  pub steps-within : k ≤ n → steps k d n ≤ d
  steps-within w =
      let h : 0 < 2 * n = omega arith in
      let e : (2 * k * d + n) / (2 * n) < d + 1 = (div-lt_iff_lt-mul h).1 (omega (arith, mul-le-mul_right d w)) in
      rw (steps-is k d n p) (omega arith)

  -- a pulse that changes the steps adds one
  pub steps_next : (steps (k + 1) d n ≡ steps k d n → ⊥) → steps (k + 1) d n ≡ steps k d n + 1
  steps_next h = by (ltb (steps k d n) (steps (k + 1) d n)) refl
    where
      by : (t : Bool) → ltb (steps k d n) (steps (k + 1) d n) ≡ t → steps (k + 1) d n ≡ steps k d n + 1
      by true e = omega (arith, steps-one, ltb-true (steps k d n) (steps (k + 1) d n) e)
      by false e = absurd (h (omega (arith, steps-grow, ltb-false (steps k d n) (steps (k + 1) d n) e)))

-- ---- what a pulse shows

-- the steps of a sign: 0 or 1
abbrev pub size : Sign → ℕ
size Minus = 1
size Rest = 0
size Plus = 1

pub size_small : (s : Sign) → size s ≤ 1
size_small Minus = omega arith
size_small Rest = omega arith
size_small Plus = omega arith

-- the steps that the first k pulses show
unfoldable pub shown : ℕ → ℕ → ℕ → ℕ → ℕ
shown zero from to n = 0
shown (suc k) from to n = shown k from to n + size (sign_at k from to n)

module _ (k from to n : ℕ) (p : 0 < n) (f : far from to ≤ n) where
  -- the steps after the next pulse are the steps so far and what it shows
  pub step-adds : steps k (far from to) n + size (sign_at k from to n) ≡ steps (k + 1) (far from to) n
  unfolding sign_at
  step-adds = by (eqb (steps (k + 1) (far from to) n) (steps k (far from to) n)) refl (ltb to from)
    where
      by : (t : Bool) → eqb (steps (k + 1) (far from to) n) (steps k (far from to) n) ≡ t → (u : Bool)
          → steps k (far from to) n + size (pick t Rest (pick u Minus Plus)) ≡ steps (k + 1) (far from to) n
      by true e u = omega (arith, eqb-true (steps (k + 1) (far from to) n) (steps k (far from to) n) e)
      by false e true = sym (steps_next k (far from to) n p f (eqb-false (steps (k + 1) (far from to) n) (steps k (far from to) n) e))
      by false e false = sym (steps_next k (far from to) n p f (eqb-false (steps (k + 1) (far from to) n) (steps k (far from to) n) e))

-- what the first k pulses show adds up to the formula
pub sum_is : (from to n : ℕ) → 0 < n → far from to ≤ n → (k : ℕ) → shown k from to n ≡ steps k (far from to) n
unfolding shown
sum_is from to n p f zero = sym (steps-none (far from to) n p)
sum_is from to n p f (suc k) = rw (sum_is from to n p f k, step-adds k from to n p f, add-one)

-- ---- where the axis stands

-- at the start after 0 pulses, also of a phase without pulses
pub count-first : (from to n : ℕ) → count_after 0 from to n ≡ from
unfolding count_after
count-first from to n = by n (ltb to from)
  where
    by : (m : ℕ) (t : Bool) → pick t (from - steps 0 (far from to) m) (from + steps 0 (far from to) m) ≡ from
    by zero true = omega (arith, steps-empty 0 (far from to))
    by zero false = omega (arith, steps-empty 0 (far from to))
    by (suc m) true = omega (arith, steps-none (far from to) (suc m) (omega arith))
    by (suc m) false = omega (arith, steps-none (far from to) (suc m) (omega arith))

-- at the resting point after n, also of a phase without pulses, whose axes have no distance
pub count-last : (from to n : ℕ) → far from to ≤ n → count_after n from to n ≡ to
unfolding count_after
count-last from to n f = by n f (ltb to from) refl
  where
    by : (m : ℕ) → far from to ≤ m → (t : Bool) → ltb to from ≡ t
        → pick t (from - steps m (far from to) m) (from + steps m (far from to) m) ≡ to
    by zero g true e = absurd (omega (arith, ltb-true to from e))
    by zero g false e = omega (arith, steps-empty 0 (far from to), ltb-false to from e)
    by (suc m) g true e = omega (arith, steps_all (far from to) (suc m) (omega arith), ltb-true to from e)
    by (suc m) g false e = omega (arith, steps_all (far from to) (suc m) (omega arith), ltb-false to from e)

module _ (k from to n : ℕ) (p : 0 < n) (f : far from to ≤ n) where
  -- after the next pulse it stands one sign further
  pub count_next : moved (count_after k from to n) (sign_at k from to n) ≡ count_after (k + 1) from to n
  unfolding count_after sign_at
  count_next = by (eqb (steps (k + 1) (far from to) n) (steps k (far from to) n)) refl (ltb to from)
    where
      by : (t : Bool) → eqb (steps (k + 1) (far from to) n) (steps k (far from to) n) ≡ t → (u : Bool)
          → moved (pick u (from - steps k (far from to) n) (from + steps k (far from to) n)) (pick t Rest (pick u Minus Plus))
          ≡ pick u (from - steps (k + 1) (far from to) n) (from + steps (k + 1) (far from to) n)
      by true e true = omega (arith, eqb-true (steps (k + 1) (far from to) n) (steps k (far from to) n) e)
      by true e false = omega (arith, eqb-true (steps (k + 1) (far from to) n) (steps k (far from to) n) e)
      by false e true = omega (arith, steps_next k (far from to) n p f (eqb-false (steps (k + 1) (far from to) n) (steps k (far from to) n) e))
      by false e false = omega (arith, steps_next k (far from to) n p f (eqb-false (steps (k + 1) (far from to) n) (steps k (far from to) n) e))

module _ (k from to n : ℕ) (f : far from to ≤ n) (w : k ≤ n) where
  pub steps-at-most : steps k (far from to) n ≤ far from to
  steps-at-most = by n f w
    where
      by : (m : ℕ) → far from to ≤ m → k ≤ m → steps k (far from to) m ≤ far from to
      by zero g l = omega (arith, steps-empty k (far from to))
      by (suc m) g l = steps-within k (far from to) (suc m) (omega arith) g l

  -- between its resting points: in 24 bits where they are
  pub count_small : from < full → to < full → count_after k from to n < full
  unfolding count_after
  count_small a b = within (ltb to from) refl
    where
      within : (t : Bool) → ltb to from ≡ t → pick t (from - steps k (far from to) n) (from + steps k (far from to) n) < full
      within true e = omega (arith, steps-at-most)
      within false e = omega (arith, steps-at-most, ltb-false to from e)

  -- as far from the start as it has made steps
  pub far-made : far from (count_after k from to n) ≡ steps k (far from to) n
  unfolding count_after
  far-made = by (ltb to from) refl
    where
      by : (t : Bool) → ltb to from ≡ t → far from (pick t (from - steps k (far from to) n) (from + steps k (far from to) n)) ≡ steps k (far from to) n
      by true e = omega (arith, steps-at-most, ltb-true to from e)
      by false e = omega (arith, steps-at-most)

-- ---- the rule of the code and 01's rule

-- a quotient of at least s is s exactly if the numerator is below m·(s + 1)
pub quot_is : (x m s : ℕ) → 0 < m → s ≤ x / m → ltb x (m * (s + 1)) ≡ eqb (x / m) s
quot_is x m s h g = by (ltb x (m * (s + 1))) (eqb (x / m) s) refl refl
  where
    by : (t u : Bool) → ltb x (m * (s + 1)) ≡ t → eqb (x / m) s ≡ u → t ≡ u
    by true true p q = refl
    by true false p q =
        let l : x / m < s + 1 = (div-lt_iff_lt-mul h).1 (omega (arith, ltb-true x (m * (s + 1)) p)) in
        absurd (eqb-false (x / m) s q (omega arith))
    by false true p q = absurd (omega (arith, above x m h, ltb-false x (m * (s + 1)) p, ap (λ (y : ℕ). y * m) (eqb-true (x / m) s q)))
    by false false p q = refl

quot-steps : (k d n s : ℕ) → 0 < n → s ≤ steps (k + 1) d n → ltb (2 * (k + 1) * d + n) (2 * n * (s + 1)) ≡ eqb (steps (k + 1) d n) s
quot-steps k d n s p g =
    rw (steps-is (k + 1) d n p) (quot_is (2 * (k + 1) * d + n) (2 * n) s (omega arith) (rw (steps-is (k + 1) d n p) at g))

-- where the axis stands as the formula says, the test on where it stands is 01's rule
module _ (k from to n : ℕ) (p : k < n) (f : far from to ≤ n) where
  pub here-is-at : sign_here (count_after k from to n) from to k n ≡ sign_at k from to n
  unfolding sign_here sign_at
  here-is-at =
      let e = quot-steps k (far from to) n (steps k (far from to) n) (omega arith) (steps-grow k (far from to) n (omega arith) f) in
      rw (far-made k from to n f (omega arith), e)
