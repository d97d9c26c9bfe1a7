-- What the definitions of `Sheet.antt` come to. `near m e` is within a half of m * 2 ^ e, a half away being above it, and no other number is;
-- the test against 0.001 is one against the number 1 / 1000 itself. Assumes nothing.
use mathlib.Core.Path.{◌≡◌, refl, sym, ap, ◌∙◌}
use mathlib.Core.Bool.{Bool, true, false, ◌&&◌}
use Prim.Native.Nat.{ℕ, zero, suc, ◌+◌, ◌-◌, ◌*◌, ◌%◌, ◌^◌, ◌≤◌, ◌<◌}
use native.Mathlib.Nat.{mul-le-mul_right, div-eq_of_lt-le, div-lt_iff_lt-mul, le-div_iff_mul-le, le_refl}
use native.Mathlib.Numerals.{lt-add-one}
use native.Mathlib.Omega.{arith}
use lib.IntN.{ℤ, pos, negsuc}
use lib.Dec.{T, leb, ltb, eqb, ltb→lt, lt→ltb}
use lib.Pow.{pow-add, pow_pos}
use lib.Ieee.{Float, nan, inf, fin, binary64, up, down, round, fits, le}
use lib.Ieee.Fits.{down_pos, and_l, and_r}
use lib.Ieee.Positive.{le→cross, cross→le, above_of_le}
use borrow.Author.Tests.{leb-true, leb-false}
use Rattle.sheet.specs.Sheet.{float, between, near, signed}

-- k - 1/2 ≤ m * 2 ^ e < k + 1/2, with every denominator multiplied out
pub record Nearest (m : ℕ) (e : ℤ) (k : ℕ) : Type 0 where
  pub low : 2 * k * down e ≤ 2 * (m * up e) + down e
  pub high : 2 * (m * up e) < (2 * k + 1) * down e

module _ (m : ℕ) (e : ℤ) where
  even : 0 < 2 * down e
  even = omega (arith, down_pos e)

  pub near-is : Nearest m e (near m e)
  unfolding near
  near-is =
      let k = near m e in
      let a : k * (2 * down e) ≤ 2 * (m * up e) + down e = (le-div_iff_mul-le even).0 (le_refl k) in
      let b : 2 * (m * up e) + down e < (k + 1) * (2 * down e) = (div-lt_iff_lt-mul even).0 (lt-add-one k) in
      record { low = omega arith; high = omega arith }

  pub near-only : (k : ℕ) → Nearest m e k → near m e ≡ k
  unfolding near
  near-only k h = div-eq_of_lt-le (2 * down e) (omega (arith, h.low)) (omega (arith, h.high))

-- halves go away from zero, with either sign: (2 k + 1) / 2 becomes k + 1, and its negation -(k + 1)
pub half-away : (s : Bool) (k : ℕ) → signed s (near (2 * k + 1) (negsuc 0)) ≡ signed s (k + 1)
half-away s k = ap (λ (n : ℕ). signed s n) (near-only (2 * k + 1) (negsuc 0) (k + 1) (record { low = omega arith; high = omega arith }))

-- a whole number is its own nearest
pub whole-stays : (k : ℕ) → near k (pos 0) ≡ k
whole-stays k = near-only k (pos 0) k (record { low = omega arith; high = omega arith })

-- ---- not-a-number is in no range, so it fails the test of the axis and that of the value

pub nan-fails : (lo hi : Float) → between lo nan hi ≡ false
unfolding le
nan-fails nan hi = refl
nan-fails (inf s) hi = refl
nan-fails (fin s m e) hi = refl

-- ---- 0.001: the float nearest to it is the least float that is not below it, so a float is from that float up exactly if its value is 1 / 1000 or more

-- the nearest float to 1 / 1000
thousandth : float 1 1000 ≡ fin false 1152921504606847 (negsuc 59)
unfolding float round
thousandth = refl

-- m / p ≥ 1 / 1000, for a power p of two and an m of 53 digits
least : (m k : ℕ) → m < 2 ^ 53 → 2 ^ suc k ≤ 1000 * m → 1152921504606847 * 2 ^ suc k ≤ m * 2 ^ 60
least m k h g = go (leb (suc k) 60) refl
  where
    small : (m p w : ℕ) → p * w ≡ 2 ^ 60 → p ≤ 1000 * m → 1152921504606847 * p ≤ m * 2 ^ 60
    small m p w e g =
        let a : p * w ≤ 1000 * m * w = mul-le-mul_right w g in
        let b : 1152921504606847 ≤ m * w = omega arith in
        let c : 1152921504606847 * p ≤ m * w * p = mul-le-mul_right p b in
        let d : m * w * p ≡ m * 2 ^ 60 = omega (arith, ap (λ (z : ℕ). m * z) e) in
        rw d at c

    large : (m p w : ℕ) → p ≡ 2 ^ 60 * w → p ≤ 1000 * m → m < 2 ^ 53 → 1152921504606847 * p ≤ m * 2 ^ 60
    large m p w e g h = omega arith

    down_by : (k : ℕ) → suc k ≤ 60 → suc k + (60 - suc k) ≡ 60
    down_by k h = omega arith

    up_by : (k : ℕ) → 60 < suc k → suc k ≡ 60 + (suc k - 60)
    up_by k h = omega arith

    go : (b : Bool) → leb (suc k) 60 ≡ b → 1152921504606847 * 2 ^ suc k ≤ m * 2 ^ 60
    go true e = small m (2 ^ suc k) (2 ^ (60 - suc k)) (sym (pow-add 2 (suc k) (60 - suc k)) ∙ ap (λ (z : ℕ). 2 ^ z) (down_by k (leb-true (suc k) 60 e))) g
    go false e =
        large m (2 ^ suc k) (2 ^ (suc k - 60)) (ap (λ (z : ℕ). 2 ^ z) (up_by k (leb-false (suc k) 60 e)) ∙ pow-add 2 60 (suc k - 60)) g h

short : (m : ℕ) (e : ℤ) → T (fits binary64 (fin false m e)) → m < 2 ^ 53
unfolding fits
short zero e h = pow_pos 53
short (suc m) e h =
    let a = eqb (suc m % 2) 1 in
    let b = ltb (suc m) (2 ^ 53) in
    let c = leb (down e) (2 ^ 1074) in
    ltb→lt (suc m) (2 ^ 53) (and_r a b (and_l (a && b) c (and_l (a && b && c) (ltb (suc m * up e) (2 ^ 1024 * down e)) h)))

module _ (m : ℕ) (e : ℤ) (held : T (fits binary64 (fin false m e))) where
  pub from-thousandth : T (le (float 1 1000) (fin false m e)) → down e ≤ 1000 * (m * up e)
  from-thousandth h =
      let r = fin false 1152921504606847 (negsuc 59) in
      let g : T (le r (fin false m e)) = rw thousandth at h in
      let c : 1152921504606847 * 1 * down e ≤ m * up e * 2 ^ 60 = le→cross r (fin false m e) tt (above_of_le r (fin false m e) tt g) g in
      omega arith

  pub to-thousandth : down e ≤ 1000 * (m * up e) → T (le (float 1 1000) (fin false m e))
  to-thousandth h =
      let r = fin false 1152921504606847 (negsuc 59) in
      rw thousandth (cross→le r (fin false m e) tt (lt→ltb 0 m (some m (up e) (down e) h (down_pos e))) (reach m e (short m e held) h))
    where
      some : (m u d : ℕ) → d ≤ 1000 * (m * u) → 0 < d → 0 < m
      some zero u d h g = absurd (omega arith)
      some (suc m) u d h g = omega arith

      reach : (m : ℕ) (e : ℤ) → m < 2 ^ 53 → down e ≤ 1000 * (m * up e) → 1152921504606847 * 1 * down e ≤ m * up e * 2 ^ 60
      reach m (pos k) a h = omega arith
      reach m (negsuc k) a h = omega (arith, least m k a (omega arith))
