-- What the digits and the exponent field of a pattern say of the nearest whole number of its float. Assumes nothing.
use mathlib.Core.Path.{◌≡◌, refl, sym, ap, ◌∙◌}
use mathlib.Core.Bool.{Bool, true, false, cond}
use Prim.Native.Nat.{ℕ, zero, suc, ◌+◌, ◌-◌, ◌*◌, ◌/◌, ◌%◌, ◌^◌, ◌≤◌, ◌<◌, min}
use native.Mathlib.Nat.{le_trans, le_of_eq, lt_of_lt_of_le, lt_of_le_of_lt, mul-le-mul_right, mod-lt, div-eq_of_lt, div-lt_iff_lt-mul, le-div_iff_mul-le, le-add_right}
use native.Mathlib.Omega.{arith}
use lib.Dec.{T, leb, eqb, lit≤, eqb→eq}
use lib.Pow.{pow-add, pow_pos, pow_mono, shl_lt, field}
use lib.Ieee.{Float, nan, inf, fin, binary64, up, down, odd, of_fields, of_bits}
use lib.Ieee.Fits.{down_pos}
use lib.Ieee.Exact.{HasValue, odd_sign}
use lib.Ieee.Nearest.{div_same}
use Rattle.sheet.specs.Sheet.{half_up, near}
use Rattle.sheet.specs.work.Work.{capped}

-- ---- a half more, rounded down, of a fraction a / c

twice-pos : (c : ℕ) → 0 < c → 0 < 2 * c
twice-pos c h = omega arith

-- of two equal fractions the same
same : (n d a c : ℕ) → 0 < d → 0 < c → n * c ≡ a * d → half_up n d ≡ half_up a c
unfolding half_up
same n d a c D C v = div_same (2 * n + d) (2 * d) (2 * a + c) (2 * c) (twice-pos d D) (twice-pos c C) (cross n d a c v)
  where
    cross : (n d a c : ℕ) → n * c ≡ a * d → (2 * n + d) * (2 * c) ≡ (2 * a + c) * (2 * d)
    cross n d a c v = omega arith

by_value : (x : Float) (s : Bool) (a c : ℕ) → 0 < c → HasValue x s a c → capped x ≡ min (half_up a c) 16777216
unfolding capped near
by_value nan s a c C v = absurd v
by_value (inf t) s a c C v = absurd v
by_value (fin t m e) s a c C v = ap (λ (k : ℕ). min k 16777216) (same (m * up e) (down e) a c (down_pos e) C v.1)

-- ---- the three ranges of a / c

none : (a c : ℕ) → 2 * a < c → min (half_up a c) 16777216 ≡ 0
unfolding half_up
none a c h = ap (λ (k : ℕ). min k 16777216) (div-eq_of_lt (lt a c h))
  where
    lt : (a c : ℕ) → 2 * a < c → 2 * a + c < 2 * c
    lt a c h = omega arith

some : (a c : ℕ) → 0 < c → a < 16777216 * c → min (half_up a c) 16777216 ≡ half_up a c
unfolding half_up
some a c C h = uncut ((2 * a + c) / (2 * c)) ((div-lt_iff_lt-mul (twice-pos c C)).1 (lt a c h))
  where
    lt : (a c : ℕ) → a < 16777216 * c → 2 * a + c < 16777217 * (2 * c)
    lt a c h = omega arith

    uncut : (n : ℕ) → n < 16777217 → min n 16777216 ≡ n
    uncut n h = omega arith

many : (a c : ℕ) → 0 < c → 16777216 * c ≤ a → min (half_up a c) 16777216 ≡ 16777216
unfolding half_up
many a c C h = cut ((2 * a + c) / (2 * c)) ((le-div_iff_mul-le (twice-pos c C)).1 (le a c h))
  where
    le : (a c : ℕ) → 16777216 * c ≤ a → 16777216 * (2 * c) ≤ 2 * a + c
    le a c h = omega arith

    cut : (n : ℕ) → 16777216 ≤ n → min n 16777216 ≡ 16777216
    cut n h = omega arith

-- q * 2 ^ j / 2 ^ l with the common power of two cancelled
cancelled : (q j l : ℕ) → j ≤ l → half_up (q * 2 ^ j) (2 ^ l) ≡ half_up q (2 ^ (l - j))
cancelled q j l h = same (q * 2 ^ j) (2 ^ l) q (2 ^ (l - j)) (pow_pos l) (pow_pos (l - j)) (turn q (2 ^ j) (2 ^ (l - j)) ∙ ap (λ (k : ℕ). q * k) (sym (pow-add 2 j (l - j)) ∙ ap (λ (k : ℕ). 2 ^ k) (join j l h)))
  where
    turn : (q p r : ℕ) → q * p * r ≡ q * (p * r)
    turn q p r = omega arith

    join : (i l : ℕ) → i ≤ l → i + (l - i) ≡ l
    join i l h = omega arith

-- ---- a pattern's fields: a field j + 1 puts a one before the digits t, which then count 2 ^ j units of 2 ^ -1074

fits : (t : ℕ) → t < 2 ^ 52 → 2 ^ 52 + t < 2 ^ 53
fits t h = omega arith

under : (p q j l : ℕ) → q < 2 ^ p → p + j + 1 ≤ l → 2 * (q * 2 ^ j) < 2 ^ l
under p q j l h g = lt_of_le_of_lt (le_of_eq (turn (q * 2 ^ j))) (lt_of_lt_of_le (shl_lt (p + j) 1 (shl_lt p j h)) (pow_mono g))
  where
    turn : (a : ℕ) → 2 * a ≡ a * 2 ^ 1
    turn a = omega arith

over : (t j : ℕ) → 1046 ≤ j → 16777216 * 2 ^ 1074 ≤ (2 ^ 52 + t) * 2 ^ j
over t j h =
    le_trans (le_of_eq (sym (pow-add 2 24 1074)))
    (le_trans (pow_mono (add j h)) (le_trans (le_of_eq (pow-add 2 52 j)) (mul-le-mul_right (2 ^ j) (le-add_right (2 ^ 52) t))))
  where
    add : (j : ℕ) → 1046 ≤ j → 24 + 1074 ≤ 52 + j
    add j h = omega arith

-- a finite field's value
module _ (s : Bool) (t : ℕ) (t52 : t < 2 ^ 52) where
  value : (j : ℕ) → capped (odd 53 s (2 ^ 52 + t) j 1074) ≡ min (half_up ((2 ^ 52 + t) * 2 ^ j) (2 ^ 1074)) 16777216
  value j = by_value (odd 53 s (2 ^ 52 + t) j 1074) s ((2 ^ 52 + t) * 2 ^ j) (2 ^ 1074) (pow_pos 1074) (odd_sign 53 s (2 ^ 52 + t) j 1074)

  -- all ones in the field is an infinity or a NaN
  top : (j : ℕ) → suc j < 2047 → of_fields binary64 s (suc j) t ≡ odd 53 s (2 ^ 52 + t) j 1074
  unfolding of_fields
  top j h = go (eqb (suc j) 2047) (eqb→eq (suc j) 2047)
    where
      go : (b : Bool) → (T b → suc j ≡ 2047) → cond b (cond (eqb t 0) (inf s) nan) (odd 53 s (2 ^ 52 + t) j 1074) ≡ odd 53 s (2 ^ 52 + t) j 1074
      go true e = let k : suc j ≡ 2047 = e tt in absurd (omega arith)
      go false e = refl

  small : (x : ℕ) → x < 1022 → 0 ≡ capped (of_fields binary64 s x t)
  unfolding of_fields
  small zero h =
      sym (by_value (odd 53 s t 0 1074) s (t * 2 ^ 0) (2 ^ 1074) (pow_pos 1074) (odd_sign 53 s t 0 1074)
      ∙ none (t * 2 ^ 0) (2 ^ 1074) (under 52 t 0 1074 t52 (lit≤ tt)))
  small (suc j) h =
      sym (ap capped (top j (omega arith)) ∙ value j ∙ none ((2 ^ 52 + t) * 2 ^ j) (2 ^ 1074) (under 53 (2 ^ 52 + t) j 1074 (fits t t52) (omega arith)))

  middle : (x : ℕ) → 1022 ≤ x → x < 1047 → half_up (t + 2 ^ 52) (2 ^ (1075 - x)) ≡ capped (of_fields binary64 s x t)
  middle zero g h = absurd (omega arith)
  middle (suc j) g h =
      sym (ap capped (top j (omega arith)) ∙ value j ∙ ap (λ (k : ℕ). min k 16777216) (cancelled (2 ^ 52 + t) j 1074 (omega arith))
      ∙ some (2 ^ 52 + t) (2 ^ (1074 - j)) (pow_pos (1074 - j)) (room j h)
      ∙ ap (λ (k : ℕ). half_up k (2 ^ (1074 - j))) (turn t)
      ∙ ap (λ (k : ℕ). half_up (t + 2 ^ 52) (2 ^ k)) (one j))
    where
      turn : (t : ℕ) → 2 ^ 52 + t ≡ t + 2 ^ 52
      turn t = omega arith

      one : (j : ℕ) → 1074 - j ≡ 1075 - suc j
      one j = omega arith

      less : (q u : ℕ) → q < 2 ^ 53 → 2 ^ 29 ≤ u → q < 16777216 * u
      less q u h g = omega arith

      places : (j : ℕ) → suc j < 1047 → 29 ≤ 1074 - j
      places j h = omega arith

      room : (j : ℕ) → suc j < 1047 → 2 ^ 52 + t < 16777216 * 2 ^ (1074 - j)
      room j h = less (2 ^ 52 + t) (2 ^ (1074 - j)) (fits t t52) (pow_mono (places j h))

  large : (x : ℕ) → 1047 ≤ x → 16777216 ≡ capped (of_fields binary64 s x t)
  unfolding of_fields capped
  large zero h = absurd (omega arith)
  large (suc j) h = go (eqb (suc j) 2047) (eqb t 0)
    where
      go : (a b : Bool) → 16777216 ≡ capped (cond a (cond b (inf s) nan) (odd 53 s (2 ^ 52 + t) j 1074))
      go true true = refl
      go true false = refl
      go false b = sym (value j ∙ many ((2 ^ 52 + t) * 2 ^ j) (2 ^ 1074) (pow_pos 1074) (over t j (omega arith)))

-- ---- a pattern

pub of_bits_is : (b : ℕ) → of_bits binary64 b ≡ of_fields binary64 (leb (2 ^ 63) b) (b / 2 ^ 52 % 2048) (b % 2 ^ 52)
unfolding of_bits
of_bits_is b = ap (λ (k : ℕ). of_fields binary64 (leb (2 ^ 63) b) k (b % 2 ^ 52)) (field b 11 52)

module _ (b : ℕ) where
  abbrev x : ℕ
  x = b / 2 ^ 52 % 2048

  digits_lt : b % 2 ^ 52 < 2 ^ 52
  digits_lt = mod-lt b (pow_pos 52)

  -- the digits with the one before them
  pub digits_short : b % 2 ^ 52 + 2 ^ 52 < 2 ^ 53
  digits_short = omega (arith, digits_lt)

  pub near_small : x < 1022 → 0 ≡ capped (of_bits binary64 b)
  near_small h = small (leb (2 ^ 63) b) (b % 2 ^ 52) digits_lt x h ∙ sym (ap capped (of_bits_is b))

  pub near_middle : 1022 ≤ x → x < 1047 → half_up (b % 2 ^ 52 + 2 ^ 52) (2 ^ (1075 - x)) ≡ capped (of_bits binary64 b)
  near_middle g h = middle (leb (2 ^ 63) b) (b % 2 ^ 52) digits_lt x g h ∙ sym (ap capped (of_bits_is b))

  pub near_large : 1047 ≤ x → 16777216 ≡ capped (of_bits binary64 b)
  near_large h = large (leb (2 ^ 63) b) (b % 2 ^ 52) digits_lt x h ∙ sym (ap capped (of_bits_is b))
