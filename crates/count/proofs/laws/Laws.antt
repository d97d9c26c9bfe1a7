-- The laws of counts and words that every crate cites. Assumes nothing.
use Rattle.std.specs.Prelude.{Some, None}
use mathlib.Core.Path.{◌≡◌, refl, sym, ap, ◌∙◌}
use mathlib.Core.Bool.{Bool, true, false, ◌&&◌}
use Prim.Native.Nat.{ℕ, suc, ◌+◌, ◌-◌, ◌≤◌, ◌<◌}
use native.Mathlib.Nat.{mod-eq_of_lt}
use native.Mathlib.Omega.{arith}
use lib.Dec.{ltb, leb}
use lib.IntN.{ℤ, pos, negsuc, sub_ℕ, ◌+ℤ◌}
use lib.Signed.{mag, le_z}
use borrow.Author.Tests.{lt-ltb, le-ltb, le-leb, lt-leb, ltb-true, ltb-false, leb-true, leb-false}
use Rattle.count.specs.Pick.{pick}
use Rattle.count.specs.Numbers.{within, half, full, value, count, in24, signed, word, placed, added}
use Rattle.count.proofs.laws.Truth.{and-false}

-- ---- tests

-- two tests of order that follow from each other are one
pub same_test : (a b c d : ℕ) → (a ≤ b → c ≤ d) → (c ≤ d → a ≤ b) → leb a b ≡ leb c d
same_test a b c d to from = by (leb a b) (leb c d) refl refl
  where
    by : (x y : Bool) → leb a b ≡ x → leb c d ≡ y → x ≡ y
    by true true p q = refl
    by true false p q = absurd (omega (arith, to (leb-true a b p), leb-false c d q))
    by false true p q = absurd (omega (arith, from (leb-true c d q), leb-false a b p))
    by false false p q = refl

-- ---- words

module _ (w : ℕ) where
  pub signed_low : w < 2147483648 → signed w ≡ pos w
  unfolding signed
  signed_low h = rw (lt-ltb w 2147483648 h)

  pub signed_high : 2147483648 ≤ w → signed w ≡ negsuc (4294967295 - w)
  unfolding signed
  signed_high h = rw (le-ltb w 2147483648 h)

-- a range from 0 up
pub within-up : (lo hi w : ℕ) → hi < 2147483648 → within (pos lo) (pos hi) (signed w) ≡ leb lo w && leb w hi
unfolding within
within-up lo hi w h = by (ltb w 2147483648) refl
  where
    by : (b : Bool) → ltb w 2147483648 ≡ b → le_z (pos lo) (signed w) && le_z (signed w) (pos hi) ≡ leb lo w && leb w hi
    by true e = rw (signed_low w (ltb-true w 2147483648 e))
    by false e =
        let g = ltb-false w 2147483648 e in
        rw (signed_high w g, lt-leb w hi (omega arith)) (sym (and-false (leb lo w)))

-- a range from 0
pub within-zero : (hi w : ℕ) → hi < 2147483648 → within (pos 0) (pos hi) (signed w) ≡ leb w hi
within-zero hi w h = within-up 0 hi w h ∙ rw (le-leb 0 w (omega arith))

-- ---- differences of two naturals

module _ (a b : ℕ) where
  pub sub-pos : b ≤ a → sub_ℕ a b ≡ pos (a - b)
  sub-pos h = rw (le-ltb a b h)

  pub sub-neg : a < b → sub_ℕ a b ≡ negsuc (b - suc a)
  sub-neg h = rw (lt-ltb a b h)

-- equal where the sums across are
pub sub-eq : (a b c d : ℕ) → a + d ≡ c + b → sub_ℕ a b ≡ sub_ℕ c d
sub-eq a b c d e = by (ltb a b) refl
  where
    by : (t : Bool) → ltb a b ≡ t → sub_ℕ a b ≡ sub_ℕ c d
    by true p =
        let l = ltb-true a b p in
        sub-neg a b l ∙ ap negsuc (omega arith) ∙ sym (sub-neg c d (omega arith))
    by false p =
        let l = ltb-false a b p in
        sub-pos a b l ∙ ap pos (omega arith) ∙ sym (sub-pos c d (omega arith))

pub sub-plus : (a b n : ℕ) → sub_ℕ a b +ℤ pos n ≡ sub_ℕ (a + n) b
sub-plus a b n = by (ltb a b) refl
  where
    by : (t : Bool) → ltb a b ≡ t → sub_ℕ a b +ℤ pos n ≡ sub_ℕ (a + n) b
    by true p =
        let l = ltb-true a b p in
        rw (sub-neg a b l) (sub-eq n (suc (b - suc a)) (a + n) b (omega arith))
    by false p =
        let l = ltb-false a b p in
        rw (sub-pos a b l) (sym (sub-pos (a + n) b (omega arith) ∙ ap pos (omega arith)))

pub sub-minus : (a b n : ℕ) → sub_ℕ a b +ℤ negsuc n ≡ sub_ℕ a (b + suc n)
sub-minus a b n = by (ltb a b) refl
  where
    by : (t : Bool) → ltb a b ≡ t → sub_ℕ a b +ℤ negsuc n ≡ sub_ℕ a (b + suc n)
    by true p =
        let l = ltb-true a b p in
        rw (sub-neg a b l) (sym (sub-neg a (b + suc n) (omega arith) ∙ ap negsuc (omega arith)))
    by false p =
        let l = ltb-false a b p in
        rw (sub-pos a b l) (sub-eq (a - b) (suc n) a (b + suc n) (omega arith))

-- ---- counts

-- a count is of 24 bits exactly if it is below 16,777,216
pub in24-value : (c : ℕ) → in24 (value c) ≡ ltb c full
unfolding in24 within
in24-value c = by (ltb c half) refl
  where
    by : (t : Bool) → ltb c half ≡ t → le_z (negsuc 8388607) (sub_ℕ c half) && le_z (sub_ℕ c half) (pos 8388607) ≡ ltb c full
    by true p =
        let l = ltb-true c half p in
        rw (sub-neg c half l, le-leb (half - suc c) 8388607 (omega arith), lt-ltb c full (omega arith))
    by false p =
        let l = ltb-false c half p in
        rw (sub-pos c half l) (same_test (c - half) 8388607 (suc c) full (λ q. omega arith) (λ q. omega arith))

-- the count of a count's number is the count
pub count-value : (c : ℕ) → count (value c) ≡ c
count-value c = by (ltb c half) refl
  where
    by : (t : Bool) → ltb c half ≡ t → count (sub_ℕ c half) ≡ c
    by true p =
        let l = ltb-true c half p in
        rw (sub-neg c half l) (omega arith)
    by false p =
        let l = ltb-false c half p in
        rw (sub-pos c half l) (omega arith)

-- and the number of a number's count is the number, in 24 bits
pub value-count : (z : ℤ) → mag z < half → value (count z) ≡ z
value-count (pos n) h = sub-pos (n + half) half (omega arith) ∙ ap pos (omega arith)
value-count (negsuc n) h = sub-neg (8388607 - n) half (omega arith) ∙ ap negsuc (omega arith)

-- the place of a count's number
pub placed-value : (c : ℕ) → placed (value c) ≡ pick (ltb c full) (Some c) None
unfolding placed
placed-value c = rw (in24-value c, count-value c)

-- ---- a count and a word's distance, by counts alone

module _ (c w : ℕ) where
  pub added-low : w < 2147483648 → added c w ≡ pick (ltb (c + w) full) (Some (c + w)) None
  unfolding added
  added-low h = rw (signed_low w h, sub-plus c half w) (placed-value (c + w))

  pub added-high : 2147483648 ≤ w → 4294967295 - w < c
      → added c w ≡ pick (ltb (c - (4294967295 - w) - 1) full) (Some (c - (4294967295 - w) - 1)) None
  unfolding added
  added-high h l =
      let n = 4294967295 - w in
      rw (signed_high w h, sub-minus c half n, sub-eq c (half + suc n) (c - n - 1) half (omega arith)) (placed-value (c - n - 1))

  pub added-below : 2147483648 ≤ w → c ≤ 4294967295 - w → added c w ≡ None
  unfolding added placed in24 within
  added-below h l =
      let n = 4294967295 - w in
      rw (signed_high w h, sub-minus c half n, sub-neg c (half + suc n) (omega arith), lt-leb (half + suc n - suc c) 8388607 (omega arith))

-- ---- a word's number as a count, and back

module _ (w : ℕ) where
  pub placed-low : w < half → placed (signed w) ≡ Some (w + half)
  unfolding placed in24 within
  placed-low h = rw (signed_low w (omega arith), le-leb w 8388607 (omega arith))

  pub placed-high : 4286578688 ≤ w → w ≤ 4294967295 → placed (signed w) ≡ Some (w - 4286578688)
  unfolding placed in24 within
  placed-high h f = rw (signed_high w (omega arith), le-leb (4294967295 - w) 8388607 (omega arith)) (ap Some (omega arith))

  pub placed-outside : half ≤ w → w < 4286578688 → placed (signed w) ≡ None
  unfolding placed in24 within
  placed-outside h l = by (ltb w 2147483648) refl
    where
      by : (t : Bool) → ltb w 2147483648 ≡ t → placed (signed w) ≡ None
      by true p = rw (signed_low w (ltb-true w 2147483648 p), lt-leb w 8388607 (omega arith))
      by false p = rw (signed_high w (ltb-false w 2147483648 p), lt-leb (4294967295 - w) 8388607 (omega arith))

pub word-plus : (n : ℕ) → n ≤ 4294967295 → word (pos n) ≡ n
unfolding word
word-plus n f = mod-eq_of_lt (omega arith)

pub word-neg : (n : ℕ) → n ≤ 4294967295 → word (negsuc n) ≡ 4294967295 - n
unfolding word
word-neg n f = ap (λ (k : ℕ). 4294967295 - k) (mod-eq_of_lt (omega arith))

pub word-value-low : (c : ℕ) → c < half → word (value c) ≡ c + 4286578688
word-value-low c h = rw (sub-neg c half h) (word-neg (half - suc c) (omega arith) ∙ omega arith)

pub word-value-high : (c : ℕ) → half ≤ c → c ≤ 4294967295 → word (value c) ≡ c - half
word-value-high c h f = rw (sub-pos c half h) (word-plus (c - half) (omega arith))

-- the number of a word of a number of 32 bits is the number
pub signed_word : (z : ℤ) → mag z < 2147483648 → signed (word z) ≡ z
signed_word (pos n) h = rw (word-plus n (omega arith)) (signed_low n h)
signed_word (negsuc n) h =
    rw (word-neg n (omega arith), signed_high (4294967295 - n) (omega arith)) (ap negsuc (omega arith))

-- a word is its own number's word
pub word-signed : (w : ℕ) → w ≤ 4294967295 → word (signed w) ≡ w
word-signed w f = by (ltb w 2147483648) refl
  where
    by : (t : Bool) → ltb w 2147483648 ≡ t → word (signed w) ≡ w
    by true p = rw (signed_low w (ltb-true w 2147483648 p)) (word-plus w f)
    by false p = rw (signed_high w (ltb-false w 2147483648 p)) (word-neg (4294967295 - w) (omega arith) ∙ omega arith)
