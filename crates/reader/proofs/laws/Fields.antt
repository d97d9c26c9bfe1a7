-- What the definitions of `Fields.antt` come to byte by byte, and between the code's way to a whole number and them. Assumes nothing.
use mathlib.Core.Path.{◌≡◌, refl, sym, ◌∙◌}
use mathlib.Core.Bool.{Bool, true, false, cond, not, ◌&&◌}
use mathlib.Core.List.{List, [], ◌∷◌}
use Prim.Native.Nat.{ℕ, ◌+◌, ◌-◌, ◌*◌, ◌^◌, ◌≤◌, ◌<◌}
use native.Mathlib.Nat.{pow-le-pow_right, pow-suc}
use native.Mathlib.Numerals.{add-one}
use native.Mathlib.Omega.{arith}
use lib.Dec.{leb, eqb}
use Rattle.std.specs.Prelude.{Option, Some, None}
use lib.Pointwise.{pointwise}
use lib.ListN.{length, take, drop, get_or, drop_of_length-le}
use borrow.Author.Tests.{le-leb, lt-leb, leb-true}
use Rattle.count.specs.Pick.{pick, every}
use Rattle.count.specs.Numbers.{with_sign}
use Rattle.count.proofs.laws.Lists.{next}
use Rattle.std.specs.List.{list_all, prefix_len}
use Rattle.std.proofs.lemmas.Option.{none-some, cond_some}
use Rattle.count.proofs.laws.Truth.{and-true, and-false, never}
use Rattle.reader.specs.Reader.{is_digit}
use Rattle.reader.specs.Fields.{field_length, with_digits, in64, signed_whole, whole_of}
use Rattle.reader.specs.work.Sizes.{size_from, sized_whole}

-- ---- a test of every byte, and the library's word for it
pub every_is : (f : ℕ → Bool) (s : List ℕ) → every f s ≡ list_all f s
unfolding every
every_is f [] = refl
every_is f (b ∷ s) = rw (every_is f s) refl

-- ---- a field

-- it is no longer than what is left
pub field-most : (s : List ℕ) → field_length s ≤ length s
unfolding field_length
field-most [] = omega arith
field-most (b ∷ s) = go (eqb b 32) (field-most s)
  where
    go : (t : Bool) → field_length s ≤ length s → pick t 0 (field_length s + 1) ≤ length (b ∷ s)
    go true h = omega arith
    go false h = omega arith

-- the bytes before the first space, as the library counts them
pub field_is : (s : List ℕ) → prefix_len (λ b. not (eqb b 32)) s ≡ field_length s
unfolding field_length
field_is [] = refl
field_is (b ∷ s) = go (eqb b 32) (field_is s)
  where
    go : (t : Bool) {n m : ℕ} → n ≡ m → cond (not t) (1 + n) 0 ≡ pick t 0 (m + 1)
    go true e = refl
    go false e = omega arith

module _ (s : List ℕ) (i : ℕ) where
  -- ---- the size of digits
  pub size_none : (n : ℕ) → length s ≤ i → size_from (drop i s) n ≡ Some n
  unfolding size_from
  size_none n h = rw (drop_of_length-le s h)

  pub size-stops : (n : ℕ) → i < length s → is_digit (get_or s i 0) ≡ false → size_from (drop i s) n ≡ None
  unfolding size_from
  size-stops n h e = rw (next s i h, e)

  pub size-goes : (n : ℕ) → i < length s → is_digit (get_or s i 0) ≡ true → size_from (drop i s) n ≡ size_from (drop (i + 1) s) (n * 10 + (get_or s i 0 - 48))
  unfolding size_from
  size-goes n h e = rw (next s i h, e)

-- fewer than 20 digits fit 64 bits
pub size_room : (i n : ℕ) → i < 19 → n < 10 ^ i → n * 10 + 9 < 18446744073709551616
size_room i n h g =
    let l : i ≤ 18 = omega arith in
    let p : 10 ^ i ≤ 10 ^ 18 = pow-le-pow_right {n = 10} (omega arith) l in
    omega arith

pub size-more : (i n d : ℕ) → n < 10 ^ i → d ≤ 9 → n * 10 + d < 10 ^ (i + 1)
size-more i n d h g = rw (add-one, pow-suc) (omega arith)

-- ---- the code's way and the definition

pub size_is : (s : List ℕ) (n : ℕ) → size_from s n ≡ pick (every is_digit s) (Some (with_digits s n)) None
unfolding size_from every with_digits
size_is [] n = refl
size_is (b ∷ s) n = go (is_digit b) (size_is s (n * 10 + (b - 48)))
  where
    go : (t : Bool) {x : Option ℕ} → x ≡ pick (every is_digit s) (Some (with_digits s (n * 10 + (b - 48)))) None
        → pick t x None ≡ pick (t && every is_digit s) (Some (with_digits s (n * 10 + (b - 48)))) None
    go true e = e
    go false e = refl

-- the tests of a whole number in the code's order
module _ (minus : Bool) (s : List ℕ) where
  pub signed-outside : (1 ≤ length s → 19 < length s) → signed_whole minus s ≡ None
  unfolding signed_whole
  signed-outside h = go (leb 1 (length s)) refl
    where
      go : (t : Bool) → leb 1 (length s) ≡ t → pick (leb 1 (length s) && leb (length s) 19 && every is_digit s && in64 (with_sign minus (with_digits s 0))) (Some (with_sign minus (with_digits s 0))) None ≡ None
      go true e = rw (e, lt-leb (length s) 19 (h (leb-true 1 (length s) e))) refl
      go false e = rw e refl

  pub signed-letters : size_from s 0 ≡ None → signed_whole minus s ≡ None
  unfolding signed_whole
  signed-letters h = go (every is_digit s) refl
    where
      go : (t : Bool) → every is_digit s ≡ t → pick (leb 1 (length s) && leb (length s) 19 && every is_digit s && in64 (with_sign minus (with_digits s 0))) (Some (with_sign minus (with_digits s 0))) None ≡ None
      go true e = absurd (none-some (with_digits s 0) (sym h ∙ size_is s 0 ∙ rw e refl))
      go false e = rw (e, and-false) refl

  pub signed_is : (n : ℕ) → 0 < length s → length s ≤ 19 → size_from s 0 ≡ Some n → signed_whole minus s ≡ sized_whole minus n
  unfolding signed_whole sized_whole
  signed_is n a b h = go (every is_digit s) refl
    where
      go : (t : Bool) → every is_digit s ≡ t → pick (leb 1 (length s) && leb (length s) 19 && every is_digit s && in64 (with_sign minus (with_digits s 0))) (Some (with_sign minus (with_digits s 0))) None ≡ pick (in64 (with_sign minus n)) (Some (with_sign minus n)) None
      go true e =
          let found : Some (with_digits s 0) ≡ Some n = rw e at (sym (size_is s 0) ∙ h) in
          rw (le-leb 1 (length s) (omega arith), le-leb (length s) 19 b, e, (cond_some true (with_digits s 0) n found).1) refl
      go false e = absurd (none-some n (rw e at (sym (size_is s 0) ∙ h)))

-- a minus in front, or none, as a test of the first byte
pub whole-minus : (s : List ℕ) → pointwise eqb (take 1 s) (45 ∷ []) ≡ true → whole_of s ≡ signed_whole true (drop 1 s)
unfolding whole_of
whole-minus [] h = never h
whole-minus (b ∷ s) h = rw (rw and-true at h) refl

pub whole-plus : (s : List ℕ) → pointwise eqb (take 1 s) (45 ∷ []) ≡ false → whole_of s ≡ signed_whole false s
unfolding whole_of signed_whole
whole-plus [] h = refl
whole-plus (b ∷ s) h = rw (rw and-true at h) refl
