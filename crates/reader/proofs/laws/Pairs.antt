-- What the definitions of bytes in a field come to, for the code's tests and for its loop. Assumes nothing.
use mathlib.Core.Path.{◌≡◌, refl, sym, ap, ◌∙◌}
use mathlib.Core.Bool.{true, false, ◌&&◌}
use mathlib.Core.List.{List, [], ◌∷◌, ◌++◌}
use Prim.Native.Nat.{ℕ, zero, suc, ◌+◌, ◌*◌, ◌/◌, ◌%◌, ◌≤◌, ◌<◌}
use native.Mathlib.Nat.{zero-add}
use native.Mathlib.Numerals.{add-one}
use native.Mathlib.Omega.{arith}
use lib.Dec.{leb, eqb}
use lib.Pointwise.{pointwise}
use lib.ListN.{length, drop, get_or, set}
use lib.Seq.{paste, paste-suc, take-length}
use borrow.Author.Tests.{leb-true}
use Rattle.count.specs.Pick.{every}
use Rattle.count.proofs.laws.Truth.{and_parts, and-true, and-false}
use Rattle.reader.specs.Fields.{is_hex, is_dash, are_pairs, byte_of, pairs, given, bytes_of}

-- ---- a field of one byte

pub dash-is : (s : List ℕ) → pointwise eqb s (45 ∷ []) ≡ is_dash s
unfolding is_dash
dash-is [] = refl
dash-is (b ∷ []) = and-true (eqb b 45)
dash-is (b ∷ c ∷ s) = and-false (eqb b 45)

-- ---- pairs of digits

half-more : (n : ℕ) → suc (n / 2) ≡ suc (suc n) / 2
half-more n = omega arith

pub pairs-length : (s : List ℕ) → length (pairs s) ≡ length s / 2
unfolding pairs
pairs-length [] = refl
pairs-length (b ∷ []) = refl
pairs-length (b ∷ c ∷ s) = ap suc (pairs-length s) ∙ half-more (length s)

-- the pair at i
pub pair-at : (s : List ℕ) (i : ℕ) → i < length s / 2 → byte_of (get_or s (2 * i) 0) (get_or s (2 * i + 1) 0) ≡ get_or (pairs s) i 0
unfolding pairs
pair-at [] i h = absurd (omega arith)
pair-at (b ∷ []) i h = absurd (omega arith)
pair-at (b ∷ c ∷ s) zero h = refl
pair-at (b ∷ c ∷ s) (suc i) h =
    let e : 2 * suc i ≡ suc (suc (2 * i)) = omega arith in
    let g : 2 * suc i + 1 ≡ suc (suc (2 * i + 1)) = omega arith in
    let l : i < length s / 2 = omega arith in
    rw (g, e) (pair-at s i l)

-- one more of them at the front
pub pairs-more : (s bytes : List ℕ) (i : ℕ) → i < length s / 2 → length s / 2 ≤ length bytes
    → set (paste bytes 0 (pairs s) i) i (get_or (pairs s) i 0) ≡ paste bytes 0 (pairs s) (i + 1)
pairs-more s bytes i h g =
    let l : i < length (pairs s) = omega (arith, pairs-length s) in
    ap (λ (k : ℕ). set (paste bytes 0 (pairs s) i) k (get_or (pairs s) i 0)) (sym (zero-add i)) ∙ rw add-one (paste-suc bytes 0 (pairs s) i 0 (omega arith) l)

-- all of them
pub pairs-all : (s bytes : List ℕ) → paste bytes 0 (pairs s) (length s / 2) ≡ pairs s ++ drop (length (pairs s)) bytes
pairs-all s bytes = rw (← pairs-length s, zero-add, take-length)

-- ---- the tests in the code's order

-- there is room for pairs that pass their test
pub pairs-room : (s : List ℕ) (n : ℕ) → are_pairs s n ≡ true → length s / 2 ≤ n
unfolding are_pairs
pairs-room s n h =
    let p = and_parts (leb 1 (length s / 2) && leb (length s / 2) n && eqb (length s % 2) 0) (every is_hex s) h in
    let q = and_parts (leb 1 (length s / 2) && leb (length s / 2) n) (eqb (length s % 2) 0) p.0 in
    leb-true (length s / 2) n (and_parts (leb 1 (length s / 2)) (leb (length s / 2) n) q.0).1

module _ (s bytes : List ℕ) where
  pub bytes-none : is_dash s ≡ true → given true bytes ≡ bytes_of s bytes
  unfolding bytes_of
  bytes-none h = rw h

  pub bytes-wrong : is_dash s ≡ false → are_pairs s (length bytes) ≡ false → given false bytes ≡ bytes_of s bytes
  unfolding bytes_of
  bytes-wrong h g = rw (h, g)

  pub bytes_read : is_dash s ≡ false → are_pairs s (length bytes) ≡ true → {t : List ℕ} → t ≡ pairs s ++ drop (length (pairs s)) bytes → given true t ≡ bytes_of s bytes
  unfolding bytes_of
  bytes_read h g e = rw (h, g, e)
