-- Laws of a number's digits, and of a text at the front of a part. Assumes nothing.
use Prim.Native.Nat.{ℕ, zero, suc, ◌+◌, ◌-◌, ◌*◌, ◌/◌, ◌%◌, ◌<◌, ◌≤◌, ◌^◌}
use mathlib.Core.Path.{◌≡◌, refl, ap, sym, ◌∙◌}
use mathlib.Core.List.{List, [], ◌∷◌, ◌++◌, append_assoc}
use mathlib.Core.Bool.{Bool, true, false}
use native.Mathlib.Numerals.{add-one}
use native.Mathlib.Omega.{arith}
use borrow.Author.Tests.{lt-ltb, le-ltb, ltb-false}
use lib.Dec.{ltb}
use lib.IntN.{ℤ, pos, negsuc}
use lib.ListN.{length, get_or, drop, set, length-append}
use Rattle.std.proofs.lemmas.List.{drop-set}
use Rattle.count.specs.Pick.{pick}
use Rattle.count.specs.Text.{written, wrote, hex_digit, hexes, last_digits, decimal, decimals, digits, shown, four_digits}

-- ---- more room than is needed changes nothing

more_by : (t : Bool) (n : ℕ) (l m : List ℕ) → ltb n 10 ≡ t → (10 ≤ n → l ≡ m)
    → pick t ((48 + n) ∷ []) (l ++ (48 + n % 10) ∷ []) ≡ pick t ((48 + n) ∷ []) (m ++ (48 + n % 10) ∷ [])
more_by true n l m e f = refl
more_by false n l m e f = rw (f (ltb-false n 10 e))

pub decimal-more : (k n : ℕ) → n < 10 ^ suc k → decimal (suc k) n ≡ decimal (suc (suc k)) n
unfolding decimal
decimal-more zero n h = more_by (ltb n 10) n (decimal zero (n / 10)) (decimal 1 (n / 10)) refl (λ m. absurd (omega arith))
decimal-more (suc k) n h = more_by (ltb n 10) n (decimal (suc k) (n / 10)) (decimal (suc (suc k)) (n / 10)) refl (λ m. decimal-more k (n / 10) (omega arith))

long-by : (t : Bool) (n k : ℕ) (l : List ℕ) → length l ≤ k → length (pick t ((48 + n) ∷ []) (l ++ (48 + n % 10) ∷ [])) ≤ suc k
long-by true n k l h = omega arith
long-by false n k l h = simp length-append (omega arith)

pub decimal-long : (k n : ℕ) → length (decimal k n) ≤ k
unfolding decimal
decimal-long zero n = omega arith
decimal-long (suc k) n = long-by (ltb n 10) n k (decimal k (n / 10)) (decimal-long k (n / 10))

-- ---- what callers use

pub digits-small : (n : ℕ) → n < 10 → digits n ≡ (48 + n) ∷ []
unfolding digits decimal
digits-small n h = rw (lt-ltb n 10 h)

pub digits-large : (n : ℕ) → 10 ≤ n → n < 10000000000 → digits n ≡ digits (n / 10) ++ (48 + n % 10) ∷ []
unfolding digits decimal
digits-large n h l = large n h ∙ ap (λ (d : List ℕ). d ++ (48 + n % 10) ∷ []) (decimal-more 8 (n / 10) (omega arith))
  where
    large : (n : ℕ) → 10 ≤ n → decimal 10 n ≡ decimal 9 (n / 10) ++ (48 + n % 10) ∷ []
    large n h = rw (le-ltb n 10 h)

-- a number below 10 ^ 9 has at most nine digits
pub digits_long : (n : ℕ) → n < 1000000000 → length (digits n) ≤ 9
unfolding digits decimal
digits_long n h = rw (sym (decimal-more 8 n h)) (decimal-long 9 n)

-- a number of 32 bits has at most ten
pub digits-most : (n : ℕ) → length (digits n) ≤ 10
unfolding digits
digits-most n = decimal-long 10 n

-- a number with its minus has at most eleven bytes
pub shown-most : (z : ℤ) → length (shown z) ≤ 11
unfolding shown
shown-most (pos n) = omega (arith, digits-most n)
shown-most (negsuc n) = omega (arith, digits-most (suc n))

-- ---- the last digits in a base, written from the last one on

pub length-last : (base k n : ℕ) → length (last_digits base k n) ≡ k
unfolding last_digits
length-last base zero n = refl
length-last base (suc k) n = let h = length-last base k (n / base) in simp length-append (omega arith)

pub last_step : (base k n : ℕ) (s : List ℕ) → 0 < k → k ≤ length s
    → last_digits base (k - 1) (n / base) ++ drop (k - 1) (set s (k - 1) (hex_digit (n % base))) ≡ last_digits base k n ++ drop k s
unfolding last_digits
last_step base zero n s h l = absurd (omega arith)
last_step base (suc k) n s h l =
    let e : suc k - 1 ≡ k = omega arith in
    let f : k < length s = omega arith in
    rw (e, drop-set s k _ f, append_assoc, add-one)

pub hexes-last : (k n : ℕ) → hexes k n ≡ last_digits 16 k n
unfolding hexes last_digits
hexes-last zero n = refl
hexes-last (suc k) n = rw (hexes-last k (n / 16))

-- a byte's two digits
pub hexes-two : (n : ℕ) → hexes 2 n ≡ hex_digit (n / 16 % 16) ∷ hex_digit (n % 16) ∷ []
unfolding hexes
hexes-two n = refl

pub decimals-last : (k n : ℕ) → decimals k n ≡ last_digits 10 k n
unfolding decimals last_digits hex_digit
decimals-last zero n = refl
decimals-last (suc k) n = rw (decimals-last k (n / 10), lt-ltb (n % 10) 10 (omega arith))

-- ---- four decimal digits by their powers of 10

pub decimals-four : (n : ℕ) → decimals 4 n ≡ (48 + n / 1000 % 10) ∷ (48 + n / 100 % 10) ∷ (48 + n / 10 % 10) ∷ (48 + n % 10) ∷ []
unfolding decimals
decimals-four n =
    let h : n / 10 / 10 ≡ n / 100 = omega arith in
    let t : n / 10 / 10 / 10 ≡ n / 1000 = omega arith in
    rw (t, h)

valued : (n : ℕ) → n < 10000 → n ≡ 1000 * (n / 1000 % 10) + 100 * (n / 100 % 10) + 10 * (n / 10 % 10) + n % 10
valued n h =
    let t : n ≡ 10 * (n / 10) + n % 10 = omega arith in
    let u : n / 10 ≡ 10 * (n / 100) + n / 10 % 10 = omega arith in
    let v : n / 100 ≡ 10 * (n / 1000) + n / 100 % 10 = omega arith in
    let w : n / 1000 ≡ n / 1000 % 10 = omega arith in
    summed n (n / 10) (n / 100) (n / 1000) _ _ _ _ t u v w
  where
    summed : (n t h k a b c d : ℕ) → n ≡ 10 * t + a → t ≡ 10 * h + b → h ≡ 10 * k + c → k ≡ d → n ≡ 1000 * d + 100 * c + 10 * b + a
    summed n t h k a b c d p q r s = omega arith

-- FOUR DIGITS stand for one number below 10,000
pub four-one : (p q : ℕ) → p < 10000 → q < 10000 → four_digits p ≡ four_digits q → p ≡ q
unfolding four_digits
four-one p q h k e =
    let d = sym (decimals-four p) ∙ e ∙ decimals-four q in
    let at : (i : ℕ) → get_or ((48 + p / 1000 % 10) ∷ (48 + p / 100 % 10) ∷ (48 + p / 10 % 10) ∷ (48 + p % 10) ∷ []) i 0
    ≡ get_or ((48 + q / 1000 % 10) ∷ (48 + q / 100 % 10) ∷ (48 + q / 10 % 10) ∷ (48 + q % 10) ∷ []) i 0 = λ i. ap (λ (l : List ℕ). get_or l i 0) d in
    valued p h ∙ same (p / 1000 % 10) (p / 100 % 10) (p / 10 % 10) (p % 10) (q / 1000 % 10) (q / 100 % 10) (q / 10 % 10) (q % 10) (at 0) (at 1) (at 2) (at 3)
    ∙ sym (valued q k)
  where
    same : (a b c d a' b' c' d' : ℕ) → 48 + a ≡ 48 + a' → 48 + b ≡ 48 + b' → 48 + c ≡ 48 + c' → 48 + d ≡ 48 + d'
        → 1000 * a + 100 * b + 10 * c + d ≡ 1000 * a' + 100 * b' + 10 * c' + d'
    same a b c d a' b' c' d' p q r s = omega arith

-- ---- a text at the front of a part

module _ (room : ℕ) (t s : List ℕ) where
  pub wrote-short : length s < room → wrote room t s ≡ written 0 s
  unfolding wrote
  wrote-short h = rw (lt-ltb (length s) room h)

  pub wrote-long : room ≤ length s → wrote room t s ≡ written (length t) (t ++ drop (length t) s)
  unfolding wrote
  wrote-long h = rw (le-ltb (length s) room h)
