-- Numbers written as text are read back: one number, numbers with commas, and a record's line. Assumes nothing.
use Prim.Native.Nat.{ℕ, zero, suc, ◌+◌, ◌-◌, ◌*◌, ◌/◌, ◌%◌, ◌<◌, ◌≤◌, ◌^◌}
use mathlib.Core.Path.{◌≡◌, refl, ap, sym, ◌∙◌}
use mathlib.Core.List.{List, [], ◌∷◌, ◌++◌, append-nil}
use mathlib.Core.Bool.{Bool, true, false}
use native.Mathlib.Omega.{arith}
use borrow.Author.Tests.{le-ltb, ne_eqb, ltb-true, ltb-false}
use lib.Dec.{ltb, eqb}
use lib.IntN.{ℤ, pos, negsuc, nat_abs}
use lib.ListN.{length, length-append}
use Rattle.count.specs.Pick.{pick}
use Rattle.count.specs.Text.{decimal, digits, shown}
use Rattle.count.proofs.laws.Digits.{decimal-more, decimal-long}
use Rattle.line.specs.Code.{Code}
use Rattle.line.specs.Code as code
use Rattle.line.specs.Numbers.{Size, size, no_size, digits_behind, digits_of, is, no_number, plus, number_of, past_space, item_of, parted, are, items_of, numbers_of}
use Rattle.line.specs.Lines.{behind, code_of, stored, stored_of}

-- ---- digits that are read as a size

module _ (b x : ℕ) (y : Size) where
  digit-by : (p q : Bool) → ltb b 48 ≡ p → ltb 57 b ≡ q → pick p no_size (pick q no_size y) ≡ size x → (48 ≤ b) × (b ≤ 57) × (y ≡ size x)
  digit-by true q e f h = let z : ◌≡◌ {A = ℕ} 0 1 = cc in absurd (omega arith)
  digit-by false true e f h = let z : ◌≡◌ {A = ℕ} 0 1 = cc in absurd (omega arith)
  digit-by false false e f h = (ltb-false b 48 e, ltb-false 57 b f, h)

-- the first of them is a digit, and the others go on
digit-in : (b v x : ℕ) (s : List ℕ) → digits_behind v (b ∷ s) ≡ size x
    → (48 ≤ b) × (b ≤ 57) × (digits_behind (10 * v + (b - 48)) s ≡ size x)
unfolding digits_behind
digit-in b v x s h = digit-by b x (digits_behind (10 * v + (b - 48)) s) (ltb b 48) (ltb 57 b) refl refl h

-- one digit more
digits-one : (s : List ℕ) (u v d : ℕ) → d < 10 → digits_behind u s ≡ size v → digits_behind u (s ++ (48 + d) ∷ []) ≡ size (10 * v + d)
unfolding digits_behind
digits-one [] u v d h e =
    let q : u ≡ v = cc in
    let r : 48 + d - 48 ≡ d = omega arith in
    rw (le-ltb (48 + d) 48 (omega arith), le-ltb 57 (48 + d) (omega arith), q, r)
digits-one (b ∷ s) u v d h e =
    let i = digit-in b u v s e in
    rw (le-ltb b 48 i.0, le-ltb 57 b i.1) (digits-one s (10 * u + (b - 48)) v d h i.2)

-- ---- a number's own digits

back_by : (t : Bool) (n : ℕ) (l : List ℕ) → ltb n 10 ≡ t → (10 ≤ n → digits_behind 0 l ≡ size (n / 10))
    → digits_behind 0 (pick t ((48 + n) ∷ []) (l ++ (48 + n % 10) ∷ [])) ≡ size n
unfolding digits_behind
back_by true n l e f = digits-one [] 0 0 n (ltb-true n 10 e) refl ∙ ap size (omega arith)
back_by false n l e f = digits-one l 0 (n / 10) (n % 10) (omega arith) (f (ltb-false n 10 e)) ∙ ap size (omega arith)

decimal-back : (k n : ℕ) → n < 10 ^ k → digits_behind 0 (decimal k n) ≡ size n
unfolding digits_behind decimal
decimal-back zero n h = ap size (omega arith)
decimal-back (suc k) n h = back_by (ltb n 10) n (decimal k (n / 10)) refl (λ m. decimal-back k (n / 10) (omega arith))

some-by : (t : Bool) (n : ℕ) (l : List ℕ) → 0 < length (pick t ((48 + n) ∷ []) (l ++ (48 + n % 10) ∷ []))
some-by true n l = omega arith
some-by false n l = simp length-append (omega arith)

module _ (n : ℕ) (h : n < 100000000) where
  eight : digits n ≡ decimal 8 n
  unfolding digits
  eight = sym (decimal-more 7 n h ∙ decimal-more 8 n (omega arith))

  some : 0 < length (decimal 8 n)
  unfolding decimal
  some = some-by (ltb n 10) n (decimal 7 (n / 10))

  behind-back : digits_behind 0 (digits n) ≡ size n
  behind-back = rw eight (decimal-back 8 n h)

  digits-back : digits_of (digits n) ≡ size n
  unfolding digits_of
  digits-back =
      rw eight
      (rw (ne_eqb (length (decimal 8 n)) 0 (λ e. omega (arith, some)), le-ltb 8 (length (decimal 8 n)) (decimal-long 8 n)) (decimal-back 8 n h))

-- ---- a number

-- digits do not begin with a minus
digits-plus : (s : List ℕ) (v : ℕ) → digits_of s ≡ size v → digits_behind 0 s ≡ size v → number_of s ≡ is (pos v)
unfolding digits_of number_of
digits-plus [] v e f = let z : ◌≡◌ {A = ℕ} 0 1 = cc in absurd (omega arith)
digits-plus (b ∷ s) v e f =
    let i = digit-in b 0 v s f in
    rw (ne_eqb b 45 (λ m. omega arith), e)

-- a number of at most eight digits is read back
pub number-back : (z : ℤ) → nat_abs z < 100000000 → number_of (shown z) ≡ is z
unfolding shown number_of
number-back (pos n) h = digits-plus (digits n) n (digits-back n h) (behind-back n h)
number-back (negsuc n) h = rw (digits-back (suc n) h)

-- a number does not begin with a space
no-space : (b : ℕ) (s : List ℕ) (z : ℤ) → number_of (b ∷ s) ≡ is z → b ≡ 32 → ⊥
unfolding number_of digits_of digits_behind
no-space b s z h e =
    let n : number_of (32 ∷ s) ≡ no_number = none (eqb (suc (length s)) 0) (ltb 8 (suc (length s))) in
    let q : number_of (32 ∷ s) ≡ is z = rw e at h in
    let w : ◌≡◌ {A = ℕ} 0 1 = cc in
    omega arith
  where
    none : (a c : Bool) → plus (pick a no_size (pick c no_size no_size)) ≡ no_number
    none true c = refl
    none false true = refl
    none false false = refl

-- so past one space it is as it was
past-number : (f t : List ℕ) (z : ℤ) → number_of f ≡ is z → past_space (f ++ t) ≡ f ++ t
unfolding number_of
past-number [] t z h = let w : ◌≡◌ {A = ℕ} 0 1 = cc in absurd (omega arith)
past-number (b ∷ f) t z h = rw (ne_eqb b 32 (no-space b f z h))

-- ---- numbers with commas

-- the decimal texts of numbers, a comma between each two
unfoldable pub joined : List ℤ → List ℕ
joined [] = []
joined (z ∷ []) = shown z
joined (z ∷ y ∷ l) = shown z ++ 44 ∷ joined (y ∷ l)

-- each number has at most eight digits
abbrev pub Short : List ℤ → Type 0
Short [] = Unit {0}
Short (z ∷ l) = (nat_abs z < 100000000) × Short l

-- digits hold no comma
parted-last : (s : List ℕ) (v x : ℕ) → digits_behind v s ≡ size x → parted s ≡ s ∷ []
unfolding parted
parted-last [] v x h = refl
parted-last (b ∷ s) v x h =
    let i = digit-in b v x s h in
    rw (ne_eqb b 44 (λ m. omega arith), parted-last s (10 * v + (b - 48)) x i.2)

parted-more : (s t : List ℕ) (v x : ℕ) → digits_behind v s ≡ size x → parted (s ++ 44 ∷ t) ≡ s ∷ parted t
unfolding parted
parted-more [] t v x h = refl
parted-more (b ∷ s) t v x h =
    let i = digit-in b v x s h in
    rw (ne_eqb b 44 (λ m. omega arith), parted-more s t (10 * v + (b - 48)) x i.2)

shown-last : (z : ℤ) → nat_abs z < 100000000 → parted (shown z) ≡ shown z ∷ []
unfolding shown parted
shown-last (pos n) h = parted-last (digits n) 0 n (behind-back n h)
shown-last (negsuc n) h = rw (parted-last (digits (suc n)) 0 (suc n) (behind-back (suc n) h))

shown-more : (z : ℤ) (t : List ℕ) → nat_abs z < 100000000 → parted (shown z ++ 44 ∷ t) ≡ shown z ∷ parted t
unfolding shown parted
shown-more (pos n) t h = parted-more (digits n) t 0 n (behind-back n h)
shown-more (negsuc n) t h = rw (parted-more (digits (suc n)) t 0 (suc n) (behind-back (suc n) h))

-- behind a comma
past-shown : (z : ℤ) → nat_abs z < 100000000 → past_space (shown z) ≡ shown z
past-shown z h =
    let e : shown z ++ [] ≡ shown z = append-nil (shown z) in
    ap past_space (sym e) ∙ past-number (shown z) [] z (number-back z h) ∙ e

item_back : (z : ℤ) → nat_abs z < 100000000 → item_of (shown z) ≡ is z
item_back z h = ap number_of (past-shown z h) ∙ number-back z h

items_back : (z : ℤ) (l : List ℤ) → Short (z ∷ l) → items_of (parted (joined (z ∷ l))) ≡ are (z ∷ l)
unfolding items_of joined
items_back z [] h = rw (shown-last z h.0, item_back z h.0)
items_back z (y ∷ l) h = rw (shown-more z (joined (y ∷ l)) h.0, item_back z h.0, items_back y l h.1)

-- one number or more, each of at most eight digits, are read back
pub numbers-back : (z : ℤ) (l : List ℤ) → Short (z ∷ l) → numbers_of (joined (z ∷ l)) ≡ are (z ∷ l)
unfolding numbers_of items_of joined
numbers-back z [] h = rw (shown-last z h.0, number-back z h.0)
numbers-back z (y ∷ l) h = rw (shown-more z (joined (y ∷ l)) h.0, number-back z h.0, items_back y l h.1)

-- ---- behind a letter or a code

-- numbers directly behind a letter or a code
unspaced : (f t : List ℕ) (z : ℤ) → number_of f ≡ is z → behind (f ++ t) ≡ numbers_of (f ++ t)
unfolding behind number_of
unspaced [] t z h = let w : ◌≡◌ {A = ℕ} 0 1 = cc in absurd (omega arith)
unspaced (b ∷ f) t z h = ap numbers_of (past-number (b ∷ f) t z h)

behind-none : behind [] ≡ are []
unfolding behind
behind-none = refl

-- numbers directly behind a letter or a code, and none, are read back
pub joined_back : (l : List ℤ) → Short l → behind (joined l) ≡ are l
unfolding joined
joined_back [] h = behind-none
joined_back (z ∷ []) h =
    rw (sym (append-nil (shown z))) (unspaced (shown z) [] z (number-back z h.0)) ∙ numbers-back z [] h
joined_back (z ∷ y ∷ l) h = unspaced (shown z) (44 ∷ joined (y ∷ l)) z (number-back z h.0) ∙ numbers-back z (y ∷ l) h

-- ---- a record's line

-- the codes of a record
pub record-codes :
    (code_of 48 ≡ code.Record 48) × (code_of 109 ≡ code.Record 109) × (code_of 110 ≡ code.Record 110) × (code_of 122 ≡ code.Record 122)
    × (code_of 51 ≡ code.Record 51) × (code_of 53 ≡ code.Record 53) × (code_of 49 ≡ code.Record 49) × (code_of 50 ≡ code.Record 50)
    × (code_of 101 ≡ code.Record 101) × (code_of 102 ≡ code.Record 102) × (code_of 121 ≡ code.Record 121)
unfolding code_of
record-codes = (refl, refl, refl, refl, refl, refl, refl, refl, refl, refl, refl)

-- a record's line, code and numbers with commas, is that record's code and its numbers
pub stored_back : (c : ℕ) (l : List ℤ) → code_of c ≡ code.Record c → Short l → stored_of (c ∷ joined l) ≡ stored (code.Record c) (are l)
unfolding stored_of
stored_back c l e h = rw (e, joined_back l h)

-- `9` alone
pub stored-end : stored_of (57 ∷ []) ≡ stored code.End (are [])
unfolding stored_of code_of
stored-end = refl

-- a line's code is its first byte
own-by : (t : Bool) (b d : ℕ) (x : Code) → (x ≡ code.Record d → d ≡ b) → pick t (code.Record b) x ≡ code.Record d → d ≡ b
own-by true b d x f h = cc
own-by false b d x f h = f h

end_by : (t : Bool) (b d : ℕ) → pick t code.End code.Wrong ≡ code.Record d → d ≡ b
end_by true b d h = let w : ◌≡◌ {A = ℕ} 0 1 = cc in absurd (omega arith)
end_by false b d h = let w : ◌≡◌ {A = ℕ} 0 1 = cc in absurd (omega arith)

pub code-own : (b d : ℕ) → code_of b ≡ code.Record d → d ≡ b
unfolding code_of
code-own b d h =
    own-by (eqb b 48) b d _ (own-by (eqb b 109) b d _ (own-by (eqb b 110) b d _ (own-by (eqb b 122) b d _
    (own-by (eqb b 51) b d _ (own-by (eqb b 53) b d _ (own-by (eqb b 49) b d _ (own-by (eqb b 50) b d _
    (own-by (eqb b 101) b d _ (own-by (eqb b 102) b d _ (own-by (eqb b 121) b d _ (end_by (eqb b 57) b d))))))))))) h
