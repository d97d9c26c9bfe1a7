-- What the check's answer means: nothing at any place, or the fault of the smallest place that has one, and of this place's faults the
-- earlier letter. Assumes nothing.
use Prim.Native.Nat.{ℕ, zero, suc, ◌+◌, ◌≤◌, ◌<◌}
use mathlib.Core.Bool.{Bool, true, false}
use mathlib.Core.Path.{◌≡◌, refl, sym, subst}
use native.Mathlib.Omega.{arith}
use borrow.Author.Tests.{eqb-true, eqb-false}
use lib.Dec.{eqb, ltb}
use lib.IntN.{ℤ}
use Rattle.program.specs.Verdict.{Verdict, Sound, Fault, Unreadable}
use Rattle.count.specs.Pick.{pick}
use Rattle.program.specs.Check.{outside, early, overlaps, holders, strays, letter, fault_from, checked}

-- ---- of any faults of places, a letter or 0

-- what is told of k places from p on: none has a fault; or which one is the first that has
abbrev pub Told : (ℕ → ℕ) → ℕ → ℕ → Verdict → Type 0
Told f k p Sound = (i : ℕ) → p ≤ i → i < p + k → f i ≡ 0
Told f k p Unreadable = ⊥
Told f k p (Fault a q) = (p ≤ q) × (q < p + k) × (f q ≡ a) × (a ≡ 0 → ⊥) × ((i : ℕ) → p ≤ i → i < q → f i ≡ 0)

-- a place without a fault in front
one_more : (f : ℕ → ℕ) (p q : ℕ) → f p ≡ 0 → ((i : ℕ) → suc p ≤ i → i < q → f i ≡ 0) → (i : ℕ) → p ≤ i → i < q → f i ≡ 0
one_more f p q e s i g u = go (eqb i p) refl
  where
    beyond : {p i : ℕ} → (i ≡ p → ⊥) → p ≤ i → suc p ≤ i
    beyond d h = omega arith

    go : (b : Bool) → eqb i p ≡ b → f i ≡ 0
    go true b = subst (λ (j : ℕ). f j ≡ 0) (sym (eqb-true _ _ b)) e
    go false b = s i (beyond (eqb-false _ _ b) g) u

told-up : (f : ℕ → ℕ) (k p : ℕ) (v : Verdict) → f p ≡ 0 → Told f k (suc p) v → Told f (suc k) p v
told-up f k p Sound e t = one_more f p (p + suc k) e (λ i g u. t i g (omega arith))
told-up f k p Unreadable e t = t
told-up f k p (Fault a q) e (g, h, l, z, s) = (omega arith, omega arith, l, z, one_more f p q e s)

told-go : (f : ℕ → ℕ) (b : Bool) (k p : ℕ) → eqb (f p) 0 ≡ b → Told f k (suc p) (fault_from f k (suc p))
    → Told f (suc k) p (pick b (fault_from f k (suc p)) (Fault (f p) p))
told-go f true k p e t = told-up f k p (fault_from f k (suc p)) (eqb-true _ _ e) t
told-go f false k p e t = (omega arith, omega arith, refl, eqb-false _ _ e, (λ i g u. absurd (omega arith)))

pub told : (f : ℕ → ℕ) (k p : ℕ) → Told f k p (fault_from f k p)
told f zero p = λ i g h. absurd (omega arith)
told f (suc k) p = told-go f (eqb (f p) 0) k p refl (told f k (suc p))

-- no fault among k places from p on
pub none : (f : ℕ → ℕ) (k p : ℕ) → ((i : ℕ) → p ≤ i → i < p + k → f i ≡ 0) → fault_from f k p ≡ Sound
none f zero p h = refl
none f (suc k) p h = rw (h p (omega arith) (omega arith)) (none f k (suc p) (λ i g u. h i (omega arith) (omega arith)))

-- ---- of the check

module _ (loop turn : ℕ → Bool) (target : ℕ → ℤ) (n : ℕ) where
  -- SOUND if no place has a fault (and only then: `told`)
  pub sound-if : ((i : ℕ) → i < n → letter loop turn target n i ≡ 0) → checked loop turn target n ≡ Sound
  unfolding checked
  sound-if h = none (letter loop turn target n) n 0 (λ i g f. h i (omega arith))

  -- what a fault found says
  pub record First (a p : ℕ) : Type 0 where
    pub in_field : p < n
    pub its-letter : letter loop turn target n p ≡ a
    pub a-fault : a ≡ 0 → ⊥
    pub smallest : (i : ℕ) → i < p → letter loop turn target n i ≡ 0

  -- A FAULT is that of the smallest place
  pub first : (a p : ℕ) → checked loop turn target n ≡ Fault a p → First a p
  unfolding checked
  first a p e =
      let t = subst (Told (letter loop turn target n) n 0) e (told (letter loop turn target n) n 0) in
      record { in_field = omega (arith, t.1); its-letter = t.2; a-fault = t.3; smallest = (λ i h. t.4 i (omega arith) h) }

  -- ---- the earlier letter

  -- what each letter says of a place: its own condition holds, and none of those before it
  pub record Says (p a : ℕ) : Type 0 where
    pub says-a : a ≡ 97 → outside turn target n p ≡ true
    pub says-b : a ≡ 98 → (outside turn target n p ≡ false) × (early loop target p ≡ true)
    pub says-c : a ≡ 99 → (outside turn target n p ≡ false) × (early loop target p ≡ false) × (overlaps loop target p ≡ true)
    pub says-d : a ≡ 100 → (outside turn target n p ≡ false) × (early loop target p ≡ false) × (overlaps loop target p ≡ false) × (ltb 7 (holders loop target n p) ≡ true)
    pub says-e : a ≡ 101
        → (outside turn target n p ≡ false) × (early loop target p ≡ false) × (overlaps loop target p ≡ false) × (ltb 7 (holders loop target n p) ≡ false) × (strays loop turn target n p ≡ true)

  says-by : (p : ℕ) (a b c d e : Bool) → outside turn target n p ≡ a → early loop target p ≡ b → overlaps loop target p ≡ c → ltb 7 (holders loop target n p) ≡ d → strays loop turn target n p ≡ e
      → Says p (pick a 97 (pick b 98 (pick c 99 (pick d 100 (pick e 101 0)))))
  says-by p true b c d e q r s t u =
      record { says-a = λ z. q; says-b = λ z. absurd (omega arith); says-c = λ z. absurd (omega arith); says-d = λ z. absurd (omega arith); says-e = λ z. absurd (omega arith) }
  says-by p false true c d e q r s t u =
      record { says-a = λ z. absurd (omega arith); says-b = λ z. (q, r); says-c = λ z. absurd (omega arith); says-d = λ z. absurd (omega arith); says-e = λ z. absurd (omega arith) }
  says-by p false false true d e q r s t u =
      record { says-a = λ z. absurd (omega arith); says-b = λ z. absurd (omega arith); says-c = λ z. (q, r, s); says-d = λ z. absurd (omega arith); says-e = λ z. absurd (omega arith) }
  says-by p false false false true e q r s t u =
      record { says-a = λ z. absurd (omega arith); says-b = λ z. absurd (omega arith); says-c = λ z. absurd (omega arith); says-d = λ z. (q, r, s, t); says-e = λ z. absurd (omega arith) }
  says-by p false false false false true q r s t u =
      record { says-a = λ z. absurd (omega arith); says-b = λ z. absurd (omega arith); says-c = λ z. absurd (omega arith); says-d = λ z. absurd (omega arith); says-e = λ z. (q, r, s, t, u) }
  says-by p false false false false false q r s t u =
      record { says-a = λ z. absurd (omega arith); says-b = λ z. absurd (omega arith); says-c = λ z. absurd (omega arith); says-d = λ z. absurd (omega arith); says-e = λ z. absurd (omega arith) }

  -- THE EARLIER LETTER
  pub earlier : (p : ℕ) → Says p (letter loop turn target n p)
  unfolding letter
  earlier p = says-by p (outside turn target n p) (early loop target p) (overlaps loop target p) (ltb 7 (holders loop target n p)) (strays loop turn target n p) refl refl refl refl refl
