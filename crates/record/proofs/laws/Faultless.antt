-- What a right record's code and numbers are, test by test and code by code. Assumes nothing.
use Prim.Native.Nat.{ℕ, ◌<◌}
use mathlib.Core.Path.{◌≡◌, refl, sym, ap, subst, ◌∙◌}
use mathlib.Core.List.{List}
use mathlib.Core.Bool.{Bool, true, false, not, ◌||◌}
use mathlib.Core.Logic.{◌⊎◌, inl, inr}
use native.Mathlib.Omega.{arith}
use borrow.Author.Tests.{eqb-true, leb-true}
use lib.Dec.{eqb}
use lib.IntN.{ℤ, pos, negsuc}
use lib.Signed.{mag, le_z}
use Rattle.count.specs.Pick.{pick}
use Rattle.count.specs.Numbers.{within}
use Rattle.count.proofs.laws.Truth.{never, and_parts}
use Rattle.record.specs.declared.Record.{Record}
use Rattle.record.specs.Fault.{Asks, asks, unknown, is_code, count_right, axes_right, ranges_right, speeds_right, numbers_reply, fault_of}
use Rattle.record.specs.Bytes.{is_right}

-- ---- test by test

pub record Faultless (axes code n : ℕ) (l : List ℕ) : Type 0 where
  pub code-so : is_code code ≡ true
  pub count-so : count_right axes code n ≡ true
  pub axes-so : axes_right axes code l ≡ true
  pub ranges-so : ranges_right axes code l ≡ true
  pub speeds-so : speeds_right axes code l ≡ true

module _ (axes code n : ℕ) (l : List ℕ) where
  parts-by : (a b c d e : Bool) → is_code code ≡ a → count_right axes code n ≡ b → axes_right axes code l ≡ c → ranges_right axes code l ≡ d → speeds_right axes code l ≡ e
      → ◌≡◌ {A = ℕ} (pick (not a) 53 (numbers_reply b c d e 48)) 48 → Faultless axes code n l
  parts-by true true true true true p q r s t h = record { code-so = p; count-so = q; axes-so = r; ranges-so = s; speeds-so = t }
  parts-by true true true true false p q r s t h = absurd (omega arith)
  parts-by true true true false true p q r s t h = absurd (omega arith)
  parts-by true true true false false p q r s t h = absurd (omega arith)
  parts-by true true false d e p q r s t h = absurd (omega arith)
  parts-by true false c d e p q r s t h = absurd (omega arith)
  parts-by false b c d e p q r s t h = absurd (omega arith)

  pub fault-none : fault_of axes code n l ≡ 48 → Faultless axes code n l
  unfolding fault_of
  fault-none h = parts-by _ _ _ _ _ refl refl refl refl refl h

pub right-faultless : (axes : ℕ) (r : Record) → is_right axes r ≡ true → Faultless axes r.code r.count r.words
right-faultless axes r e = fault-none axes r.code r.count r.words (eqb-true (fault_of axes r.code r.count r.words) 48 e)

-- ---- a fact of every byte: of each code, and of a byte that is none

-- the tests, none of which holds
pub record NoCode (c : ℕ) : Type 0 where
  pub not-0 : eqb c 48 ≡ false
  pub not-m : eqb c 109 ≡ false
  pub not-n : eqb c 110 ≡ false
  pub not-z : eqb c 122 ≡ false
  pub not-3 : eqb c 51 ≡ false
  pub not-5 : eqb c 53 ≡ false
  pub not-1 : eqb c 49 ≡ false
  pub not-2 : eqb c 50 ≡ false
  pub not-e : eqb c 101 ≡ false
  pub not_f : eqb c 102 ≡ false
  pub not-y : eqb c 121 ≡ false

-- a byte that is no code has no row
pub row-none : (c : ℕ) → NoCode c → asks c ≡ unknown
row-none c n = rw (n.not-0, n.not-m, n.not-n, n.not-z, n.not-3, n.not-5, n.not-1, n.not-2, n.not-e, n.not_f, n.not-y)

module _ (P : ℕ → Type 0) (c : ℕ) where
  pub one_byte : (k : ℕ) → P k → (eqb c k ≡ false → P c) → P c
  one_byte k p f = by (eqb c k) refl
    where
      by : (t : Bool) → eqb c k ≡ t → P c
      by true e = subst P (sym (eqb-true c k e)) p
      by false e = f e

  pub by_byte : P 48 → P 109 → P 110 → P 122 → P 51 → P 53 → P 49 → P 50 → P 101 → P 102 → P 121 → (NoCode c → P c) → P c
  by_byte p48 p109 p110 p122 p51 p53 p49 p50 p101 p102 p121 f =
      one_byte 48 p48 (λ a. one_byte 109 p109 (λ b. one_byte 110 p110 (λ d. one_byte 122 p122 (λ e. one_byte 51 p51 (λ g. one_byte 53 p53 (λ h.
      one_byte 49 p49 (λ i. one_byte 50 p50 (λ j. one_byte 101 p101 (λ k. one_byte 102 p102 (λ l. one_byte 121 p121 (λ m.
      f (record { not-0 = a; not-m = b; not-n = d; not-z = e; not-3 = g; not-5 = h; not-1 = i; not-2 = j; not-e = k; not_f = l; not-y = m }))))))))))))

  pub by_code-each : is_code c ≡ true → P 48 → P 109 → P 110 → P 122 → P 51 → P 53 → P 49 → P 50 → P 101 → P 102 → P 121 → P c
  unfolding is_code
  by_code-each e p48 p109 p110 p122 p51 p53 p49 p50 p101 p102 p121 =
      by_byte p48 p109 p110 p122 p51 p53 p49 p50 p101 p102 p121
      (λ n. never (sym (ap (λ (a : Asks). a.known) (row-none c n)) ∙ e))

-- ---- one of two tests, and a number within a range

pub either : (a b : Bool) → a || b ≡ true → (a ≡ true) ⊎ (b ≡ true)
either true b e = inl refl
either false b e = inr e

pub within-mag : (lo hi z : ℤ) (n : ℕ) → mag lo < n → mag hi < n → within lo hi z ≡ true → mag z < n
unfolding within
within-mag lo (pos h) (pos k) n l m e =
    let p = and_parts (le_z lo (pos k)) (le_z (pos k) (pos h)) e in
    omega (arith, leb-true k h p.1)
within-mag lo (negsuc h) (pos k) n l m e =
    let p = and_parts (le_z lo (pos k)) false e in
    absurd (let z : ◌≡◌ {A = ℕ} 0 1 = cc in omega arith)
within-mag (pos g) hi (negsuc k) n l m e =
    let p = and_parts false (le_z (negsuc k) hi) e in
    absurd (let z : ◌≡◌ {A = ℕ} 0 1 = cc in omega arith)
within-mag (negsuc g) hi (negsuc k) n l m e =
    let p = and_parts (le_z (negsuc g) (negsuc k)) (le_z (negsuc k) hi) e in
    omega (arith, leb-true k g p.0)
