-- The walk of the check from place to place. Assumes nothing.
use Prim.Native.Nat.{ℕ, zero, suc, ◌+◌, ◌-◌, ◌<◌, ◌≤◌}
use mathlib.Core.Path.{◌≡◌, sym, ◌∙◌, ap}
use mathlib.Core.Bool.{Bool}
use native.Mathlib.Omega.{arith}
use native.Mathlib.Numerals.{sub-one, add-one}
use borrow.Author.Tests.{eq-eqb, ne_eqb}
use Rattle.program.specs.Verdict.{Verdict, Sound, Fault}
use Rattle.program.specs.Check.{fault_from}
use Rattle.program.specs.work.Marks.{letter, checked}

-- ---- the walk up from place to place, whose whole answer is w

module _ (loop turn : ℕ → Bool) (far : ℕ → ℕ) (n : ℕ) where
  from-hit : {w : Verdict} {l : ℕ} (k p : ℕ) → w ≡ fault_from (letter loop turn far n) k p → 0 < k → l ≡ letter loop turn far n p → (l ≡ 0 → ⊥) → Fault l p ≡ w
  from-hit zero p v h e t = absurd (omega arith)
  from-hit (suc k) p v h e t = rw e (sym (v ∙ rw (ne_eqb _ 0 (λ z. t (e ∙ z)))))

  from_on : {w : Verdict} {l : ℕ} (k p : ℕ) → w ≡ fault_from (letter loop turn far n) k p → 0 < k → l ≡ letter loop turn far n p → l ≡ 0 → w ≡ fault_from (letter loop turn far n) (k - 1) (p + 1)
  from_on zero p v h e t = absurd (omega arith)
  from_on (suc k) p v h e t = rw (sub-one, add-one) (v ∙ rw (eq-eqb _ 0 (sym e ∙ t)))

  from_end : {w : Verdict} (k p : ℕ) → w ≡ fault_from (letter loop turn far n) k p → k ≤ 0 → Sound ≡ w
  from_end zero p v h = sym v
  from_end (suc k) p v h = absurd (omega arith)

  pub walk_start : checked loop turn far n ≡ fault_from (letter loop turn far n) (n - 0) 0
  unfolding checked
  walk_start = ap (λ (k : ℕ). fault_from (letter loop turn far n) k 0) (let e : n ≡ n - 0 = omega arith in e)

  pub walk-hit : {w : Verdict} {l : ℕ} (p : ℕ) → w ≡ fault_from (letter loop turn far n) (n - p) p → p < n → l ≡ letter loop turn far n p → (l ≡ 0 → ⊥) → Fault l p ≡ w
  walk-hit p v h e t = from-hit (n - p) p v (omega arith) e t

  pub walk-on : {w : Verdict} {l : ℕ} (p : ℕ) → w ≡ fault_from (letter loop turn far n) (n - p) p → p < n → l ≡ letter loop turn far n p → l ≡ 0 → w ≡ fault_from (letter loop turn far n) (n - (p + 1)) (p + 1)
  walk-on p v h e t =
      let d : n - p - 1 ≡ n - (p + 1) = omega arith in
      from_on (n - p) p v (omega arith) e t ∙ ap (λ (k : ℕ). fault_from (letter loop turn far n) k (p + 1)) d

  pub walk_end : {w : Verdict} (p : ℕ) → w ≡ fault_from (letter loop turn far n) (n - p) p → n ≤ p → Sound ≡ w
  walk_end p v h = from_end (n - p) p v (omega arith)
