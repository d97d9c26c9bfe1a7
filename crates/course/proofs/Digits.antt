-- The digits of a speed by its powers of ten. Assumes nothing.
use Prim.Native.Nat.{ℕ, ◌+◌, ◌/◌, ◌%◌, ◌<◌, ◌≤◌}
use mathlib.Core.Path.{◌≡◌, ap, ◌∙◌}
use mathlib.Core.List.{[], ◌∷◌}
use native.Mathlib.Omega.{arith}
use Rattle.count.specs.Text.{digits}
use Rattle.count.proofs.laws.Digits.{digits-small, digits-large}

abbrev d : ℕ → ℕ
d n = 48 + n % 10

pub digits1 : (v : ℕ) → v < 10 → digits v ≡ d v ∷ []
digits1 v h =
    let e : 48 + v ≡ d v = omega arith in
    digits-small v h ∙ ap (λ (x : ℕ). x ∷ []) e

module _ (v : ℕ) (l : v ≤ 65535) where
  pub digits2 : 10 ≤ v → v < 100 → digits v ≡ d (v / 10) ∷ d v ∷ []
  digits2 g h = digits-large v g (omega arith) ∙ rw (digits1 (v / 10) (omega arith))

pub digits3 : (v : ℕ) → v ≤ 65535 → 100 ≤ v → v < 1000 → digits v ≡ d (v / 100) ∷ d (v / 10) ∷ d v ∷ []
digits3 v l g h =
    let e : v / 10 / 10 ≡ v / 100 = omega arith in
    digits-large v (omega arith) (omega arith) ∙ rw (digits2 (v / 10) (omega arith) (omega arith) (omega arith), e)

pub digits4 : (v : ℕ) → v ≤ 65535 → 1000 ≤ v → v < 10000 → digits v ≡ d (v / 1000) ∷ d (v / 100) ∷ d (v / 10) ∷ d v ∷ []
digits4 v l g h =
    let e : v / 10 / 10 ≡ v / 100 = omega arith in
    let f : v / 10 / 100 ≡ v / 1000 = omega arith in
    digits-large v (omega arith) (omega arith) ∙ rw (digits3 (v / 10) (omega arith) (omega arith) (omega arith), e, f)

pub digits5 : (v : ℕ) → v ≤ 65535 → 10000 ≤ v → digits v ≡ d (v / 10000) ∷ d (v / 1000) ∷ d (v / 100) ∷ d (v / 10) ∷ d v ∷ []
digits5 v l g =
    let e : v / 10 / 10 ≡ v / 100 = omega arith in
    let f : v / 10 / 100 ≡ v / 1000 = omega arith in
    let k : v / 10 / 1000 ≡ v / 10000 = omega arith in
    digits-large v (omega arith) (omega arith) ∙ rw (digits4 (v / 10) (omega arith) (omega arith) (omega arith), e, f, k)
