-- Past one space: the text there, and the byte where the code goes on. Assumes nothing.
use Prim.Native.Nat.{ℕ, zero, suc, ◌+◌, ◌≤◌}
use mathlib.Core.Path.{◌≡◌, refl}
use mathlib.Core.List.{List, [], ◌∷◌}
use mathlib.Core.Bool.{Bool, true, false}
use native.Mathlib.Numerals.{add-one}
use native.Mathlib.Omega.{arith}
use lib.Dec.{eqb}
use lib.ListN.{length, drop, length-drop}
use Rattle.count.specs.Pick.{pick}
use Rattle.line.specs.Numbers.{past_space}
use Rattle.line.specs.work.Reading.{spaced}

pub tail : (i : ℕ) (s : List ℕ) {b : ℕ} {t : List ℕ} → b ∷ t ≡ drop i s → t ≡ drop (suc i) s
tail zero [] e = let z : ◌≡◌ {A = ℕ} 0 1 = cc in absurd (omega arith)
tail (suc i) [] e = let z : ◌≡◌ {A = ℕ} 0 1 = cc in absurd (omega arith)
tail zero (x ∷ s) e = cc
tail (suc i) (x ∷ s) e = tail i s e

module _ (s : List ℕ) (at : ℕ) where
  past_by : (c : Bool) (b : ℕ) (t : List ℕ) → b ∷ t ≡ drop at s → pick c t (b ∷ t) ≡ drop (pick c (at + 1) at) s
  past_by true b t e = rw add-one (tail at s e)
  past_by false b t e = e

  past : (t : List ℕ) → t ≡ drop at s → past_space t ≡ drop (spaced at t) s
  unfolding spaced
  past [] e = e
  past (b ∷ t) e = past_by (eqb b 32) b t e

  pub past-spaced : past_space (drop at s) ≡ drop (spaced at (drop at s)) s
  past-spaced = past (drop at s) refl

  on-by : (c : Bool) (l : ℕ) → at + suc l ≤ length s → (at ≤ pick c (at + 1) at) × (pick c (at + 1) at ≤ length s)
  on-by true l h = omega arith
  on-by false l h = omega arith

  on : (t : List ℕ) → at + length t ≤ length s → (at ≤ spaced at t) × (spaced at t ≤ length s)
  unfolding spaced
  on [] h = omega arith
  on (b ∷ t) h = on-by (eqb b 32) (length t) h

  -- not before, and not behind the end
  pub spaced-on : at ≤ length s → (at ≤ spaced at (drop at s)) × (spaced at (drop at s) ≤ length s)
  spaced-on h = on (drop at s) (rw length-drop (omega arith))
