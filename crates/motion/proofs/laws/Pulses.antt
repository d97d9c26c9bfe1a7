-- The laws of the number of pulses of a phase. Assumes nothing.
use mathlib.Core.Path.{◌≡◌, refl}
use mathlib.Core.Bool.{Bool, true, false}
use Prim.Native.Nat.{ℕ, ◌≤◌, ◌<◌}
use native.Mathlib.Omega.{arith}
use lib.Dec.{ltb}
use borrow.Author.Tests.{le-ltb, ltb-false}
use Rattle.count.specs.Pick.{pick}
use Rattle.count.specs.Numbers.{far, full}
use Rattle.count.specs.declared.Axis.{Axis}
use Rattle.count.proofs.laws.Axes.{greatest-most, greatest-below}
use Rattle.motion.specs.declared.Counters.{Counters}
use Rattle.motion.specs.Axes.{on}
use Rattle.motion.specs.Phase.{most, pulses}

small_by : (b : Bool) (n : ℕ) → ltb 16777215 n ≡ b → pick b 0 n < full
small_by true n e = omega arith
small_by false n e = omega (arith, ltb-false 16777215 n e)

-- below 2^24, whatever the resting points
pub pulses-small : (f t : Counters) → pulses f t < full
unfolding pulses
pulses-small f t = small_by (ltb 16777215 (most f t)) (most f t) refl

most-by : (b : Bool) (n k d : ℕ) → d ≤ n → k < pick b 0 n → d ≤ pick b 0 n
most-by true n k d l h = absurd (omega arith)
most-by false n k d l h = l

-- no axis has further to go than a phase has pulses, if it has any
pub most-on : (f t : Counters) (k : ℕ) → k < pulses f t → (i : Axis) → far (on i f) (on i t) ≤ pulses f t
unfolding pulses
most-on f t k h i =
    most-by (ltb 16777215 (most f t)) (most f t) k (far (on i f) (on i t)) (greatest-most (λ (j : Axis). far (on j f) (on j t)) i) h

-- between points of 24 bits the number of pulses is the greatest distance
pub record In24 (c : Counters) : Type 0 where
  pub each : (i : Axis) → on i c < full

module _ (f t : Counters) (a : In24 f) (b : In24 t) where
  far-small : (i o : ℕ) → i < full → o < full → far i o < full
  far-small i o p q = omega arith

  pub pulses-most : pulses f t ≡ most f t
  unfolding pulses
  pulses-most =
      let l : most f t < full = greatest-below (λ (j : Axis). far (on j f) (on j t)) (λ j. far-small _ _ (a.each j) (b.each j)) in
      rw (le-ltb 16777215 (most f t) (omega arith))

  pub within_on : (i : Axis) → far (on i f) (on i t) ≤ pulses f t
  within_on i = rw pulses-most (greatest-most (λ (j : Axis). far (on j f) (on j t)) i)
