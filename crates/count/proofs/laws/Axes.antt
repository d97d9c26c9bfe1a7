-- The laws over all axes: what all of them pass each of them passes, what holds of all holds of each, and no axis has more than the greatest.
-- Assumes nothing.
use mathlib.Core.Path.{◌≡◌}
use mathlib.Core.Bool.{Bool, true, ◌&&◌}
use Prim.Native.Nat.{ℕ, ◌≤◌, ◌<◌}
use native.Mathlib.Omega.{arith}
use Rattle.count.specs.declared.Axis.{Axis}
use Rattle.count.specs.declared.Axis.TheVariants.{X, Y, Z, A}
use Rattle.count.specs.Axes.{on_all, Each, greatest}
use Rattle.count.proofs.laws.Truth.{and_left, and_right, both}

-- a test of all axes
module _ (test : Axis → Bool) where
  pub all-each : on_all test ≡ true → (i : Axis) → test i ≡ true
  all-each e X = and_left (test X) (test Y) (and_left (test X && test Y) (test Z) (and_left (test X && test Y && test Z) (test A) e))
  all-each e Y = and_right (test X) (test Y) (and_left (test X && test Y) (test Z) (and_left (test X && test Y && test Z) (test A) e))
  all-each e Z = and_right (test X && test Y) (test Z) (and_left (test X && test Y && test Z) (test A) e)
  all-each e A = and_right (test X && test Y && test Z) (test A) e

  pub each_all : ((i : Axis) → test i ≡ true) → on_all test ≡ true
  each_all f = both (both (both (f X) (f Y)) (f Z)) (f A)

-- what holds of all
module _ (P : Axis → Type 0) where
  pub each_at : Each P → (i : Axis) → P i
  each_at p X = p.0
  each_at p Y = p.1
  each_at p Z = p.2
  each_at p A = p.3

  pub each_of : ((i : Axis) → P i) → Each P
  each_of f = (f X, f Y, f Z, f A)

-- the greatest
module _ (f : Axis → ℕ) where
  pub greatest-most : (i : Axis) → f i ≤ greatest f
  greatest-most X = omega arith
  greatest-most Y = omega arith
  greatest-most Z = omega arith
  greatest-most A = omega arith

  pub greatest-below : {n : ℕ} → ((i : Axis) → f i < n) → greatest f < n
  greatest-below l = omega (arith, l X, l Y, l Z, l A)
