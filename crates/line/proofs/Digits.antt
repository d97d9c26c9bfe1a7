-- Bounds of a number of at most eight digits. Assumes nothing.
use Prim.Native.Nat.{ℕ, ◌+◌, ◌*◌, ◌<◌, ◌≤◌, ◌^◌}
use native.Mathlib.Nat.{pow-le-pow_right}
use native.Mathlib.Numerals.{add-one}
use native.Mathlib.Omega.{arith}
use lib.Dec.{lit<}

-- eight digits
pub eight : (v d : ℕ) → v < 10 ^ d → d ≤ 8 → v < 100000000
eight v d h k =
    let p : 10 ^ d ≤ 10 ^ 8 = pow-le-pow_right (lit< tt) k in
    omega arith

-- one digit more
pub digit-more : (v d x : ℕ) → v < 10 ^ d → x < 10 → 10 * v + x < 10 ^ (d + 1)
digit-more v d x h l = rw add-one (omega arith)
