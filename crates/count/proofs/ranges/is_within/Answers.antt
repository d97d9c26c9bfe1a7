-- `count::is_within` meets its contract: a word as a signed number is the word's number. Assumes nothing.
use mathlib.Core.Path.{◌≡◌, refl, ap}
use mathlib.Core.Bool.{Bool, true, false}
use Prim.Native.Nat.{ℕ}
use native.Mathlib.Omega.{arith}
use lib.Dec.{ltb}
use lib.IntN.{negsuc}
use mir.Syntax.{w32}
use mir.Val.{to_z}
use Rattle.std.proofs.lemmas.Int.{to_z-of_z}
use Rattle.count.specs.Numbers.{within, signed}
use Rattle.count.proofs.ranges.is_within.Goals as goal

signed-is : (w : ℕ) → to_z w32 w ≡ signed w
unfolding signed
signed-is w = by (ltb w 2147483648) refl
  where
    by : (t : Bool) → ltb w 2147483648 ≡ t → to_z w32 w ≡ signed w
    by true e = rw e refl
    by false e = rw e (ap negsuc (omega arith))

pub returns : goal.returns
unfolding within
returns c =
    let n = c.cast_signed-number in
    rw (to_z-of_z w32 c.args.low c.ranges.low, to_z-of_z w32 c.args.high c.ranges.high, to_z-of_z w32 n.result record { sfits = n.type_inv }, n.ensures, signed-is c.args.w)
