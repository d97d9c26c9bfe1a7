-- A count's number is one of 32 bits. Assumes nothing.
use mathlib.Core.Bool.{Bool, true, false, cond}
use Prim.Native.Nat.{ℕ, ◌<◌}
use native.Mathlib.Omega.{arith}
use lib.Dec.{ltb}
use lib.IntN.{ℤ}
use lib.Signed.{mag}
use mir.Syntax.{w32}
use mir.Val.{SFits}
use Rattle.count.specs.Numbers.{half, full, value}

small : (t : Bool) (x y : ℤ) (H : ℕ) → mag x < H → mag y < H → mag (cond t x y) < H
small true x y H p q = p
small false x y H p q = q

pub value-fits : (c : ℕ) → c < full → SFits w32 (value c)
value-fits c h = record { sfits = small (ltb c half) _ _ _ (omega arith) (omega arith) }
