-- The number of a count fits the machine's 32 bits. Assumes nothing.
use Prim.Native.Nat.{ℕ}
use mathlib.Core.Path.{◌≡◌, refl}
use mathlib.Core.Bool.{Bool, true, false}
use native.Mathlib.Omega.{arith}
use borrow.Author.Tests.{ltb-true}
use lib.Dec.{ltb}
use lib.IntN.{pos}
use mir.Syntax.{w32}
use mir.Val.{SFits}
use Rattle.count.specs.Pick.{pick}
use Rattle.count.specs.Numbers.{full, value}
use Rattle.count.proofs.Signed.{value-fits}
use Rattle.board.specs.Calls.{number_of}

fits_by : (c : ℕ) (t : Bool) → ltb c full ≡ t → SFits w32 (pick t (value c) (pos 0))
fits_by c true e = value-fits c (ltb-true c full e)
fits_by c false e = value-fits 8388608 (omega arith)

pub number_fits : (c : ℕ) → SFits w32 (number_of c)
number_fits c = fits_by c (ltb c full) refl
