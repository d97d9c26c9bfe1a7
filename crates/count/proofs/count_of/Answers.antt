-- `count::count_of` meets its contract. Assumes nothing.
use mathlib.Core.Path.{sym}
use native.Mathlib.Omega.{arith}
use Rattle.count.proofs.laws.Laws.{placed-low, placed-high, placed-outside}
use Rattle.count.proofs.count_of.Goals as goal

pub returns-then-w-lt-HALF : goal.returns-then-w-lt-HALF
returns-then-w-lt-HALF c = sym (placed-low _ c.if-w-lt-HALF.true)

pub returns-then-w-ge4286578688 : goal.returns-then-w-ge4286578688
returns-then-w-ge4286578688 c = sym (placed-high c.args.w c.if-w-ge4286578688.true (omega arith))

pub returns : goal.returns
returns c = sym (placed-outside _ c.if-w-lt-HALF.false c.if-w-ge4286578688.false)
