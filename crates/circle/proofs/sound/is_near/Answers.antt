-- `circle::sound::is_near` meets its contract. Assumes nothing.
use Prim.Native.Nat.{◌+◌, ◌-◌}
use native.Mathlib.Omega.{arith}
use mathlib.Core.Path.{sym}
use borrow.Author.Tests.{le-leb}
use Rattle.motion.proofs.Work.{product}
use Rattle.circle.specs.Plan.{root}
use Rattle.circle.proofs.laws.Roots.{near-root}
use Rattle.circle.proofs.sound.is_near.Goals as goal

pub returns-then-d-le1 : goal.returns-then-d-le1
returns-then-d-le1 c = let a = c.args in sym (le-leb a.d (root a.n + 1) (omega arith))

pub overflow_mul-result : goal.overflow_mul-result
overflow_mul-result c = let m = c.args.d - 1 in omega (arith, product m m 4294967295 4294967295 (omega arith) (omega arith))

pub returns : goal.returns
returns c = sym (near-root c.args.n c.args.d)
