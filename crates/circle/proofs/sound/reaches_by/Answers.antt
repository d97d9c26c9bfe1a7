-- `circle::sound::reaches_by` meets its contract. Assumes nothing.
use native.Mathlib.Omega.{arith}
use mathlib.Core.Path.{sym}
use Rattle.motion.proofs.Work.{product}
use Rattle.circle.proofs.laws.Roots.{reaches-root}
use Rattle.circle.proofs.sound.reaches_by.Goals as goal

pub overflow_mul-result : goal.overflow_mul-result
overflow_mul-result c = let m = c.args.c in omega (arith, product m m 4294967295 4294967295 (omega arith) (omega arith))

pub overflow_mul-result-2 : goal.overflow_mul-result-2
overflow_mul-result-2 c = let m = c.saturating_sub-above.result in omega (arith, product m m 16777215 16777215 (omega (arith, c.saturating_sub-above.ensures)) (omega (arith, c.saturating_sub-above.ensures)))

pub returns : goal.returns
returns c = rw c.saturating_sub-above.ensures (sym (reaches-root c.args.n c.args.c))
