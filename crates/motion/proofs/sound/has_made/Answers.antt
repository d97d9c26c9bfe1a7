-- `motion::sound::has_made` meets its contract. Assumes nothing.
use native.Mathlib.Omega.{arith}
use Rattle.motion.proofs.Standing.{made-test}
use Rattle.motion.proofs.Work.{product}
use Rattle.motion.proofs.sound.has_made.Goals as goal

pub overflow_mul-sum-2 : goal.overflow_mul-sum-2
overflow_mul-sum-2 c = omega (arith, product c.args.k c.args.d 16777216 16777216 (omega arith) (omega arith))

pub overflow_add-sum : goal.overflow_add-sum
overflow_add-sum c = omega (arith, product c.args.k c.args.d 16777216 16777216 (omega arith) (omega arith))

pub overflow_mul-low-2 : goal.overflow_mul-low-2
overflow_mul-low-2 c = omega (arith, product c.args.n c.args.s 16777216 4294967296 (omega arith) (omega arith))

pub overflow_add-result : goal.overflow_add-result
overflow_add-result c = omega (arith, product c.args.n c.args.s 16777216 4294967296 (omega arith) (omega arith))

pub returns : goal.returns
returns c = made-test c.args.s c.args.k c.args.d c.args.n c.requires.0
