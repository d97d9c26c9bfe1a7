-- `course::put_field` meets its contract: the position behind the space. Assumes nothing.
use native.Mathlib.Omega.{arith}
use Rattle.count.specs.Numbers.{value}
use Rattle.count.proofs.laws.Digits.{shown-most}
use Rattle.course.proofs.Behind.{byte-before}
use Rattle.course.proofs.lines.put_field.Goals as goal

pub overflow_add-result : goal.overflow_add-result
overflow_add-result c = let w = byte-before c.args.out.now 32 c.requires c.put_count-k.ensures in omega (arith, w.long, shown-most (value c.args.c))

pub returns : goal.returns
returns c = let w = byte-before c.args.out.now 32 c.requires c.put_count-k.ensures in (w, omega (arith, w.long, shown-most (value c.args.c)))
