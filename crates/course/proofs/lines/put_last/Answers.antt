-- `course::lines::put_last` meets its contract. Assumes nothing.
use mathlib.Core.Path.{refl}
use native.Mathlib.Omega.{arith}
use Rattle.course.proofs.lines.put_last.Goals as goal

pub returns-then-turns : goal.returns-then-turns
returns-then-turns c = rw c.if-turns.true c.put_field.ensures

pub returns : goal.returns
returns c = rw c.if-turns.false (record { long = refl; text = refl }, omega arith)
