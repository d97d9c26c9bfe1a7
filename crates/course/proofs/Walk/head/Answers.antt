-- `course::Walk::head` meets its contract. Assumes nothing.
use mathlib.Core.Path.{sym}
use Rattle.count.proofs.laws.Digits.{wrote-short}
use Rattle.course.specs.Text.{head_text}
use Rattle.course.specs.Walk.{head_done}
use Rattle.course.proofs.Portions.{written_of}
use Rattle.course.proofs.Walk.head.Goals as goal

pub returns-then-out-lt64 : goal.returns-then-out-lt64
unfolding head_done
returns-then-out-lt64 c = sym (wrote-short 64 head_text _ c.if-out-lt64.true)

pub returns : goal.returns
unfolding head_done
returns c = written_of c.if-out-lt64.false c.put_head.ensures
