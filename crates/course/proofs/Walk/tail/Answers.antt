-- `course::Walk::tail` meets its contract. Assumes nothing.
use mathlib.Core.Path.{sym}
use Rattle.count.proofs.laws.Digits.{wrote-short}
use Rattle.course.specs.Walk.{tail_done}
use Rattle.course.proofs.Behind.{wrote_then}
use Rattle.course.proofs.Portions.{tail-over, tail-on}
use Rattle.course.proofs.Walk.tail.Goals as goal

pub returns-then-out-lt64 : goal.returns-then-out-lt64
unfolding tail_done
returns-then-out-lt64 c = sym (wrote-short 64 _ _ c.if-out-lt64.true)

pub returns-then-self : goal.returns-then-self
returns-then-self c = tail-over c.args.self c.args.out.now c.if-out-lt64.false c.if-self.true (rw c.is_turning-turns.ensures at c.put_end.ensures.0)

pub returns : goal.returns
returns c = tail-on c.args.self c.args.out.now c.if-out-lt64.false c.if-self.false (wrote_then c.put_limit-n.ensures.0 (rw c.is_turning-turns.ensures at c.put_end-k.ensures.0))
