-- `course::put_reply` meets its contract. Assumes nothing.
use native.Mathlib.Omega.{arith}
use lib.ListN.{length-set}
use Rattle.course.proofs.Bytes.{reply-framed}
use Rattle.course.proofs.lines.put_reply.Goals as goal

pub bounds-out-1 : goal.bounds-out-1
bounds-out-1 c = simp length-set (omega arith)

pub bounds-out-e : goal.bounds-out-e
bounds-out-e c = simp length-set (omega arith)

pub returns : goal.returns
returns c = reply-framed c.args.out.now c.args.n c.requires c.if-n-eq0.false
