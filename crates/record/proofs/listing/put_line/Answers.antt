-- `record::put_line` meets its contract: the tail, and the code before it. Assumes nothing.
use Rattle.std.proofs.Common.{arith}
use Rattle.record.specs.Bytes.{numbers_of}
use Rattle.record.proofs.laws.Writing.{front-behind, line_as}
use Rattle.record.specs.work.Writing.{line_left}
use Rattle.record.proofs.listing.put_line.Goals as goal

pub returns : goal.returns
returns c =
    let a = c.args in
    let e = c.numbers.ensures in
    let p = c.put_tail-k.ensures in
    rw (line_as a.item) (front-behind a.item.code (line_left 0 (numbers_of a.item)) a.text.now (omega arith) (rw e at (p.0)) (rw e at (p.1)))
