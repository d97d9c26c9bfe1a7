-- `record::put_item` meets its contract. Assumes nothing.
use native.Mathlib.Omega.{arith}
use Rattle.record.proofs.laws.Writing.{item-first, item-later, item-most}
use Rattle.record.proofs.listing.put_item.Goals as goal

pub returns-then-i-eq0 : goal.returns-then-i-eq0
returns-then-i-eq0 c =
    let a = c.args in
    item-first a.i a.w a.text.now c.if-i-eq0.true (omega arith) c.put_word.ensures

pub overflow_add-result : goal.overflow_add-result
overflow_add-result c =
    let a = c.args in
    let e = item-later a.i a.w a.text.now c.if-i-eq0.false (omega arith) c.put_word-k.ensures in
    omega (arith, e.0, item-most a.i a.w)

pub returns : goal.returns
returns c =
    let a = c.args in
    item-later a.i a.w a.text.now c.if-i-eq0.false (omega arith) c.put_word-k.ensures
