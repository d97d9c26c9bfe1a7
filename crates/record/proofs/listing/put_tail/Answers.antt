-- `record::put_tail` meets its contract: one number a turn. Assumes nothing.
use Rattle.std.proofs.Common.{◌+◌, get_or, drop, length-drop, arith}
use Rattle.count.proofs.laws.Lists.{rest}
use Rattle.record.proofs.laws.Writing.{write-one, write-part, write-left, write-end, tail-next, tail-done, tail-long}
use Rattle.record.specs.work.Writing.{item_text, line_left}
use Rattle.record.proofs.listing.put_tail.Goals as goal

pub slice_bounds-put_item-count : goal.slice_bounds-put_item-count
slice_bounds-put_item-count c = omega (arith, tail-long c.args.numbers.now c.requires.0, c.loop-i.invariant.within)

pub put_item-at-requires : goal.put_item-at-requires
put_item-at-requires c =
    let w = c.loop-i.invariant in
    let h = tail-long c.args.numbers.now c.requires.0 in
    simp (rest, length-drop) (omega (arith, w.within, w.same))

pub loop-i-preserved : goal.loop-i-preserved
loop-i-preserved c =
    let v = c.args.numbers.now in
    let i = c.loop-i.i in
    let h = tail-long v c.requires.0 in
    let e = tail-next i v c.loop-i-test.true in
    let w = write-part (line_left 0 v) c.args.text.now c.loop-i.text c.loop-i.at (omega arith) (item_text i (get_or v i 0)) (line_left (i + 1) (drop (i + 1) v)) c.put_item-at.new.text (write-left e c.loop-i.invariant) c.put_item-at.auto.text c.put_item-at.ensures.1 in
    rw c.put_item-at.ensures.0 w

pub bounds-text-at : goal.bounds-text-at
bounds-text-at c =
    let w = c.loop-i.invariant in
    omega (arith, tail-long c.args.numbers.now c.requires.0, w.within, w.same)

pub returns : goal.returns
returns c =
    let v = c.args.numbers.now in
    let h = tail-long v c.requires.0 in
    let e = tail-done c.loop-i.i v (omega arith) in
    write-end (line_left 0 v) c.args.text.now _ _ (write-one (line_left 0 v) c.args.text.now c.loop-i.text c.loop-i.at (omega arith) 13 _ (write-left e c.loop-i.invariant))
