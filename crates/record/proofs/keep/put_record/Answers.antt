-- `record::put_record` meets its contract: the head, and the numbers behind it. Assumes nothing.
use Rattle.std.proofs.Common.{length, length-append, length-drop, sym, ap, arith}
use Rattle.std.proofs.Math.Seq.{length-take-le}
use Rattle.record.proofs.laws.Put.{encode-long, record-put}
use Rattle.count.proofs.laws.Lists.{rest}
use Rattle.record.proofs.keep.put_record.Goals as goal

pub slice_bounds-copy_from_slice-end : goal.slice_bounds-copy_from_slice-end
slice_bounds-copy_from_slice-end c = omega (arith, encode-long c.args.item)

pub slice_bounds-copy_from_slice-end-2 : goal.slice_bounds-copy_from_slice-end-2
slice_bounds-copy_from_slice-end-2 c = sym (length-take-le 4 c.args.s.now (omega (arith, encode-long c.args.item)))

pub copy_from_slice-requires : goal.copy_from_slice-requires
copy_from_slice-requires c = length-take-le 4 c.args.s.now (omega (arith, encode-long c.args.item))

pub put_numbers-requires : goal.put_numbers-requires
put_numbers-requires c =
    let n = ap length c.numbers-numbers.ensures in
    let k = ap length c.copy_from_slice.ensures.after in
    rw (rest, length-drop, length-append, length-drop) (omega (arith, encode-long c.args.item, n, k))

pub returns : goal.returns
returns c =
    let e = c.numbers-numbers.ensures in
    record-put c.args.s.now c.copy_from_slice.new.self c.put_numbers.new.s c.args.item (rw e at c.copy_from_slice.ensures.after) (rw e at c.put_numbers.ensures)
