-- `record::record_in` meets its contract: the head, the numbers and what is wrong with them. Assumes nothing.
use Rattle.std.proofs.Common.{sym, arith}
use Rattle.record.proofs.laws.Work.{head-whole, front-none, front-wrong, front-right}
use Rattle.record.proofs.bytes.record_in.Goals as goal

pub returns-in_default : goal.returns-in_default
returns-in_default c = sym (front-none _ _ c.in_default.ensures)

pub bounds-s-2 : goal.bounds-s-2
bounds-s-2 c = omega (arith, (head-whole 0 c.args.s.now c.in-Some.ensures).fits)

pub slice_bounds-read_numbers-count : goal.slice_bounds-read_numbers-count
slice_bounds-read_numbers-count c = omega (arith, (head-whole 0 c.args.s.now c.in-Some.ensures).fits)

pub slice_bounds-read_numbers-start : goal.slice_bounds-read_numbers-start
slice_bounds-read_numbers-start c = omega (arith, (head-whole 0 c.args.s.now c.in-Some.ensures).fits)

pub read_numbers-words-requires : goal.read_numbers-words-requires
read_numbers-words-requires c =
    let h = head-whole 0 c.args.s.now c.in-Some.ensures in
    omega (arith, h.few, h.fits)

pub overflow_cast-result : goal.overflow_cast-result
overflow_cast-result c = omega (arith, (head-whole 0 c.args.s.now c.in-Some.ensures).few)

pub returns-in-Ok : goal.returns-in-Ok
returns-in-Ok c = sym (front-right _ _ c.in-Some.ensures c.read_numbers-words.ensures c.in-Ok.ensures)

pub returns-in-Err : goal.returns-in-Err
returns-in-Err c = sym (front-wrong _ _ c.in-Some.ensures c.read_numbers-words.ensures c.in-Err.field-0 c.in-Err.ensures)
