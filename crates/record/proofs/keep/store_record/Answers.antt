-- `record::store_record` meets its contract. Assumes nothing.
use Rattle.std.proofs.Common.{length, length-drop, ap, sym, ◌∙◌, arith}
use Rattle.count.proofs.laws.Lists.{rest}
use Rattle.record.specs.Memory.{memory}
use Rattle.record.proofs.laws.Put.{room-so, encode-long, kept-not, kept-so}
use Rattle.record.proofs.keep.store_record.Goals as goal

pub returns-then-not-has_room : goal.returns-then-not-has_room
returns-then-not-has_room c =
    let a = c.args in
    kept-not a.item a.held (memory a.store.now a.table.now) (rw c.numbers.ensures at (sym c.has_room.ensures ∙ c.if-not-has_room.true))

pub slice_bounds-put_record-count : goal.slice_bounds-put_record-count
slice_bounds-put_record-count c =
    let r = room-so c.args.held _ _ _ (sym c.has_room.ensures ∙ c.if-not-has_room.false) in
    omega (arith, r.2)

pub slice_bounds-put_record-start : goal.slice_bounds-put_record-start
slice_bounds-put_record-start c =
    let r = room-so c.args.held _ _ _ (sym c.has_room.ensures ∙ c.if-not-has_room.false) in
    omega (arith, r.2)

pub put_record-requires : goal.put_record-requires
put_record-requires c =
    let r = room-so c.args.held _ _ _ (sym c.has_room.ensures ∙ c.if-not-has_room.false) in
    simp (rest, length-drop) (omega (arith, r.2, encode-long c.args.item, ap length c.numbers.ensures))

pub bounds-table-from : goal.bounds-table-from
bounds-table-from c =
    let r = room-so c.args.held _ _ _ (sym c.has_room.ensures ∙ c.if-not-has_room.false) in
    omega (arith, r.3)

pub overflow_cast-result : goal.overflow_cast-result
overflow_cast-result c =
    let r = room-so c.args.held _ _ _ (sym c.has_room.ensures ∙ c.if-not-has_room.false) in
    omega (arith, r.1)

pub overflow_add-result-2 : goal.overflow_add-result-2
overflow_add-result-2 c =
    let r = room-so c.args.held _ _ _ (sym c.has_room.ensures ∙ c.if-not-has_room.false) in
    omega (arith, r.0)

pub returns : goal.returns
returns c =
    let a = c.args in
    rw (c.from-at.ensures, c.from.ensures, c.numbers.ensures)
    (kept-so a.item a.held (memory a.store.now a.table.now) (rw c.numbers.ensures at (sym c.has_room.ensures ∙ c.if-not-has_room.false)) (rw c.from-at.ensures at c.put_record.ensures))
