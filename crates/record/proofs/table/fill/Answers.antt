-- `record::fill` meets its contract. Assumes nothing.
use mathlib.Core.Path.{sym, ◌∙◌}
use native.Mathlib.Omega.{arith}
use Rattle.record.specs.Memory.{memory}
use Rattle.record.proofs.laws.Walk.{end-part}
use Rattle.record.proofs.laws.Fills.{is-102, is-104, is-g, fill-ready, fill_done}
use Rattle.record.proofs.table.fill.Goals as goal

pub returns-then-store-ne16384 : goal.returns-then-store-ne16384
returns-then-store-ne16384 c =
    let a = c.args in
    let m = memory a.store.now a.table.now in
    is-102 a.held m c.if-store-ne16384.true

pub returns-then-table-ne1000 : goal.returns-then-table-ne1000
returns-then-table-ne1000 c =
    let a = c.args in
    let m = memory a.store.now a.table.now in
    is-104 a.held m c.if-store-ne16384.false c.if-table-ne1000.true

pub returns-then-not-can_fill : goal.returns-then-not-can_fill
returns-then-not-can_fill c =
    let a = c.args in
    let m = memory a.store.now a.table.now in
    is-g a.held m c.if-store-ne16384.false c.if-table-ne1000.false (sym c.can_fill.ensures ∙ c.if-not-can_fill.true)

pub slice_bounds-put_starts-end : goal.slice_bounds-put_starts-end
slice_bounds-put_starts-end c =
    let a = c.args in
    (end-part a.held a.store.now c.end-end.ensures).0

pub put_starts-requires : goal.put_starts-requires
put_starts-requires c =
    let a = c.args in
    let m = memory a.store.now a.table.now in
    let f = fill-ready a.held m (sym c.can_fill.ensures ∙ c.if-not-can_fill.false) c.end-end.ensures in
    rw c.from.ensures (f.0, omega (arith, f.1, c.if-table-ne1000.false), f.2)

pub returns : goal.returns
returns c =
    let a = c.args in
    let m = memory a.store.now a.table.now in
    fill_done a.held m (sym c.can_fill.ensures ∙ c.if-not-can_fill.false) c.end-end.ensures c.if-store-ne16384.false c.if-table-ne1000.false (rw c.from.ensures at c.put_starts.ensures)
