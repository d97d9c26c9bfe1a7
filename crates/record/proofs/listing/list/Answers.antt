-- `record::list` meets its contract. Assumes nothing.
use Prim.Native.Nat.{◌≤◌}
use mathlib.Core.Path.{sym, ◌∙◌}
use native.Mathlib.Omega.{arith}
use Rattle.record.specs.Bytes.{Below}
use Rattle.record.proofs.laws.Walk.{end-part}
use Rattle.record.proofs.laws.Told.{told-103, told-106, told-71, told-0, told-list, told-room, records-part}
use Rattle.record.proofs.listing.list.Goals as goal

pub returns-then-held-gt16384 : goal.returns-then-held-gt16384
returns-then-held-gt16384 c =
    let a = c.args in
    told-103 a.held a.store.now a.text.now c.if-held-gt16384.true

pub returns-then-text-lt32768 : goal.returns-then-text-lt32768
returns-then-text-lt32768 c =
    let a = c.args in
    told-106 a.held a.store.now a.text.now c.if-held-gt16384.false c.if-text-lt32768.true

pub returns-then-not-readable : goal.returns-then-not-readable
returns-then-not-readable c =
    let a = c.args in
    told-71 a.held a.store.now a.text.now c.if-held-gt16384.false c.if-text-lt32768.false (sym c.readable.ensures ∙ c.if-not-readable.true)

pub slice_bounds-put_lines-end : goal.slice_bounds-put_lines-end
slice_bounds-put_lines-end c =
    let a = c.args in
    (end-part a.held a.store.now c.end-end.ensures).0

pub put_lines-n-requires : goal.put_lines-n-requires
put_lines-n-requires c =
    let a = c.args in
    let b : Below 256 a.store.now = record { at = λ j. omega (arith, c.type_inv.store j) } in
    let g = records-part a.held a.store.now a.text.now c.end-end.ensures in
    let u : a.held.used ≤ 16384 = c.if-held-gt16384.false in
    (told-list a.held a.store.now a.text.now (sym c.readable.ensures ∙ c.if-not-readable.false) g, omega (arith, told-room a.held a.store.now g b u, c.if-text-lt32768.false))

pub overflow_cast-result : goal.overflow_cast-result
overflow_cast-result c =
    let a = c.args in
    let b : Below 256 a.store.now = record { at = λ j. omega (arith, c.type_inv.store j) } in
    let g = records-part a.held a.store.now a.text.now c.end-end.ensures in
    let u : a.held.used ≤ 16384 = c.if-held-gt16384.false in
    omega (arith, told-room a.held a.store.now g b u, c.put_lines-n.ensures.0)

pub returns : goal.returns
returns c =
    let a = c.args in
    told-0 a.held a.store.now a.text.now c.if-held-gt16384.false c.if-text-lt32768.false (sym c.readable.ensures ∙ c.if-not-readable.false) (records-part a.held a.store.now a.text.now c.end-end.ensures) c.put_lines-n.ensures.0 c.put_lines-n.ensures.1
