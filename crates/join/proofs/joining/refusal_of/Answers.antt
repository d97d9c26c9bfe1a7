-- `join::joining::refusal_of` meets its contract. Assumes nothing.
use mathlib.Core.Bool.{not}
use mathlib.Core.Path.{refl, sym, ap, ◌∙◌}
use Rattle.record.specs.Memory.{memory}
use Rattle.join.proofs.Deciding.{stores-so, accepts-so, is-102, is-104, is-3, is-g, is-6, is-0}
use Rattle.join.proofs.joining.refusal_of.Goals as goal

pub returns-then-store-other : goal.returns-then-store-other
returns-then-store-other c =
    let a = c.args in
    is-102 a.first (memory a.store.now a.table.now) a.second a.other.now (sym (stores-so a.store.now a.other.now) ∙ c.if-store-other.true)

pub returns-then-table-ne1000 : goal.returns-then-table-ne1000
returns-then-table-ne1000 c =
    let a = c.args in
    is-104 a.first (memory a.store.now a.table.now) a.second a.other.now (sym (stores-so a.store.now a.other.now) ∙ c.if-store-other.false) c.if-table-ne1000.true

pub returns-then-not-axes_right : goal.returns-then-not-axes_right
returns-then-not-axes_right c =
    let a = c.args in
    is-3 a.first (memory a.store.now a.table.now) a.second a.other.now (sym (stores-so a.store.now a.other.now) ∙ c.if-store-other.false) c.if-table-ne1000.false
    (ap not (sym c.axes_right.ensures) ∙ (ap not c.if-not-axes_right.true))

pub returns-in_default : goal.returns-in_default
returns-in_default c =
    let a = c.args in
    is-g a.first (memory a.store.now a.table.now) a.second a.other.now (sym (stores-so a.store.now a.other.now) ∙ c.if-store-other.false) c.if-table-ne1000.false (ap not (sym c.axes_right.ensures) ∙ (ap not c.if-not-axes_right.false))
    (sym (accepts-so a.first a.store.now a.second a.other.now c.counted.ensures refl c.in_default.ensures refl))

pub returns-in_default-accepts : goal.returns-in_default-accepts
returns-in_default-accepts c =
    let a = c.args in
    is-g a.first (memory a.store.now a.table.now) a.second a.other.now (sym (stores-so a.store.now a.other.now) ∙ c.if-store-other.false) c.if-table-ne1000.false (ap not (sym c.axes_right.ensures) ∙ (ap not c.if-not-axes_right.false))
    (sym (accepts-so a.first a.store.now a.second a.other.now c.counted.ensures c.counted-2.ensures c.in-Some.ensures c.in_default-accepts.ensures))

pub returns-then-a-b : goal.returns-then-a-b
returns-then-a-b c =
    let a = c.args in
    is-g a.first (memory a.store.now a.table.now) a.second a.other.now (sym (stores-so a.store.now a.other.now) ∙ c.if-store-other.false) c.if-table-ne1000.false (ap not (sym c.axes_right.ensures) ∙ (ap not c.if-not-axes_right.false))
    (sym (accepts-so a.first a.store.now a.second a.other.now c.counted.ensures c.counted-2.ensures c.in-Some.ensures c.in-Some-accepts.ensures) ∙ c.if-a-b.true)

pub returns-then-not-room_right : goal.returns-then-not-room_right
returns-then-not-room_right c =
    let a = c.args in
    is-6 a.first (memory a.store.now a.table.now) a.second a.other.now (sym (stores-so a.store.now a.other.now) ∙ c.if-store-other.false) c.if-table-ne1000.false (ap not (sym c.axes_right.ensures) ∙ (ap not c.if-not-axes_right.false))
    (sym (accepts-so a.first a.store.now a.second a.other.now c.counted.ensures c.counted-2.ensures c.in-Some.ensures c.in-Some-accepts.ensures) ∙ c.if-a-b.false)
    (ap not (sym c.room_right.ensures) ∙ (ap not c.if-not-room_right.true))

pub returns : goal.returns
returns c =
    let a = c.args in
    is-0 a.first (memory a.store.now a.table.now) a.second a.other.now (sym (stores-so a.store.now a.other.now) ∙ c.if-store-other.false) c.if-table-ne1000.false (ap not (sym c.axes_right.ensures) ∙ (ap not c.if-not-axes_right.false))
    (sym (accepts-so a.first a.store.now a.second a.other.now c.counted.ensures c.counted-2.ensures c.in-Some.ensures c.in-Some-accepts.ensures) ∙ c.if-a-b.false)
    (ap not (sym c.room_right.ensures) ∙ (ap not c.if-not-room_right.false))
