-- `port::calls::tick` meets its contract. Assumes nothing.
use mathlib.Core.Bool.{◌||◌}
use mathlib.Core.Path.{refl, sym, ap, ◌∙◌}
use Rattle.engine.specs.work.Acts.{seen_of, acted_by}
use Rattle.record.specs.Table.{fetch_of}
use Rattle.record.specs.Memory.{memory, RightMemory}
use Rattle.travel.specs.work.Beat.{next_of}
use Rattle.count.proofs.laws.Truth.{or-false}
use lib.Dec.{eqb}
use Rattle.port.proofs.laws.Ticks.{kind-round, wrong-so, right_so, tableless-so, rest-so, straight-so, round-so, went-so}
use Rattle.port.proofs.calls.tick.Goals as goal

pub returns-then-is_refused-state : goal.returns-then-is_refused-state
returns-then-is_refused-state c = let a = c.args in
    let h = c.requires.0 in
    let m = memory a.store.now a.table.now in
    c.clocked.ensures ∙ wrong-so a.state h m c.requires.1 (c.see-act.ensures ∙ ap seen_of c.engine-e.ensures) c.is_refused.ensures c.if-is_refused-state.true

pub returns-then-table-ne1000 : goal.returns-then-table-ne1000
returns-then-table-ne1000 c = let a = c.args in
    let h = c.requires.0 in
    let m = memory a.store.now a.table.now in
    c.clocked-then-table-ne1000.ensures ∙ tableless-so a.state h m c.requires.1 (c.see-act.ensures ∙ ap seen_of c.engine-e.ensures) c.is_refused.ensures c.if-is_refused-state.false c.if-table-ne1000.true

pub returns-then-state-is_still : goal.returns-then-state-is_still
returns-then-state-is_still c = let a = c.args in
    let h = c.requires.0 in
    let m = memory a.store.now a.table.now in
    let e = c.see-act.ensures ∙ ap seen_of c.engine-e.ensures in
    let l : RightMemory m = (c.requires.1, c.if-table-ne1000.false) in
    let o = right_so a.state h m c.requires.1 e c.is_refused.ensures c.if-is_refused-state.false in
    c.clocked-then-state-is_still.ensures ∙ rest-so a.state h m l o e (eqb a.state.standing 1) refl (ap (λ t. eqb a.state.standing 1 || t) (sym c.is_still.ensures) ∙ c.if-state-is_still.true)

pub returns-then-state-eq0 : goal.returns-then-state-eq0
returns-then-state-eq0 c = let a = c.args in
    let h = c.requires.0 in
    let m = memory a.store.now a.table.now in
    let e = c.see-act.ensures ∙ ap seen_of c.engine-e.ensures in
    let l : RightMemory m = (c.requires.1, c.if-table-ne1000.false) in
    let o = right_so a.state h m c.requires.1 e c.is_refused.ensures c.if-is_refused-state.false in
    c.clocked-then-state-eq0.ensures ∙ straight-so a.state h m l o (or-false c.if-state-is_still.false).0 e _ c.in-Pulse.is c.if-state-eq0.true

pub returns-in-Pulse : goal.returns-in-Pulse
returns-in-Pulse c = let a = c.args in
    let h = c.requires.0 in
    let m = memory a.store.now a.table.now in
    let e = c.see-act.ensures ∙ ap seen_of c.engine-e.ensures in
    let l : RightMemory m = (c.requires.1, c.if-table-ne1000.false) in
    let o = right_so a.state h m c.requires.1 e c.is_refused.ensures c.if-is_refused-state.false in
    c.clocked-in-Pulse.ensures ∙ round-so a.state h m l o (or-false c.if-state-is_still.false).0 e _ c.in-Pulse.is (kind-round a.state h c.if-state-eq0.false)

pub returns : goal.returns
returns c = let a = c.args in
    let h = c.requires.0 in
    let m = memory a.store.now a.table.now in
    let e = c.see-act.ensures ∙ ap seen_of c.engine-e.ensures in
    let l : RightMemory m = (c.requires.1, c.if-table-ne1000.false) in
    let o = right_so a.state h m c.requires.1 e c.is_refused.ensures c.if-is_refused-state.false in
    simp (c.clocked-2.ensures, c.with_engine.ensures)
    (went-so a.state h m l o (or-false c.if-state-is_still.false).0 e (c.act-t.ensures ∙ ap (λ x. acted_by next_of (fetch_of x.held m) c.see-act.result x) c.engine-e.ensures))
