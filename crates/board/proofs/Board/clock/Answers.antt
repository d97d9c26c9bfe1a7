-- `board::Board::clock` meets its contract. Assumes nothing.
use mathlib.Core.Path.{sym, ◌∙◌}
use borrow.Author.Tests.{eq-eqb, ne_eqb, not-false}
use Rattle.record.specs.Memory.{memory}
use Rattle.board.specs.Calls.{clocking}
use Rattle.board.proofs.laws.Hears.{refused-so, acted-so, clocked-so}
use Rattle.board.proofs.Board.clock.Goals as goal

pub returns-then-store-ne16384 : goal.returns-then-store-ne16384
unfolding clocking
returns-then-store-ne16384 c = simp (ne_eqb _ _ c.if-store-ne16384.true, c.still.ensures)

pub returns-then-is_refused-self : goal.returns-then-is_refused-self
unfolding clocking
returns-then-is_refused-self c = rw (c.still-then-is_refused-self.ensures, eq-eqb _ _ c.if-store-ne16384.false, sym (refused-so c.args.self c.see-act.ensures c.is_refused.ensures) ∙ c.if-is_refused-self.true)

pub returns-then-table-ne1000 : goal.returns-then-table-ne1000
unfolding clocking
returns-then-table-ne1000 c =
    let h = sym (refused-so c.args.self c.see-act.ensures c.is_refused.ensures) ∙ c.if-is_refused-self.false in
    rw (c.still-then-table-ne1000.ensures, eq-eqb _ _ c.if-store-ne16384.false, h, ne_eqb _ _ c.if-table-ne1000.true)

pub returns-then-self : goal.returns-then-self
unfolding clocking
returns-then-self c =
    let h = sym (refused-so c.args.self c.see-act.ensures c.is_refused.ensures) ∙ c.if-is_refused-self.false in
    rw (c.still-then-self.ensures, eq-eqb _ _ c.if-store-ne16384.false, h, eq-eqb _ _ c.if-table-ne1000.false, c.if-self.true)

pub returns : goal.returns
returns c =
    let a = c.args in
    let m = memory a.store.now a.table.now in
    let h = not-false _ (sym (refused-so a.self c.see-act.ensures c.is_refused.ensures) ∙ c.if-is_refused-self.false) in
    clocked-so a.self m (c.if-store-ne16384.false, c.if-table-ne1000.false) h c.if-self.false (acted-so a.self m h c.see-act.ensures c.act-told.ensures)
