-- `board::Board::end_line` meets its contract. Assumes nothing.
use mathlib.Core.Path.{ap, ◌∙◌}
use Rattle.record.specs.Memory.{memory}
use Rattle.line.specs.Lines.{direct_of}
use Rattle.board.proofs.laws.Hears.{return-over, return-stored, return-direct}
use Rattle.board.proofs.Board.end_line.Goals as goal

pub returns-then-self : goal.returns-then-self
returns-then-self c =
    let a = c.args in
    return-over a.ports a.self (memory a.store.now a.table.now) c.if-self.true (rw c.letter.ensures at c.replies.ensures)

pub returns-then-is_storing-self : goal.returns-then-is_storing-self
returns-then-is_storing-self c =
    let a = c.args in
    return-stored a.ports a.self (memory a.store.now a.table.now) c.if-self.false c.is_storing.ensures c.if-is_storing-self.true c.store_line.ensures

pub returns : goal.returns
returns c =
    let a = c.args in
    return-direct a.ports a.self (memory a.store.now a.table.now) c.if-self.false c.is_storing.ensures c.if-is_storing-self.false (c.direct_line.ensures ∙ ap direct_of c.text.ensures) c.obey.ensures
