-- `board::Board::store_line` meets its contract. Assumes nothing.
use mathlib.Core.Path.{refl, ap, ◌∙◌}
use Rattle.record.specs.Memory.{memory}
use Rattle.line.specs.Said.{code_said}
use Rattle.line.specs.Lines.{stored_of}
use Rattle.board.specs.State.{text_of}
use Rattle.board.proofs.laws.Stores.{code-right, stored_wrong, stored-record, stored-end}
use Rattle.board.proofs.Board.store_line.Goals as goal

pub record_line-requires : goal.record_line-requires
record_line-requires c = code-right (text_of c.args.self.line) (c.in-Some.ensures ∙ ap stored_of c.text.ensures) (ap code_said c.in-Record.is)

pub returns-in-None : goal.returns-in-None
returns-in-None c =
    let a = c.args in
    stored_wrong (text_of a.self.line) a.self (memory a.store.now a.table.now) (c.in-None.ensures ∙ ap stored_of c.text.ensures) refl (rw c.letter.ensures at c.replies.ensures)

pub returns-in-Record : goal.returns-in-Record
returns-in-Record c =
    let a = c.args in
    stored-record (text_of a.self.line) a.self (memory a.store.now a.table.now) (c.in-Some.ensures ∙ ap stored_of c.text.ensures) (ap code_said c.in-Record.is) c.record_line.ensures

pub returns-in-End : goal.returns-in-End
returns-in-End c =
    let a = c.args in
    stored-end (text_of a.self.line) a.self (memory a.store.now a.table.now) (c.in-Some.ensures ∙ ap stored_of c.text.ensures) (ap code_said c.in-End.is) (c.end_storing.ensures a.table.now)
