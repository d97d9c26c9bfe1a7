-- `board::Board::keep` meets its contract. Assumes nothing.
use Rattle.std.proofs.Common.{refl}
use Rattle.record.specs.Memory.{memory}
use Rattle.board.proofs.laws.Stores.{not-kept}
use Rattle.board.proofs.Board.keep.Goals as goal

pub returns-in-Some : goal.returns-in-Some
returns-in-Some c = simp (← c.in-Some.ensures, c.set_held.ensures, c.replies.ensures)

pub returns-in-None : goal.returns-in-None
returns-in-None c =
    let a = c.args in
    let e = not-kept a.self.engine.held a.item (memory a.store.now a.table.now) c.in-None.ensures refl in
    simp (← c.in-None.ensures, c.letter.ensures, c.replies-in-None.ensures, e)
