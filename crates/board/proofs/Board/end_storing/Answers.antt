-- `board::Board::end_storing` meets its contract. Assumes nothing.
use Rattle.board.proofs.Board.end_storing.Goals as goal

pub returns-in-Ok : goal.returns-in-Ok
returns-in-Ok c = λ table. simp (← c.in-Ok.ensures, c.cease.ensures, c.replies.ensures)

pub returns-in-Err-Fault : goal.returns-in-Err-Fault
returns-in-Err-Fault c =
    let v = rw c.in-Err-Fault.field-0-is at c.in-Err-Fault.ensures in
    λ table. simp (← v, c.empty.ensures, c.cease-in-Err-Fault.ensures, c.with_engine.ensures, c.letter.ensures, c.says.ensures)

pub returns-in-Err-Unreadable : goal.returns-in-Err-Unreadable
returns-in-Err-Unreadable c =
    let v = rw c.in-Err-Unreadable.field-0-is at c.in-Err-Unreadable.ensures in
    λ table. simp (← v, c.empty-in-Err-Unreadable.ensures, c.cease-in-Err-Unreadable.ensures, c.letter-in-Err-Unreadable.ensures, c.replies-in-Err-Unreadable.ensures)
