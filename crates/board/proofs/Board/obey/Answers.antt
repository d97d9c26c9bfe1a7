-- `board::Board::obey` meets its contract: where no line was found, the reply is 5. Assumes nothing.
use Rattle.board.specs.work.Work.{line_fault, obeyed}
use Rattle.board.proofs.Board.obey.Goals as goal

pub returns-in_default : goal.returns-in_default
unfolding obeyed line_fault
returns-in_default c = rw c.in_default.is (rw c.letter.ensures at c.replies.ensures)
