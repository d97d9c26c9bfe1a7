-- `board::Board::reset` meets its contract. Assumes nothing.
use Rattle.board.proofs.Board.reset.Goals as goal

pub returns : goal.returns
returns c = simp (c.reset.ensures, c.empty.ensures, c.says.ensures)
