-- `board::Board::listen` meets its contract. Assumes nothing.
use Rattle.board.proofs.Board.listen.Goals as goal

pub returns : goal.returns
returns c = simp (c.hear.ensures, c.says.ensures)
