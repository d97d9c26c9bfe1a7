-- `board::Board::gather` meets its contract. Assumes nothing.
use Rattle.board.proofs.Board.gather.Goals as goal

pub returns : goal.returns
returns c = rw c.gather.ensures
