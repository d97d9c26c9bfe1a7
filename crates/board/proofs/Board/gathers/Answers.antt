-- `board::Board::gathers` meets its contract. Assumes nothing.
use Rattle.board.proofs.Board.gathers.Goals as goal

pub returns : goal.returns
returns c = rw c.is_gathering.ensures
