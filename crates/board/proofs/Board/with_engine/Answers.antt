-- `board::Board::with_engine` meets its contract. Assumes nothing.
use Rattle.board.proofs.Board.with_engine.Goals as goal

pub returns : goal.returns
returns c = rw c.empty.ensures
