-- `board::Board::replies` meets its contract. Assumes nothing.
use Rattle.board.proofs.Board.replies.Goals as goal

pub returns : goal.returns
returns c = simp (c.says.ensures, c.with_engine.ensures)
