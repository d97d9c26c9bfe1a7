-- `board::Board::ear` meets its contract. Assumes nothing.
use Rattle.board.specs.work.Ears.{ear_for}
use Rattle.board.proofs.Board.ear.Goals as goal

pub returns : goal.returns
unfolding ear_for
returns c = c.byte_ear.ensures
