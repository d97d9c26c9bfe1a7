-- `board::Board::sound` meets its contract. Assumes nothing.
use Rattle.board.specs.State.{sound}
use Rattle.board.proofs.Board.sound.Goals as goal

pub returns : goal.returns
unfolding sound
returns c = rw c.sound.ensures
