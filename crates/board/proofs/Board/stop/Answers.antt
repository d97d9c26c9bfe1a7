-- `board::Board::stop` meets its contract. Assumes nothing.
use Rattle.board.specs.work.Work.{stop_spoke}
use Rattle.board.proofs.Board.stop.Goals as goal

pub returns-then-is_held-self : goal.returns-then-is_held-self
unfolding stop_spoke
returns-then-is_held-self c = simp (← c.is_held.ensures, c.if-is_held-self.true, c.says.ensures)

pub returns : goal.returns
unfolding stop_spoke
returns c = simp (← c.is_held.ensures, c.if-is_held-self.false, c.says-2.ensures)
