-- `board::Board::quit` meets its contract. Assumes nothing.
use Rattle.board.specs.work.Work.{break_spoke}
use Rattle.board.proofs.Board.quit.Goals as goal

pub returns-then-is_ended-self : goal.returns-then-is_ended-self
unfolding break_spoke
returns-then-is_ended-self c = simp (← c.is_ended.ensures, c.if-is_ended-self.true, c.cease.ensures, c.says.ensures)

pub returns : goal.returns
unfolding break_spoke
returns c = simp (← c.is_ended.ensures, c.if-is_ended-self.false, c.says-2.ensures)
