-- `port::calls::board_fresh` meets its contract. Assumes nothing.
use Rattle.port.proofs.calls.board_fresh.Goals as goal

pub returns : goal.returns
returns c = simp (c.with_board.ensures, c.fresh.ensures, c.blank.ensures)
