-- `port::State::with_board` meets its contract. Assumes nothing.
use Rattle.port.proofs.State.with_board.Goals as goal

pub returns : goal.returns
returns c = simp (c.as_flag-2.ensures, c.as_flag.ensures, c.with_engine.ensures)
