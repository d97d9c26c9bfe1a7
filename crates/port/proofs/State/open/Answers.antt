-- `port::State::open` meets its contract. Assumes nothing.
use Rattle.port.proofs.State.open.Goals as goal

pub returns : goal.returns
returns c = cc
