-- `motion::Move::beat` meets its contract. Assumes nothing.
use Rattle.motion.proofs.laws.Beats.{beaten-settled}
use Rattle.motion.proofs.Move.beat.Goals as goal

pub returns : goal.returns
returns c = let a = c.args in beaten-settled a.self a.at c.settle.ensures c.beat_at.ensures
