-- `motion::Move::leg_at` meets its contract. Assumes nothing.
use Rattle.motion.proofs.Move.leg_at.Goals as goal

pub returns : goal.returns
returns c = cc
