-- `motion::Move::next` meets its contract. Assumes nothing.
use Rattle.motion.proofs.laws.Beats.{next-back}
use Rattle.motion.proofs.Move.next.Goals as goal

pub returns : goal.returns
returns c = let a = c.args in rw (c.as_next.ensures, c.beat.ensures) (next-back a.self a.at)
