-- `motion::Move::phase_to` meets its contract. Assumes nothing.
use Rattle.motion.proofs.laws.Beats.{to-by-axis}
use Rattle.motion.proofs.Move.phase_to.Goals as goal

pub returns : goal.returns
returns c = to-by-axis c.args.self (c.to_in.ensures, c.to_in-2.ensures, c.to_in-3.ensures, c.to_in-4.ensures)
