-- `motion::Move::phase_from` meets its contract. Assumes nothing.
use Rattle.motion.proofs.laws.Beats.{from-by-axis}
use Rattle.motion.proofs.Move.phase_from.Goals as goal

pub returns : goal.returns
returns c = from-by-axis c.args.self (c.from_in.ensures, c.from_in-2.ensures, c.from_in-3.ensures, c.from_in-4.ensures)
