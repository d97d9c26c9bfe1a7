-- `motion::Move::from_at` meets its contract. Assumes nothing.
use Rattle.motion.specs.work.Beat.{at_mark}
use Rattle.motion.proofs.laws.Beats.{from-by-axis}
use Rattle.motion.proofs.Move.from_at.Goals as goal

pub returns : goal.returns
returns c = let a = c.args in from-by-axis (at_mark a.self a.mark) (c.from_by.ensures, c.from_by-2.ensures, c.from_by-3.ensures, c.from_by-4.ensures)
