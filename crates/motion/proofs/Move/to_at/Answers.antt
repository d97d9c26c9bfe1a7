-- `motion::Move::to_at` meets its contract. Assumes nothing.
use Rattle.motion.specs.work.Beat.{at_mark}
use Rattle.motion.proofs.laws.Beats.{to-by-axis}
use Rattle.motion.proofs.Move.to_at.Goals as goal

pub returns : goal.returns
returns c = let a = c.args in to-by-axis (at_mark a.self a.mark) (c.to_by.ensures, c.to_by-2.ensures, c.to_by-3.ensures, c.to_by-4.ensures)
