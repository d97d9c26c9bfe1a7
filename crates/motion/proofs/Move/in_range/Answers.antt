-- `motion::Move::in_range` meets its contract. Assumes nothing.
use Rattle.motion.specs.Sound.{in_range}
use Rattle.motion.proofs.Move.in_range.Goals as goal

pub returns : goal.returns
unfolding in_range
returns c = rw (c.counted_at-4.ensures, c.counted_at-3.ensures, c.counted_at-2.ensures, c.counted_at.ensures, c.speed_right-3.ensures, c.speed_right-2.ensures, c.speed_right.ensures)
