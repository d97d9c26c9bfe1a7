-- `course::glide::MovePulses::beat_in` meets its contract. Assumes nothing.
use Rattle.course.proofs.Pulses.{straight-beat}
use Rattle.course.proofs.glide.MovePulses.beat_in.Goals as goal

pub returns : goal.returns
returns c = straight-beat _ _ c.beat_in.ensures
