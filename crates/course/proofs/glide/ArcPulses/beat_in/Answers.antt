-- `course::glide::ArcPulses::beat_in` meets its contract. Assumes nothing.
use Rattle.course.proofs.Pulses.{round-beat}
use Rattle.course.proofs.glide.ArcPulses.beat_in.Goals as goal

pub returns : goal.returns
returns c = round-beat _ _ c.beat_in.ensures
