-- `course::Walk::is_ready` meets its contract. Assumes nothing.
use Rattle.course.proofs.Walk.is_ready.Goals as goal

pub returns : goal.returns
returns c = rw c.sound.ensures
