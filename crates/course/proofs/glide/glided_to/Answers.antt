-- `course::glided_to` meets its contract. Assumes nothing.
use Rattle.course.proofs.glide.glided_to.Goals as goal

pub returns : goal.returns
returns c = rw c.with_made.ensures
