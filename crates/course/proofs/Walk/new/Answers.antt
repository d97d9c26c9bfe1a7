-- `course::Walk::new` meets its contract. Assumes nothing.
use Rattle.course.proofs.Walk.new.Goals as goal

pub returns : goal.returns
returns c = rw c.fresh.ensures
