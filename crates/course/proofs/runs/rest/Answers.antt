-- `course::rest` meets its contract. Assumes nothing.
use Rattle.course.proofs.runs.rest.Goals as goal

pub returns : goal.returns
returns c = rw c.runs_now.ensures
