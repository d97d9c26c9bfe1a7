-- `course::runs_now` meets its contract. Assumes nothing.
use Rattle.course.specs.Run.{runs_now}
use Rattle.course.proofs.runs.runs_now.Goals as goal

pub returns : goal.returns
unfolding runs_now
returns c = rw c.runs.ensures
