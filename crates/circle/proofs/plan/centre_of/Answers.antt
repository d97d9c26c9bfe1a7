-- `circle::plan::centre_of` meets its contract. Assumes nothing.
use Rattle.circle.specs.Plan.{centre_of}
use Rattle.circle.proofs.plan.centre_of.Goals as goal

pub returns : goal.returns
unfolding centre_of
returns c = rw (c.less_by-2.ensures, c.less_by.ensures)
