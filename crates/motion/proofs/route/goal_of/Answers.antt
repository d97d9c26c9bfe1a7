-- `motion::route::goal_of` meets its contract. Assumes nothing.
use Rattle.motion.specs.Plan.{goal}
use Rattle.motion.proofs.route.goal_of.Goals as goal

pub returns-then-absolute : goal.returns-then-absolute
unfolding goal
returns-then-absolute c = rw (c.if-absolute.true, c.add.ensures)

pub returns : goal.returns
unfolding goal
returns c = rw (c.if-absolute.false, c.add-2.ensures)
