-- `motion::route::first_speed` meets its contract. Assumes nothing.
use Rattle.motion.specs.Plan.{first_speed}
use Rattle.motion.proofs.route.first_speed.Goals as goal

pub returns : goal.returns
unfolding first_speed
returns c = rw (c.chosen-2.ensures, c.chosen.ensures, c.distance-2.ensures, c.distance.ensures)
