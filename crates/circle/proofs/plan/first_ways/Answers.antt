-- `circle::plan::first_ways` meets its contract. Assumes nothing.
use Rattle.circle.specs.Plan.{first_ways}
use Rattle.circle.proofs.plan.first_ways.Goals as goal

pub returns : goal.returns
unfolding first_ways
returns c = rw (c.or_else-2.ensures, c.or_else.ensures, c.ways_of-later.ensures, c.shifted_by.ensures.0, c.ways_of-w.ensures, c.at_centre-centre.ensures)
