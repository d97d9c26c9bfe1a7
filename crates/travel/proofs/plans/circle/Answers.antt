-- `travel::plans::circle` meets its contract. Assumes nothing.
use Rattle.travel.specs.Plan.{circle_of}
use Rattle.travel.proofs.plans.circle.Goals as goal

pub returns : goal.returns
unfolding circle_of
returns c = rw (c.as_round.ensures, c.bend.ensures)
