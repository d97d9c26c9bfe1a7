-- `travel::plans::plan` meets its contract. Assumes nothing.
use Rattle.travel.specs.Plan.{plan_of}
use Rattle.travel.proofs.plans.plan.Goals as goal

pub returns : goal.returns
unfolding plan_of
returns c = rw (c.as_straight.ensures, c.plan.ensures)
