-- `circle::rule::measured` meets its contract. Assumes nothing.
use Rattle.circle.specs.Rule.{measure}
use Rattle.circle.proofs.rule.measured.Goals as goal

pub returns : goal.returns
unfolding measure
returns c = rw (c.square-2.ensures.0, c.square.ensures.0, c.distance-y.ensures, c.distance-x.ensures)
