-- `circle::rule::ways_of` meets its contract. Assumes nothing.
use Rattle.circle.specs.Rule.{ways_at}
use Rattle.circle.proofs.rule.ways_of.Goals as goal

pub returns : goal.returns
unfolding ways_at
returns c = rw (c.turned.ensures, c.side_of-y.ensures, c.side_of-x.ensures)
