-- `count::has` meets its contract. Assumes nothing.
use Rattle.count.proofs.axes.has.Goals as goal

pub returns : goal.returns
returns c = rw (c.is_named.ensures, c.part_of.ensures.0)
