-- `circle::Arc::left` meets its contract. Assumes nothing.
use Rattle.circle.specs.Arc.{arc_left}
use Rattle.circle.proofs.Arc.left.Goals as goal

pub returns : goal.returns
unfolding arc_left
returns c = c.saturating_sub.ensures
