-- `circle::plan::start_of` meets its contract. Assumes nothing.
use Rattle.circle.proofs.laws.Work.{arc-starts}
use Rattle.circle.proofs.plan.start_of.Goals as goal

pub start_count-first-requires : goal.start_count-first-requires
start_count-first-requires c = (arc-starts c.args.words c.requires).0

pub start_count-second-requires : goal.start_count-second-requires
start_count-second-requires c = (arc-starts c.args.words c.requires).1

pub returns : goal.returns
returns c = rw (c.start_count-second.ensures.0, c.start_count-first.ensures.0)
