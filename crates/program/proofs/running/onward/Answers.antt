-- `program::onward` meets its contract. Assumes nothing.
use Rattle.program.proofs.laws.Leaps.{leap-made}
use Rattle.program.proofs.running.onward.Goals as goal

pub returns : goal.returns
returns c = leap-made _ _ _ _ _ c.leap-w.ensures c.loops.ensures
