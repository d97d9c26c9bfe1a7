-- `engine::Engine::ready` meets its contract. Assumes nothing.
use Rattle.std.proofs.Common.{arith}
use Rattle.engine.proofs.laws.Work.{ready-fits}
use Rattle.engine.proofs.Engine.ready.Goals as goal

pub perform-requires : goal.perform-requires
perform-requires c = ready-fits _ _ _ c.in-Got.ensures (omega arith)

pub returns-in-Got : goal.returns-in-Got
returns-in-Got c = rw (← c.in-Got.ensures) c.perform.ensures

pub returns-in-End : goal.returns-in-End
returns-in-End c = rw (← c.in-End.ensures) c.finish.ensures

pub returns-in-Wrong : goal.returns-in-Wrong
returns-in-Wrong c = rw (← c.in-Wrong.ensures) c.fail.ensures
