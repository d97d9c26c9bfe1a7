-- `engine::Engine::tick` meets its contract. Assumes nothing.
use Rattle.record.specs.Memory.{memory}
use Rattle.record.specs.Table.{fetch_of}
use Rattle.engine.proofs.laws.Acts.{acted-is-ticked}
use Rattle.engine.proofs.Engine.tick.Goals as goal

pub returns : goal.returns
returns c =
    let a = c.args in
    rw (c.act.ensures, c.act_of.ensures) (acted-is-ticked (fetch_of a.self.held (memory a.store.now a.table.now)) a.self)
