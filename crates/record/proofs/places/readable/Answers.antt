-- `record::readable` meets its contract. Assumes nothing.
use Rattle.record.proofs.laws.Walk.{readable-here}
use Rattle.record.proofs.places.readable.Goals as goal

pub returns-in-Some : goal.returns-in-Some
returns-in-Some c =
    let a = c.args in
    rw c.from.ensures (readable-here a.held a.store.now c.end-end.ensures c.in-Some.ensures)

pub returns-in-None : goal.returns-in-None
returns-in-None c =
    let a = c.args in
    readable-here a.held a.store.now c.end-end.ensures c.in-None.ensures
