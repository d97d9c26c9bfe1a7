-- `record::record_at` meets its contract. Assumes nothing.
use Rattle.std.proofs.Common.{sym, ◌∙◌}
use Rattle.record.proofs.laws.Work.{at-past, at_part}
use Rattle.record.proofs.bytes.record_at.Goals as goal

pub returns-then-end-at : goal.returns-then-end-at
returns-then-end-at c =
    let a = c.args in
    sym (at-past a.held a.store.now a.at c.end-end.ensures c.if-end-at.true)

pub returns : goal.returns
returns c =
    let a = c.args in
    c.record_in.ensures ∙ at_part a.held a.store.now a.at c.end-end.ensures
