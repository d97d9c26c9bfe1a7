-- `program::accepting::told` meets its contract. Assumes nothing.
use mathlib.Core.Path.{◌∙◌}
use Rattle.program.specs.work.Edges.{kind_is}
use Rattle.program.specs.work.Work.{far_in}
use Rattle.program.proofs.Reading.{leads-any}
use Rattle.program.proofs.accepting.told.Goals as goal

pub returns-in-Ok : goal.returns-in-Ok
returns-in-Ok c =
    let ks = c.args.places.now.kinds.now in
    let far = far_in c.args.places.now.offsets.now in
    let a = c.leads.ensures ∙ leads-any (kind_is ks 2) far _ _ in
    let b = c.leads-in-Ok.ensures ∙ leads-any (kind_is ks 1) far _ _ in
    rw (← c.in-Ok.ensures, a, b, c.mark_of.ensures, c.mark_of-in-Ok.ensures)
