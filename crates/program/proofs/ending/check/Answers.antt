-- `program::check` meets its contract. Assumes nothing.
use mathlib.Core.Path.{◌∙◌}
use Rattle.program.proofs.Gather.{all_read, not-read}
use Rattle.program.proofs.Reading.{too_many, unreadable, verdict-read}
use Rattle.program.proofs.ending.check.Goals as goal

pub returns-then-n-gt1000 : goal.returns-then-n-gt1000
returns-then-n-gt1000 c = too_many _ _ c.if-n-gt1000.true

pub returns-then-decode : goal.returns-then-decode
returns-then-decode c =
    let few = c.if-n-gt1000.false in
    c.check_places.ensures ∙ verdict-read _ _ _ _ few (all_read _ _ few _ _ c.if-decode.true c.decode.ensures)

pub returns : goal.returns
returns c =
    let few = c.if-n-gt1000.false in
    unreadable _ _ few (not-read _ _ few _ _ c.if-decode.false c.decode.ensures)
