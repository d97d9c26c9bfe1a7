-- `program::looped` meets its contract. Assumes nothing.
use mathlib.Core.Path.{◌≡◌, ◌∙◌}
use Rattle.std.proofs.Common.{ltb, eqb, ◌&&◌, false}
use borrow.Author.Tests.{lt-ltb, le-ltb, eq-eqb}
use Rattle.program.specs.Onward.{looped, last_of}
use Rattle.program.proofs.Steps.{none_open, last-other}
use Rattle.program.proofs.running.looped.Goals as goal
use Rattle.program.proofs.running.looped.Goals.{then-depth-gt0+else-last-place, else-depth-gt0}

pub returns-then-depth-gt7 : goal.returns-then-depth-gt7
unfolding looped
returns-then-depth-gt7 c = c.stays.ensures ∙ rw (lt-ltb _ _ c.if-depth-gt7.true)

pub returns-then-last-place : goal.returns-then-last-place
unfolding looped
returns-then-last-place c = c.again.ensures ∙ rw (le-ltb _ _ c.if-depth-gt7.false, lt-ltb _ _ c.if-depth-gt0.true, ← c.entry-last.ensures, eq-eqb _ _ c.if-last-place.true)

pub returns : goal.returns
unfolding looped
returns c =
    let last : ltb 0 c.args.loops.depth && eqb (last_of c.args.loops).place c.args.place ≡ false =
    elim c.if-depth-gt0.branch [ then-depth-gt0+else-last-place w ↦ last-other c.args.loops _ w.entry-last.ensures w.if-last-place.false | else-depth-gt0 w ↦ none_open c.args.loops _ w.if-depth-gt0.false ] in
    c.opens.ensures ∙ rw (le-ltb _ _ c.if-depth-gt7.false, last)
