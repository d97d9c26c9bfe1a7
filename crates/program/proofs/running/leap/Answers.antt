-- `program::leap` meets its contract. Assumes nothing.
use mathlib.Core.Path.{sym, ap, ◌∙◌}
use borrow.Author.Tests.{le-leb}
use Rattle.program.specs.Onward.{onward_of}
use Rattle.program.specs.work.Leap.{leap_by, leap_of}
use Rattle.program.proofs.laws.Leaps.{onward-by}
use Rattle.program.proofs.running.leap.Goals as goal

pub returns-then-end-place : goal.returns-then-end-place
unfolding leap_of onward_of
returns-then-end-place c = c.stays.ensures ∙ rw (le-leb _ _ c.if-end-place.true)

pub returns-then-item : goal.returns-then-item
unfolding leap_of
returns-then-item c = c.aimed.ensures ∙ sym (ap (leap_by c.args.loops) (onward-by _ _ _ c.args.loops c.if-end-place.false) ∙ rw c.if-item.true)

pub returns : goal.returns
unfolding leap_of
returns c = c.stays-2.ensures ∙ sym (ap (leap_by c.args.loops) (onward-by _ _ _ c.args.loops c.if-end-place.false) ∙ rw c.if-item.false)
