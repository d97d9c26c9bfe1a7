-- `program::aimed` meets its contract. Assumes nothing.
use mathlib.Core.Path.{sym, ap, ◌∙◌}
use borrow.Author.Tests.{lt-ltb, le-ltb, eq-eqb, ne_eqb}
use Rattle.program.specs.work.Leap.{leap_by}
use Rattle.program.proofs.laws.Target.{aimed-in, aimed-out}
use Rattle.program.proofs.running.aimed.Goals as goal

pub returns-in_default : goal.returns-in_default
returns-in_default c = c.stays.ensures ∙ ap (leap_by c.args.loops) (sym (aimed-out _ _ _ _ _ (sym c.target_of.ensures ∙ c.in_default.is)))

pub returns-then-item-eq50 : goal.returns-then-item-eq50
returns-then-item-eq50 c =
    c.stays-then-item-eq50.ensures
    ∙ sym (ap (leap_by c.args.loops) (aimed-in _ _ _ _ _ _ (sym c.target_of.ensures ∙ c.in-Some.is)) ∙ rw (eq-eqb _ _ c.if-item-eq50.true))

pub returns-then-number-eq0 : goal.returns-then-number-eq0
returns-then-number-eq0 c =
    c.stays-then-number-eq0.ensures
    ∙ sym (ap (leap_by c.args.loops) (aimed-in _ _ _ _ _ _ (sym c.target_of.ensures ∙ c.in-Some.is)) ∙ rw (ne_eqb _ _ c.if-item-eq50.false, eq-eqb _ _ c.if-number-eq0.true))

pub returns-then-number-gt32767 : goal.returns-then-number-gt32767
returns-then-number-gt32767 c =
    c.stays-then-number-gt32767.ensures
    ∙ sym (ap (leap_by c.args.loops) (aimed-in _ _ _ _ _ _ (sym c.target_of.ensures ∙ c.in-Some.is)) ∙ rw (ne_eqb _ _ c.if-item-eq50.false, ne_eqb _ _ c.if-number-eq0.false, lt-ltb _ _ c.if-number-gt32767.true))

pub returns : goal.returns
returns c =
    c.looped.ensures
    ∙ sym (ap (leap_by c.args.loops) (aimed-in _ _ _ _ _ _ (sym c.target_of.ensures ∙ c.in-Some.is)) ∙ rw (ne_eqb _ _ c.if-item-eq50.false, ne_eqb _ _ c.if-number-eq0.false, le-ltb _ _ c.if-number-gt32767.false))
