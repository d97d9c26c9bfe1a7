-- `program::again` meets its contract. Assumes nothing.
use mathlib.Core.Path.{◌≡◌, sym, ◌∙◌}
use native.Mathlib.Omega.{arith}
use borrow.Author.Tests.{eq-eqb, ne_eqb}
use lib.ListN.{length}
use Rattle.program.specs.Onward.{again}
use Rattle.program.proofs.laws.Leaps.{top-same, top-less, leap-sets}
use borrow.Author.Rules.{rules}
use Rattle.program.proofs.running.again.Goals as goal

pub returns-then-left-eq0 : goal.returns-then-left-eq0
unfolding again
returns-then-left-eq0 c =
    let long : length c.args.loops.at ≡ 7 = search rules in
    c.sets.ensures
    ∙ sym (rw (← c.entry-left.ensures, eq-eqb _ _ c.if-left-eq0.true) (leap-sets c.args.loops _ _ _ _ (top-less c.args.loops.depth) (omega arith)))

pub returns : goal.returns
unfolding again
returns c =
    let long : length c.args.loops.at ≡ 7 = search rules in
    c.sets-2.ensures
    ∙ sym (rw (← c.entry-left.ensures, ne_eqb _ _ c.if-left-eq0.false) (leap-sets c.args.loops _ _ _ _ (top-same c.args.loops.depth) (omega arith)))
