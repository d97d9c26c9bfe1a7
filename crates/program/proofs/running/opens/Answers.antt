-- `program::opens` meets its contract. Assumes nothing.
use mathlib.Core.Path.{◌≡◌, sym, ◌∙◌}
use native.Mathlib.Omega.{arith}
use borrow.Author.Tests.{le-leb, lt-leb}
use lib.ListN.{length}
use Rattle.program.specs.Onward.{opens}
use Rattle.program.proofs.laws.Leaps.{top-more, leap-sets}
use borrow.Author.Rules.{rules}
use Rattle.program.proofs.running.opens.Goals as goal

pub returns-then-depth-ge7 : goal.returns-then-depth-ge7
unfolding opens
returns-then-depth-ge7 c = c.stays.ensures ∙ rw (le-leb _ _ c.if-depth-ge7.true)

pub returns : goal.returns
unfolding opens
returns c =
    let long : length c.args.loops.at ≡ 7 = search rules in
    c.sets.ensures ∙ sym (rw (lt-leb _ _ c.if-depth-ge7.false) (leap-sets c.args.loops _ _ _ _ (top-more c.args.loops.depth) (omega arith)))
