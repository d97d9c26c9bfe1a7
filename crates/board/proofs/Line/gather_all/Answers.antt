-- `board::Line::gather_all` meets its contract. Assumes nothing.
use mathlib.Core.Path.{◌≡◌, sym, ◌∙◌}
use native.Mathlib.Omega.{arith}
use borrow.Author.Tests.{lt-ltb, le-ltb}
use lib.ListN.{length}
use Rattle.board.specs.State.{gathered}
use Rattle.board.proofs.laws.Takes.{lined-stop, lined-next, lined-end}
use Rattle.board.proofs.Line.gather_all.Goals as goal
use Rattle.board.proofs.Line.gather_all.Goals.{else-len-lt80, then-len-lt80}

pub returns-then-b : goal.returns-then-b
returns-then-b c = sym (c.loop-i.invariant ∙ lined-stop _ _ _ c.loop-i-test.true c.if-b.true)

pub loop-i-preserved : goal.loop-i-preserved
unfolding gathered
loop-i-preserved c =
    c.loop-i.invariant
    ∙ lined-next _ _ _ c.loop-i-test.true c.if-b.false
    (elim c.if-len-lt80.branch [ then-len-lt80 w ↦ simp (lt-ltb _ _ w.if-len-lt80.true, w.bytes-is, w.from.ensures, w.len-is, w.over-is) | else-len-lt80 w ↦ simp (le-ltb _ _ w.if-len-lt80.false, w.bytes-is, w.len-is, w.over-is) ])

pub returns : goal.returns
returns c =
    let e : length c.args.input.now ≡ c.loop-i.i = omega arith in
    rw e (sym (c.loop-i.invariant ∙ lined-end _ _ _ c.loop-i-test.false))
