-- `board::Line::gather` meets its contract. Assumes nothing.
use borrow.Author.Tests.{lt-ltb, le-ltb}
use Rattle.board.specs.State.{gathered}
use Rattle.board.proofs.Line.gather.Goals as goal

pub returns-then-len-lt80 : goal.returns-then-len-lt80
unfolding gathered
returns-then-len-lt80 c = simp (lt-ltb _ _ c.if-len-lt80.true)

pub returns : goal.returns
unfolding gathered
returns c = simp (le-ltb _ _ c.if-len-lt80.false)
