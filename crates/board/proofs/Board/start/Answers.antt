-- `board::Board::start` meets its contract. Assumes nothing.
use borrow.Author.Tests.{eq-eqb, ne_eqb}
use Rattle.board.specs.work.Work.{started_by}
use Rattle.board.proofs.Board.start.Goals as goal

pub returns-then-self : goal.returns-then-self
unfolding started_by
returns-then-self c = simp (c.if-self.true, c.with_engine.ensures, c.says.ensures)

pub returns-then-e-eq0 : goal.returns-then-e-eq0
unfolding started_by
returns-then-e-eq0 c = simp (c.if-self.false, eq-eqb _ _ c.if-e-eq0.true, c.letter.ensures, c.replies.ensures)

pub returns-then-e : goal.returns-then-e
unfolding started_by
returns-then-e c = simp (c.if-self.false, ne_eqb _ _ c.if-e-eq0.false, ne_eqb _ _ c.if-e.true, c.letter-then-e.ensures, c.replies-then-e.ensures)

pub returns : goal.returns
unfolding started_by
returns c = simp (c.if-self.false, ne_eqb _ _ c.if-e-eq0.false, eq-eqb _ _ c.if-e.false, c.start.ensures, c.with_engine-2.ensures, c.says-2.ensures)
