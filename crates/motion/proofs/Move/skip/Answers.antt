-- `motion::Move::skip` meets its contract. Assumes nothing.
use borrow.Author.Tests.{le-leb, lt-leb, lt-ltb, le-ltb}
use Rattle.motion.specs.Next.{skipped}
use Rattle.motion.proofs.Move.skip.Goals as goal

pub returns-then-mark-ge3 : goal.returns-then-mark-ge3
unfolding skipped
returns-then-mark-ge3 c = rw (le-leb _ _ c.if-mark-ge3.true)

pub returns-then-mark-leg_at : goal.returns-then-mark-leg_at
unfolding skipped
returns-then-mark-leg_at c = rw (lt-leb _ _ c.if-mark-ge3.false, ← c.leg_at.ensures, lt-ltb _ _ c.if-mark-leg_at.true)

pub returns : goal.returns
unfolding skipped
returns c = rw (lt-leb _ _ c.if-mark-ge3.false, ← c.leg_at.ensures, le-ltb _ _ c.if-mark-leg_at.false)
