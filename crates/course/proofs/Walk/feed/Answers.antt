-- `course::Walk::feed` meets its contract. Assumes nothing.
use Rattle.course.proofs.laws.Feeds.{feed-stays, feed-goes}
use Rattle.course.proofs.Walk.feed.Goals as goal

pub returns-then-self-taken : goal.returns-then-self-taken
returns-then-self-taken c = feed-stays _ _ c.take-taken.ensures c.if-self-taken.true

pub returns : goal.returns
returns c = feed-goes _ _ c.take-taken.ensures c.if-self-taken.false
