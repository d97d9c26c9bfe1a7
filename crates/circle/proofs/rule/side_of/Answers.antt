-- `circle::rule::side_of` meets its contract. Assumes nothing.
use borrow.Author.Tests.{lt-ltb, le-ltb}
use Rattle.circle.specs.Rule.{side}
use Rattle.circle.proofs.rule.side_of.Goals as goal

pub returns-then-at-centre : goal.returns-then-at-centre
unfolding side
returns-then-at-centre c = let a = c.args in rw (lt-ltb a.at a.centre c.if-at-centre.true)

pub returns-then-centre-at : goal.returns-then-centre-at
unfolding side
returns-then-centre-at c = let a = c.args in rw (le-ltb a.at a.centre c.if-at-centre.false, lt-ltb a.centre a.at c.if-centre-at.true)

pub returns : goal.returns
unfolding side
returns c = let a = c.args in rw (le-ltb a.at a.centre c.if-at-centre.false, le-ltb a.centre a.at c.if-centre-at.false)
