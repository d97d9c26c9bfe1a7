-- `circle::plan::direction_of` meets its contract. Assumes nothing.
use Rattle.circle.specs.Plan.{direction_of}
use borrow.Author.Tests.{eq-eqb, ne_eqb}
use Rattle.circle.proofs.plan.direction_of.Goals as goal

pub returns-then-w-eq0 : goal.returns-then-w-eq0
unfolding direction_of
returns-then-w-eq0 c = rw (eq-eqb c.args.w 0 c.if-w-eq0.true)

pub returns : goal.returns
unfolding direction_of
returns c = rw (ne_eqb c.args.w 0 c.if-w-eq0.false)
