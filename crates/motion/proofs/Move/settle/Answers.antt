-- `motion::Move::settle` meets its contract. Assumes nothing.
use Rattle.motion.proofs.laws.Beats.{settled-left, settled_on}
use Rattle.motion.proofs.Move.settle.Goals as goal

pub returns-then-self-leg_at : goal.returns-then-self-leg_at
returns-then-self-leg_at c = settled-left c.args.self c.mark-mark.ensures c.leg_at.ensures c.if-self-leg_at.true

pub returns : goal.returns
returns c = settled_on c.args.self c.mark-mark.ensures c.skip.ensures c.skip-2.ensures c.skip-3.ensures
