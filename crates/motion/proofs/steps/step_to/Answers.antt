-- `motion::steps::step_to` meets its contract. Assumes nothing.
use mathlib.Core.Path.{sym, ◌∙◌}
use Rattle.motion.proofs.laws.Steps.{steps-room, tested, to_made, to_none}
use Rattle.motion.proofs.steps.step_to.Goals as goal

pub with_pulse-requires : goal.with_pulse-requires
with_pulse-requires c = steps-room c.args.c c.args.s (sym (tested c.args.c c.args.s c.has_step-x.ensures c.has_step-y.ensures c.has_step-z.ensures c.has_step-a.ensures) ∙ c.if-x-y.true)

pub returns-then-x-y : goal.returns-then-x-y
returns-then-x-y c = to_made c.args.c c.args.s c.has_step-x.ensures c.has_step-y.ensures c.has_step-z.ensures c.has_step-a.ensures c.if-x-y.true c.with_pulse.ensures

pub returns : goal.returns
returns c = to_none c.args.c c.args.s c.has_step-x.ensures c.has_step-y.ensures c.has_step-z.ensures c.has_step-a.ensures c.if-x-y.false
