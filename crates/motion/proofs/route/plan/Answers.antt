-- `motion::route::plan` meets its contract. Assumes nothing.
use mathlib.Core.Path.{sym, ◌∙◌}
use Rattle.count.specs.Ranges.{right_distances, right_speeds}
use Rattle.count.proofs.laws.Truth.{and_right}
use Rattle.motion.specs.Plan.{plan_of}
use Rattle.motion.proofs.route.plan.Goals as goal

pub routed_from-requires : goal.routed_from-requires
routed_from-requires c = let a = c.args in and_right (right_distances a.axes a.absolute a.words) (right_speeds a.axes a.words) (sym c.right.ensures ∙ c.if-right.true)

pub returns-then-right : goal.returns-then-right
unfolding plan_of
returns-then-right c = rw (← c.right.ensures, c.if-right.true, c.routed_from.ensures)

pub returns : goal.returns
unfolding plan_of
returns c = rw (← c.right.ensures, c.if-right.false)
