-- `engine::tick::act_of` meets its contract. Assumes nothing.
use mathlib.Core.Path.{◌∙◌}
use Rattle.engine.proofs.laws.Acts.{act-made, act-over, act-none}
use Rattle.engine.proofs.tick.act_of.Goals as goal

pub returns-in_default : goal.returns-in_default
returns-in_default c = c.rest_of.ensures ∙ act-none _ c.args.at c.under_way.ensures c.in_default.is

pub returns-in-Some-beat : goal.returns-in-Some-beat
returns-in-Some-beat c = act-made _ _ _ _ c.under_way.ensures c.in-Some.is c.beat.ensures c.in-Some-beat.is

pub returns-in-None : goal.returns-in-None
returns-in-None c = c.rest_of-in-None.ensures ∙ act-over _ _ _ c.under_way.ensures c.in-Some.is c.beat.ensures c.in-None.is
