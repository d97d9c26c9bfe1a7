-- `engine::tick::look_at` meets its contract. Assumes nothing.
use mathlib.Core.Path.{ap, sym, ◌∙◌}
use Rattle.motion.specs.declared.Look.{Look}
use Rattle.engine.specs.work.Acts.{look_act}
use Rattle.engine.proofs.laws.Acts.{look-so, look_none}
use Rattle.engine.proofs.tick.look_at.Goals as goal

pub returns-in_default : goal.returns-in_default
returns-in_default c = c.rest_of.ensures ∙ look_none _ c.args.at c.under_way.ensures c.in_default.is

pub returns-in-Wrong : goal.returns-in-Wrong
returns-in-Wrong c = ap (λ (x : Look). look_act x c.args.job) (sym c.in-Wrong.is) ∙ look-so _ _ _ c.under_way.ensures c.in-Some.is c.look.ensures

pub returns-in-Made : goal.returns-in-Made
returns-in-Made c = ap (λ (x : Look). look_act x c.args.job) (sym c.in-Made.is) ∙ look-so _ _ _ c.under_way.ensures c.in-Some.is c.look.ensures

pub returns-in-Over : goal.returns-in-Over
returns-in-Over c = c.rest_of-in-Over.ensures ∙ ap (λ (x : Look). look_act x c.args.job) (sym c.in-Over.is) ∙ look-so _ _ _ c.under_way.ensures c.in-Some.is c.look.ensures
