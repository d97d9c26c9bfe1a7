-- `circle::plan::bend` meets its contract. Assumes nothing.
use mathlib.Core.Path.{sym, ◌∙◌}
use Rattle.circle.proofs.laws.Work.{bend-plane, bend-wrong, bend-unfit, bend-slow, bend-on, speed-small}
use Rattle.circle.proofs.plan.bend.Goals as goal

pub returns-then-not-plane_set : goal.returns-then-not-plane_set
returns-then-not-plane_set c = let a = c.args in bend-plane a.axes a.circling a.at a.words (sym c.plane_set.ensures ∙ c.if-not-plane_set.true)

pub returns-then-not-right_arc : goal.returns-then-not-right_arc
returns-then-not-right_arc c = let a = c.args in bend-wrong a.axes a.circling a.at a.words (sym c.plane_set.ensures ∙ c.if-not-plane_set.false) (sym c.right_arc.ensures ∙ c.if-not-right_arc.true)

pub start_of-start-requires : goal.start_of-start-requires
start_of-start-requires c = sym c.right_arc.ensures ∙ c.if-not-right_arc.false

pub returns-then-not-ways_fit : goal.returns-then-not-ways_fit
returns-then-not-ways_fit c = let a = c.args in bend-unfit a.axes a.circling a.at a.words (sym c.plane_set.ensures ∙ c.if-not-plane_set.false) (sym c.right_arc.ensures ∙ c.if-not-right_arc.false) c.start_of-start.ensures c.first_ways.ensures c.ways_fit.ensures c.if-not-ways_fit.true

pub returns-then-not-is_speed : goal.returns-then-not-is_speed
returns-then-not-is_speed c = let a = c.args in bend-slow a.axes a.circling a.at a.words (sym c.plane_set.ensures ∙ c.if-not-plane_set.false) (sym c.right_arc.ensures ∙ c.if-not-right_arc.false) c.start_of-start.ensures c.first_ways.ensures c.ways_fit.ensures c.if-not-ways_fit.false (sym c.is_speed.ensures ∙ c.if-not-is_speed.true)

pub bend_by-requires : goal.bend_by-requires
bend_by-requires c = speed-small c.args.words (sym c.is_speed.ensures ∙ c.if-not-is_speed.false)

pub returns : goal.returns
returns c = let a = c.args in bend-on a.axes a.circling a.at a.words (sym c.plane_set.ensures ∙ c.if-not-plane_set.false) (sym c.right_arc.ensures ∙ c.if-not-right_arc.false) c.start_of-start.ensures c.first_ways.ensures c.ways_fit.ensures c.if-not-ways_fit.false (sym c.is_speed.ensures ∙ c.if-not-is_speed.false) c.bend_by.ensures
