-- `circle::rule::move_by` meets its contract. Assumes nothing.
use mathlib.Core.Path.{sym, ◌∙◌}
use Rattle.circle.proofs.laws.Work.{move-second, move-first, move-one, move-two}
use Rattle.circle.proofs.rule.move_by.Goals as goal

pub returns-then-is_rest : goal.returns-then-is_rest
returns-then-is_rest c = let a = c.args in move-second a.value a.centre.pair a.at.pair a.w (sym c.is_rest.ensures ∙ c.if-is_rest.true)

pub returns-then-is_rest-2 : goal.returns-then-is_rest-2
returns-then-is_rest-2 c = let a = c.args in move-first a.value a.centre.pair a.at.pair a.w (sym c.is_rest.ensures ∙ c.if-is_rest.false) (sym c.is_rest-2.ensures ∙ c.if-is_rest-2.true)

pub returns-then-by_one-by_two : goal.returns-then-by_one-by_two
returns-then-by_one-by_two c = let a = c.args in move-one a.value a.centre.pair a.at.pair a.w (sym c.is_rest.ensures ∙ c.if-is_rest.false) (sym c.is_rest-2.ensures ∙ c.if-is_rest-2.false) c.shifted_by.ensures.0 c.off_by-by_one.ensures c.shifted_by-2.ensures.0 c.off_by-by_two.ensures c.if-by_one-by_two.true

pub returns : goal.returns
returns c = let a = c.args in move-two a.value a.centre.pair a.at.pair a.w (sym c.is_rest.ensures ∙ c.if-is_rest.false) (sym c.is_rest-2.ensures ∙ c.if-is_rest-2.false) c.shifted_by.ensures.0 c.off_by-by_one.ensures c.shifted_by-2.ensures.0 c.off_by-by_two.ensures c.if-by_one-by_two.false
