-- `circle::plan::way_word` meets its contract. Assumes nothing.
use Rattle.count.specs.Numbers.{word}
use Rattle.circle.proofs.plan.way_word.Goals as goal

pub returns-in-Minus : goal.returns-in-Minus
unfolding word
returns-in-Minus c = rw c.in-Minus.is

pub returns-in-Rest : goal.returns-in-Rest
unfolding word
returns-in-Rest c = rw c.in-Rest.is

pub returns-in-Plus : goal.returns-in-Plus
unfolding word
returns-in-Plus c = rw c.in-Plus.is
