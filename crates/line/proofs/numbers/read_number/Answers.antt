-- `line::read_number` meets its contract: an optional minus and then digits. Assumes nothing.
use mathlib.Core.Path.{◌∙◌}
use borrow.Author.Tests.{ne_eqb}
use lib.ListN.{drop_of_length-le}
use Rattle.count.proofs.laws.Lists.{next}
use Rattle.line.specs.work.Reading.{reading, item_from}
use Rattle.line.proofs.numbers.read_number.Goals as goal

pub returns-then-s-at : goal.returns-then-s-at
unfolding item_from reading
returns-then-s-at c = rw (drop_of_length-le c.args.s.now c.if-s-at.true)

pub returns-then-s-at-eq45 : goal.returns-then-s-at-eq45
unfolding item_from
returns-then-s-at-eq45 c =
    rw (next c.args.s.now c.args.at c.if-s-at.false, c.if-s-at-eq45.true)
    c.read_digits.ensures

pub returns : goal.returns
unfolding item_from
returns c =
    rw (next c.args.s.now c.args.at c.if-s-at.false, ne_eqb _ _ c.if-s-at-eq45.false)
    (c.read_digits-2.ensures ∙ rw (next c.args.s.now c.args.at c.if-s-at.false))
