-- `line::past_space` meets its contract: past one space. Assumes nothing.
use borrow.Author.Tests.{ne_eqb}
use lib.ListN.{drop_of_length-le}
use Rattle.count.proofs.laws.Lists.{next}
use Rattle.line.specs.work.Reading.{spaced}
use Rattle.line.proofs.numbers.past_space.Goals as goal
use Rattle.line.proofs.numbers.past_space.Goals.{else-at-s-via-then-at-s+else-s-at-eq32, else-at-s-via-else-at-s}

pub returns-then-s-at-eq32 : goal.returns-then-s-at-eq32
unfolding spaced
returns-then-s-at-eq32 c =
    rw (next c.args.s.now c.args.at c.if-at-s.true, c.if-s-at-eq32.true)

pub returns-else-at-s : goal.returns-else-at-s
unfolding spaced
returns-else-at-s c = elim c.else-at-s.branch [
  | else-at-s-via-then-at-s+else-s-at-eq32 w ↦ rw (next c.args.s.now c.args.at w.if-at-s.true, ne_eqb _ _ w.if-s-at-eq32.false)
  | else-at-s-via-else-at-s w ↦ rw (drop_of_length-le c.args.s.now w.if-at-s.false)
]
