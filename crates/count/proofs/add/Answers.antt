-- `count::add` meets its contract: each return by the tests that led there. Assumes nothing.
use mathlib.Core.Path.{sym}
use borrow.Author.Tests.{lt-ltb, le-ltb}
use Rattle.count.proofs.laws.Laws.{added-low, added-high, added-below}
use Rattle.count.proofs.add.Goals as goal

pub returns-then-s-lt16777216 : goal.returns-then-s-lt16777216
returns-then-s-lt16777216 c = simp (added-low c.args.c c.args.w c.if-w-lt2147483648.true, lt-ltb _ _ c.if-s-lt16777216.true)

pub returns-then-w-lt2147483648 : goal.returns-then-w-lt2147483648
returns-then-w-lt2147483648 c = simp (added-low c.args.c c.args.w c.if-w-lt2147483648.true, le-ltb _ _ c.if-s-lt16777216.false)

pub returns-then-c-m : goal.returns-then-c-m
returns-then-c-m c = sym (added-below _ _ c.if-w-lt2147483648.false c.if-c-m.true)

pub returns-then-s-lt-FULL : goal.returns-then-s-lt-FULL
returns-then-s-lt-FULL c = simp (added-high c.args.c c.args.w c.if-w-lt2147483648.false c.if-c-m.false, lt-ltb _ _ c.if-s-lt-FULL.true)

pub returns : goal.returns
returns c = simp (added-high c.args.c c.args.w c.if-w-lt2147483648.false c.if-c-m.false, le-ltb _ _ c.if-s-lt-FULL.false)
