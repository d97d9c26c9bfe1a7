-- `circle::plan::start_count` meets its contract. Assumes nothing.
use native.Mathlib.Omega.{arith}
use Rattle.count.proofs.laws.Laws.{signed_low, signed_high}
use Rattle.circle.proofs.laws.Work.{start-low, start-high}
use Rattle.circle.proofs.plan.start_count.Goals as goal

pub returns-then-w-lt2147483648 : goal.returns-then-w-lt2147483648
returns-then-w-lt2147483648 c = let w = c.args.w in let h = start-low w c.if-w-lt2147483648.true c.requires in (rw (signed_low w c.if-w-lt2147483648.true), omega arith)

pub overflow_sub-result : goal.overflow_sub-result
overflow_sub-result c = let h = start-high c.args.w c.if-w-lt2147483648.false c.requires in omega arith

pub returns : goal.returns
returns c = let w = c.args.w in let h = start-high w c.if-w-lt2147483648.false c.requires in (rw (signed_high w c.if-w-lt2147483648.false) (omega arith), omega arith)
