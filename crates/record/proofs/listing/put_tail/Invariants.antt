-- `record::put_tail` meets its contract: one number a turn. Assumes nothing.
use Rattle.std.proofs.Common.{drop}
use Rattle.record.proofs.laws.Writing.{Writing}
use Rattle.record.specs.work.Writing.{line_left}
use Rattle.record.proofs.listing.put_tail.Given as goal

abbrev pub invariant-loop-i : goal.invariant-loop-i
invariant-loop-i l = Writing (line_left 0 l.numbers) l.initial.text l.text l.at (line_left l.i (drop l.i l.numbers))
