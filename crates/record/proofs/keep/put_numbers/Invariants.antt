-- `record::put_numbers` meets its contract: one number a turn. Assumes nothing.
use Rattle.std.proofs.Common.{◌≡◌, ◌++◌, ◌*◌, length, take, drop}
use Rattle.record.specs.Bytes.{num_bytes}
use Rattle.record.proofs.keep.put_numbers.Given as goal

abbrev pub invariant-loop-i : goal.invariant-loop-i
invariant-loop-i l = (length l.s ≡ length l.initial.s) × (l.s ≡ num_bytes (take l.i l.numbers) ++ drop (4 * l.i) l.initial.s)
