-- `join::joining::put_bytes` meets its contract: one byte a turn. Assumes nothing.
use Rattle.std.proofs.Common.{◌≡◌, length}
use Rattle.std.proofs.Math.Seq.{paste}
use Rattle.join.proofs.joining.put_bytes.Given as goal

abbrev pub invariant-loop-i : goal.invariant-loop-i
invariant-loop-i l = (length l.store ≡ length l.initial.store) × (l.store ≡ paste l.initial.store l.at l.other l.i)
