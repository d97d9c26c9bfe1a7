-- `record::put_starts` meets its contract: one entry a turn. Assumes nothing.
use Rattle.std.proofs.Common.{◌≡◌, ◌≤◌, length}
use Rattle.std.proofs.Math.Seq.{paste}
use Rattle.record.specs.Places.{records_from}
use Rattle.record.specs.Table.{starts_of}
use Rattle.record.proofs.laws.Fills.{Starting}
use Rattle.record.proofs.table.put_starts.Given as goal

abbrev pub invariant-loop-i : goal.invariant-loop-i
invariant-loop-i l = (l.at ≤ length l.s) × (length l.table ≡ length l.initial.table) × (l.table ≡ paste l.initial.table 0 (starts_of (records_from l.axes l.n l.s)) l.i) × Starting l.axes l.n l.s l.at l.i
