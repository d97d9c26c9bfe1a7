-- One byte a turn.
use Rattle.std.proofs.Common.{◌≡◌, length}
use lib.Seq.{paste}
use Rattle.reader.specs.Fields.{pairs}
use Rattle.reader.proofs.fields.put_pairs.Given as goal

abbrev pub invariant-loop-i : goal.invariant-loop-i
invariant-loop-i l = record { same : length l.bytes ≡ length l.initial.bytes; put : l.bytes ≡ paste l.initial.bytes 0 (pairs l.field) l.i }
