-- `program::ending::decode` meets its contract. Assumes nothing.
use Prim.Native.Nat.{◌-◌, ◌*◌, ◌≤◌}
use mathlib.Core.Path.{◌≡◌}
use Rattle.record.specs.Places.{records_of}
use Rattle.program.specs.work.Decode.{arrays_on}
use Rattle.program.proofs.Gather.{walk}
use Rattle.program.proofs.ending.decode.Given as goal

abbrev pub invariant-loop-i : goal.invariant-loop-i
invariant-loop-i l = record {
  near : l.at ≤ 65536 * l.i;
  left : arrays_on (records_of l.held l.store) ≡ walk l.held l.store (l.held.records - l.i) l.at l.i l.kinds l.offsets;
}
