-- `program::ranges::Noted::first_fault` meets its contract. Assumes nothing.
use Prim.Native.Nat.{◌-◌, ◌≤◌}
use mathlib.Core.Path.{◌≡◌}
use Rattle.program.specs.Check.{tally, fault_from}
use Rattle.program.specs.work.Marks.{letter, checked}
use Rattle.program.specs.work.Work.{loop_in, turn_in, far_in}
use Rattle.program.specs.work.Ranges.{goes_on}
use Rattle.program.proofs.ranges.Noted.first_fault.Given as goal

abbrev pub invariant-loop-p : goal.invariant-loop-p
invariant-loop-p l = record {
  few : l.on ≤ l.self.places.n;
  on : l.on ≡ tally l.self.places.n (goes_on (loop_in l.self.places.kinds.now) (far_in l.self.places.offsets.now) l.p);
  left : checked (loop_in l.self.places.kinds.now) (turn_in l.self.places.kinds.now) (far_in l.self.places.offsets.now) l.self.places.n ≡ fault_from (letter (loop_in l.self.places.kinds.now) (turn_in l.self.places.kinds.now) (far_in l.self.places.offsets.now) l.self.places.n) (l.self.places.n - l.p) l.p;
}
