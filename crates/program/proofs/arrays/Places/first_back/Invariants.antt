-- `program::arrays::Places::first_back` meets its contract. Assumes nothing.
use Prim.Native.Nat.{◌-◌, ◌≤◌}
use Rattle.program.specs.work.Work.{loop_in, far_in}
use Rattle.program.specs.work.Ranges.{reach}
use Rattle.program.proofs.laws.Backs.{Passed}
use Rattle.program.proofs.arrays.Places.first_back.Given as goal

abbrev pub invariant-loop-i : goal.invariant-loop-i
invariant-loop-i l = (l.k ≤ l.i) × (l.i ≤ l.self.n) × Passed (reach (loop_in l.self.kinds.now) (far_in l.self.offsets.now) l.s) l.k l.i

abbrev pub decreases-loop-i : goal.decreases-loop-i
decreases-loop-i l = l.self.n - l.i
