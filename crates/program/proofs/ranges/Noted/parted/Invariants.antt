-- `program::ranges::Noted::parted` meets its contract. Assumes nothing.
use Prim.Native.Nat.{◌+◌, ◌-◌, ◌≤◌}
use Rattle.program.specs.work.Work.{loop_in, far_in}
use Rattle.program.proofs.laws.Backs.{Alike}
use Rattle.program.proofs.ranges.Noted.parted.Given as goal

abbrev pub invariant-loop-k : goal.invariant-loop-k
invariant-loop-k l = (l.hi ≤ l.k) × (l.k ≤ l.self.places.n + 1) × Alike (loop_in l.self.places.kinds.now) (far_in l.self.places.offsets.now) l.self.places.n l.lo l.hi l.k

abbrev pub decreases-loop-k : goal.decreases-loop-k
decreases-loop-k l = l.self.places.n + 1 - l.k
