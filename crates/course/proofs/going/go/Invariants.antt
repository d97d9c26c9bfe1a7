-- `course::go` meets its contract: each turn is a clock call and the pulses that follow it. Assumes nothing.
use Prim.Native.Nat.{◌-◌, ◌*◌, ◌≤◌}
use lib.ListN.{length}
use Rattle.record.specs.Memory.{memory}
use Rattle.course.proofs.Turns.{RKept}
use Rattle.course.proofs.going.go.Given as goal

abbrev pub invariant-loop-n : goal.invariant-loop-n
invariant-loop-n l = RKept (memory l.store l.table) l.limit l.initial.e l.initial.out l.n l.e l.out l.at × (13 * l.limit ≤ length l.initial.out)

abbrev pub decreases-loop-n : goal.decreases-loop-n
decreases-loop-n l = l.limit - l.n
