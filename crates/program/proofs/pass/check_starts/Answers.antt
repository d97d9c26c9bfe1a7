-- `program::pass::check_starts` meets its contract. Assumes nothing.
use Prim.Native.Nat.{◌-◌}
use native.Mathlib.Omega.{arith}
use Rattle.program.specs.work.Work.{loop_in, far_in}
use Rattle.program.proofs.laws.Backs.{start-most}
use Rattle.program.proofs.Notes.{backs-from}
use Rattle.program.proofs.pass.check_starts.Goals as goal

pub first_back-b-requires : goal.first_back-b-requires
first_back-b-requires c =
    let a = c.args in
    let s = c.start_of-s.ensures in
    let m = start-most (loop_in a.places.now.kinds.now) (far_in a.places.now.offsets.now) (c.loop-i.i - 1) in
    (backs-from _ _ _ _ _ _ (omega arith) c.loop-i.invariant.backs, omega arith, omega arith)
