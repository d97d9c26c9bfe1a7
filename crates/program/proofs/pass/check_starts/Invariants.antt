-- `program::pass::check_starts` meets its contract. Assumes nothing.
use Rattle.program.specs.work.Work.{loop_in, far_in}
use Rattle.program.proofs.Notes.{Noted}
use Rattle.program.proofs.pass.check_starts.Given as goal

abbrev pub invariant-loop-i : goal.invariant-loop-i
invariant-loop-i l = Noted (loop_in l.places.kinds.now) (far_in l.places.offsets.now) l.notes l.places.n l.i
