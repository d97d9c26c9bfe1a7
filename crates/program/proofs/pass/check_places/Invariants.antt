-- `program::pass::check_places` meets its contract. Assumes nothing.
use mathlib.Core.Path.{◌≡◌}
use lib.ListN.{length}
use Rattle.program.specs.work.Work.{loop_in, far_in}
use Rattle.program.specs.work.Ranges.{Counts}
use Rattle.program.proofs.pass.check_places.Given as goal

abbrev pub invariant-loop-i : goal.invariant-loop-i
invariant-loop-i l = record { long : length l.notes ≡ 1000; counts : Counts (loop_in l.places.kinds.now) (far_in l.places.offsets.now) l.notes l.i }
