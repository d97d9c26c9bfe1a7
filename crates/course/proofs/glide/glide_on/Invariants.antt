-- `course::glide_on` meets its contract: the loop of `Pulses`. What moves is what was given with other pulses made. Assumes nothing.
use Prim.Native.Nat.{◌*◌, ◌≤◌}
use lib.ListN.{length}
use Rattle.travel.specs.work.Beat.{with_made}
use Rattle.course.proofs.Pulses.{GKept}
use Rattle.course.proofs.glide.glide_on.Given as goal

abbrev pub invariant-loop-n : goal.invariant-loop-n
invariant-loop-n g l = GKept l.turns l.limit (g.P.Pulses.travel l.start) l.initial.at l.initial.out l.n (with_made (g.P.Pulses.travel l.start) l.made) l.at l.out l.k × (13 * l.limit ≤ length l.initial.out)
