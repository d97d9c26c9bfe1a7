-- `program::pass::check_places` meets its contract. Assumes nothing.
use native.Mathlib.Omega.{arith}
use lib.ListN.{length-set}
use Rattle.program.proofs.Notes.{counts-none, counts-more}
use Rattle.program.proofs.pass.check_places.Goals as goal

pub loop-i-init : goal.loop-i-init
loop-i-init c = record { long = omega arith; counts = counts-none _ _ }

pub loop-i-preserved : goal.loop-i-preserved
loop-i-preserved c =
    let x = rw c.from-at.ensures at c.fuller.ensures in
    record {
      long = simp length-set c.loop-i.invariant.long;
      counts = rw c.from-at.ensures (counts-more _ _ _ _ _ _ c.loop-i.invariant.long (omega arith) c.loop-i.invariant.counts c.opening.ensures.0 c.is_range.ensures x);
    }
