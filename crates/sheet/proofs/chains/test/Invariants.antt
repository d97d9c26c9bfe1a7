-- `sheet::chains::test` meets its contract: one link a turn. Assumes nothing.
use mathlib.Core.Path.{◌≡◌}
use mathlib.Core.Bool.{true}
use lib.IntN.{pos}
use lib.ListN.{drop}
use Rattle.sheet.specs.Chain.{sum_right}
use Rattle.sheet.specs.work.Links.{fault_from}
use Rattle.sheet.proofs.Turns.{fault-after}
use Rattle.sheet.proofs.chains.test.Given as goal

abbrev pub invariant-loop-t : goal.invariant-loop-t
invariant-loop-t l = record {
  right : sum_right l.sum ≡ true;
  fault : fault_from l.axis (pos 0) (pos 0) 0 l.thousandths ≡ fault-after l.axis l.last l.sum (drop l.t-index l.thousandths);
}
