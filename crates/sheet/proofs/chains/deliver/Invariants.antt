-- `sheet::chains::deliver` meets its contract: one link a turn. Assumes nothing.
use mathlib.Core.Path.{◌≡◌}
use mathlib.Core.Bool.{true}
use mathlib.Core.List.{◌++◌}
use lib.IntN.{pos}
use lib.ListN.{length, take, drop}
use Rattle.sheet.specs.Chain.{sum_right}
use Rattle.sheet.specs.work.Links.{fault_from, steps_from}
use Rattle.sheet.proofs.chains.deliver.Given as goal

abbrev pub invariant-loop-i : goal.invariant-loop-i
invariant-loop-i l = record {
  long : length l.steps ≡ length l.thousandths;
  right : sum_right l.sum ≡ true;
  sound : fault_from l.axis l.before l.sum 0 (drop l.i l.thousandths) ≡ 0;
  steps : take l.i l.steps ++ steps_from l.axis l.before l.sum (drop l.i l.thousandths) ≡ steps_from l.axis (pos 0) (pos 0) l.thousandths;
}
