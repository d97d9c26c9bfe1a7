-- `course::put_one` meets its contract. Assumes nothing.
use mathlib.Core.Path.{refl}
use mathlib.Core.List.{[], ◌∷◌}
use native.Mathlib.Omega.{arith}
use lib.Seq.{sets-eq}
use Rattle.course.proofs.lines.put_one.Goals as goal

pub returns : goal.returns
returns c = (record { long = refl; text = sets-eq (_ ∷ []) c.args.out.now 0 (omega arith) }, refl)
