-- `course::lines::put_end` meets its contract. Assumes nothing.
use Rattle.course.proofs.Behind.{wrote_then, end-wrote}
use Rattle.course.specs.Text.{positions_text}
use Rattle.motion.specs.Axes.{on}
use Rattle.count.specs.Text.{shown}
use Rattle.count.specs.Numbers.{value}
use Rattle.count.specs.declared.Axis.{Axis}
use native.Mathlib.Omega.{arith}
use mathlib.Core.List.{◌∷◌}
use Rattle.course.proofs.lines.put_end.Goals as goal

pub returns : goal.returns
unfolding positions_text
returns c = let w = wrote_then (wrote_then (wrote_then (wrote_then (wrote_then c.put_one-e.ensures.0 c.put_field-x.ensures.0) c.put_field-y.ensures.0) c.put_field-z.ensures.0) c.put_last-a.ensures.0) c.put_one-f.ensures.0 in let a = c.args in (end-wrote (λ (i : Axis). 32 ∷ shown (value (on i a.at))) a.turns w, omega (arith, c.put_one-e.ensures.1, c.put_field-x.ensures.1, c.put_field-y.ensures.1, c.put_field-z.ensures.1, c.put_last-a.ensures.1, c.put_one-f.ensures.1))
