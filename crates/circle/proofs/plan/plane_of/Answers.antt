-- `circle::plan::plane_of` meets its contract. Assumes nothing.
use Rattle.circle.specs.Plan.{plane_of}
use borrow.Author.Tests.{ne_eqb}
use Rattle.circle.proofs.plan.plane_of.Goals as goal

pub returns-in-0 : goal.returns-in-0
unfolding plane_of
returns-in-0 c = rw c.in-0.is

pub returns-in-1 : goal.returns-in-1
unfolding plane_of
returns-in-1 c = rw c.in-1.is

pub returns-in_default : goal.returns-in_default
unfolding plane_of
returns-in_default c = let k = c.in_default.in_default-own.rest in simp (ne_eqb _ _ k.1, ne_eqb _ _ k.0.1)
