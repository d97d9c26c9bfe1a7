-- `motion::Move::after` meets its contract. Assumes nothing.
use native.Mathlib.Omega.{arith}
use borrow.Author.Tests.{ne_eqb}
use Rattle.motion.specs.Next.{after_of}
use Rattle.motion.proofs.laws.Pulses.{pulses-small}
use Rattle.motion.proofs.Move.after.Goals as goal

pub overflow_add-result : goal.overflow_add-result
overflow_add-result c = let a = c.args.self in omega (arith, c.pulses_of.ensures, c.pulses_of-last.ensures, pulses-small a.first a.second, pulses-small a.second a.third)

pub returns-in-0 : goal.returns-in-0
unfolding after_of
returns-in-0 c = rw (c.in-0.is, c.pulses_of.ensures, c.pulses_of-last.ensures)

pub returns-in-1 : goal.returns-in-1
unfolding after_of
returns-in-1 c = rw (c.in-1.is, c.pulses_of-last.ensures)

pub returns-in_default : goal.returns-in_default
unfolding after_of
returns-in_default c = let k = c.in_default.in_default-own.rest in simp (ne_eqb _ _ k.1, ne_eqb _ _ k.0.1)
