-- `motion::Move::left` meets its contract. Assumes nothing.
use native.Mathlib.Omega.{arith}
use Rattle.motion.proofs.Standing.{after_small}
use Rattle.motion.specs.Next.{left_of, from_of, to_of}
use Rattle.motion.proofs.laws.Pulses.{pulses-small}
use Rattle.motion.proofs.laws.Beats.{leg-marked}
use Rattle.motion.proofs.Move.left.Goals as goal

pub overflow_add-result : goal.overflow_add-result
overflow_add-result c = let a = c.args.self in omega (arith, c.after.ensures, leg-marked a c.mark.ensures c.leg_at.ensures, after_small a, pulses-small (from_of a) (to_of a))

pub returns : goal.returns
unfolding left_of
returns c = omega (arith, c.after.ensures, leg-marked c.args.self c.mark.ensures c.leg_at.ensures)
