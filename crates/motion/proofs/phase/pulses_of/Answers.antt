-- `motion::phase::pulses_of` meets its contract. Assumes nothing.
use borrow.Author.Tests.{lt-ltb, le-ltb}
use Rattle.motion.specs.Phase.{pulses}
use Rattle.motion.proofs.phase.pulses_of.Goals as goal

pub returns-then-n-gt16777215 : goal.returns-then-n-gt16777215
unfolding pulses
returns-then-n-gt16777215 c = rw (← c.distance-x.ensures, ← c.distance-y.ensures, ← c.distance-z.ensures, ← c.distance-a.ensures, ← c.max.ensures, ← c.max-2.ensures, ← c.max-n.ensures, lt-ltb _ _ c.if-n-gt16777215.true)

pub returns : goal.returns
unfolding pulses
returns c = rw (← c.distance-x.ensures, ← c.distance-y.ensures, ← c.distance-z.ensures, ← c.distance-a.ensures, ← c.max.ensures, ← c.max-2.ensures, ← c.max-n.ensures, le-ltb _ _ c.if-n-gt16777215.false)
