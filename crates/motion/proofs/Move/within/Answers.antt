-- `motion::Move::within` meets its contract. Assumes nothing.
use mathlib.Core.Path.{refl}
use Rattle.motion.specs.Next.{at_phase}
use Rattle.motion.proofs.laws.Beats.{within-back}
use Rattle.motion.proofs.Move.within.Goals as goal

pub returns : goal.returns
returns c = let a = c.args in rw (c.as_next.ensures, c.beat_at.ensures) (within-back a.self (at_phase a.self a.self.phase a.made) a.at refl)
