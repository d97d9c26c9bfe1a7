-- `motion::pulse::signs_at` meets its contract. Assumes nothing.
use Rattle.motion.proofs.pulse.signs_at.Goals as goal

pub returns : goal.returns
returns c = (cc, (c.sign_here.ensures.1, c.sign_here-2.ensures.1, c.sign_here-3.ensures.1, c.sign_here-4.ensures.1))
