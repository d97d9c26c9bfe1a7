-- `motion::sound::counted_at` meets its contract. Assumes nothing.
use Rattle.motion.specs.Sound.{counted}
use Rattle.motion.proofs.sound.counted_at.Goals as goal

pub returns : goal.returns
unfolding counted
returns c = cc
