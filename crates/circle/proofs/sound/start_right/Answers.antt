-- `circle::sound::start_right` meets its contract. Assumes nothing.
use Rattle.circle.specs.Sound.{start_sound}
use Rattle.circle.proofs.sound.start_right.Goals as goal

pub returns : goal.returns
unfolding start_sound
returns c = rw (c.distance-y.ensures, c.distance-x.ensures)
