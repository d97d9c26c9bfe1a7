-- `circle::sound::point_right` meets its contract. Assumes nothing.
use Rattle.circle.specs.Plan.{reach_of}
use Rattle.circle.specs.Sound.{point_sound}
use Rattle.circle.proofs.sound.point_right.Goals as goal

pub returns : goal.returns
unfolding point_sound reach_of
returns c = rw (c.is_near-y.ensures, c.distance-2.ensures, c.is_near-x.ensures, c.distance.ensures, c.start_value-n.ensures)
