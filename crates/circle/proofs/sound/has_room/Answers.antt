-- `circle::sound::has_room` meets its contract. Assumes nothing.
use Rattle.circle.specs.Plan.{has_room, reach_of}
use Rattle.circle.proofs.sound.has_room.Goals as goal

pub returns : goal.returns
unfolding has_room reach_of
returns c = rw (c.reaches_by-2.ensures, c.reaches_by.ensures, c.start_value-n.ensures)
