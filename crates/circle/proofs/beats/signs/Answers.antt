-- `circle::beats::signs` meets its contract. Assumes nothing.
use Rattle.circle.proofs.beats.signs.Goals as goal

pub returns : goal.returns
returns c = rw (c.on_axes.ensures, c.move_by-turn.ensures, c.start_value.ensures, c.ways_of-w.ensures)
