-- `motion::sound::stand_at` meets its contract. Assumes nothing.
use Rattle.motion.proofs.sound.stand_at.Goals as goal

pub returns : goal.returns
returns c = rw (c.stands-a.ensures, c.stands-z.ensures, c.stands-y.ensures, c.stands-x.ensures)
