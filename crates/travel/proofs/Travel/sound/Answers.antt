-- `travel::Travel::sound` meets its contract. Assumes nothing.
use Rattle.travel.specs.Sound.{under_way}
use Rattle.travel.proofs.Travel.sound.Goals as goal

pub returns-in-Straight : goal.returns-in-Straight
unfolding under_way
returns-in-Straight c = rw (c.sound.ensures, c.in-Straight.is)

pub returns-in-Round : goal.returns-in-Round
unfolding under_way
returns-in-Round c = rw (c.sound-in-Round.ensures, c.in-Round.is)
