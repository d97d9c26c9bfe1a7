-- `travel::Travel::beat` meets its contract. Assumes nothing.
use Rattle.travel.specs.work.Beat.{next_of}
use Rattle.travel.proofs.laws.Beats.{straight-beaten, arc-beaten}
use Rattle.travel.proofs.Travel.beat.Goals as goal

pub returns-in-Straight : goal.returns-in-Straight
unfolding next_of
returns-in-Straight c = rw (c.beat.ensures, c.in-Straight.is) (straight-beaten _ _)

pub returns-in-Round : goal.returns-in-Round
unfolding next_of
returns-in-Round c = rw (c.beat-in-Round.ensures, c.in-Round.is) (arc-beaten _ _)
