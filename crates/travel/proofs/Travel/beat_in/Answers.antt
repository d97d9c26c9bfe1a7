-- `travel::Travel::beat_in` meets its contract. Assumes nothing.
use Rattle.travel.specs.work.Beat.{within_of}
use Rattle.travel.proofs.laws.Beats.{straight-within, arc-beaten}
use Rattle.travel.proofs.Travel.beat_in.Goals as goal

pub returns-in-Straight : goal.returns-in-Straight
unfolding within_of
returns-in-Straight c = rw (c.beat_in.ensures, c.in-Straight.is) (straight-within _ _)

pub returns-in-Round : goal.returns-in-Round
unfolding within_of
returns-in-Round c = rw (c.beat_in-in-Round.ensures, c.in-Round.is) (arc-beaten _ _)
