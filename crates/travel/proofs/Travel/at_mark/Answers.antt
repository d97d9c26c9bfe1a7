-- `travel::Travel::at_mark` meets its contract. Assumes nothing.
use Rattle.travel.proofs.Travel.at_mark.Goals as goal

pub returns-in-Straight : goal.returns-in-Straight
returns-in-Straight c = rw (c.at_mark.ensures, c.in-Straight.is)

pub returns-in-Round : goal.returns-in-Round
returns-in-Round c = rw (c.with_made.ensures, c.in-Round.is)
