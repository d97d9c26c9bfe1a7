-- `travel::Travel::look` meets its contract. Assumes nothing.
use Rattle.travel.proofs.Work.{straight-look, arc-look}
use Rattle.travel.proofs.Travel.look.Goals as goal

pub returns-in-Straight : goal.returns-in-Straight
returns-in-Straight c = rw (c.look.ensures, c.in-Straight.is) (straight-look _ _)

pub returns-in-Round : goal.returns-in-Round
returns-in-Round c = rw (c.look-in-Round.ensures, c.in-Round.is) (arc-look _ _)
