-- `travel::Travel::left` meets its contract. Assumes nothing.
use Rattle.travel.specs.Next.{left_of}
use Rattle.travel.proofs.Travel.left.Goals as goal

pub returns-in-Straight : goal.returns-in-Straight
unfolding left_of
returns-in-Straight c = rw (c.left.ensures, c.in-Straight.is)

pub returns-in-Round : goal.returns-in-Round
unfolding left_of
returns-in-Round c = rw (c.left-in-Round.ensures, c.in-Round.is)
