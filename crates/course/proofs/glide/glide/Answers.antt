-- `course::glide` meets its contract: by the kind. Assumes nothing.
use Rattle.course.proofs.glide.glide.Goals as goal

pub returns-in-Straight : goal.returns-in-Straight
returns-in-Straight c = rw c.in-Straight.is c.glide_on.ensures

pub returns-in-Round : goal.returns-in-Round
returns-in-Round c = rw c.in-Round.is c.glide_on-in-Round.ensures
