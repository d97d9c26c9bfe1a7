-- `travel::Travel::made` meets its contract. Assumes nothing.
use Rattle.travel.proofs.Travel.made.Goals as goal

pub returns-in-Straight : goal.returns-in-Straight
returns-in-Straight c = rw c.in-Straight.is
