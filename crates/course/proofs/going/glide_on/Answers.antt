-- `course::glide_on` meets its contract. Assumes nothing.
use Rattle.course.proofs.Turns.{stays-left, going-left}
use Rattle.course.proofs.going.glide_on.Goals as goal

pub returns-in_default : goal.returns-in_default
returns-in_default c = let a = c.args in stays-left a.e a.limit a.out.now c.under_way-under.ensures c.in_default.is c.stay.ensures

pub returns : goal.returns
returns c = let a = c.args in (going-left a.e a.limit a.out.now (rw c.is_turning-turns.ensures at c.glide-g.ensures.0) c.under_way-under.ensures c.in-Some.is c.glide.ensures, c.glide-g.ensures.1)
