-- `port::code::travel_of` meets its contract. Assumes nothing.
use borrow.Author.Tests.{eq-eqb, ne_eqb}
use Rattle.port.specs.Code.{travel_of}
use Rattle.port.proofs.code.travel_of.Goals as goal

pub returns-then-kind-eq0 : goal.returns-then-kind-eq0
unfolding travel_of
returns-then-kind-eq0 c = simp (eq-eqb _ _ c.if-kind-eq0.true)

pub returns : goal.returns
unfolding travel_of
returns c = simp (ne_eqb _ _ c.if-kind-eq0.false, c.arc_of.ensures)
