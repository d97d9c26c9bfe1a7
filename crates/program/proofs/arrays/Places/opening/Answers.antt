-- `program::arrays::Places::opening` meets its contract. Assumes nothing.
use native.Mathlib.Omega.{arith}
use Rattle.program.proofs.Notes.{opening-yes}
use Rattle.program.proofs.arrays.Places.opening.Goals as goal

pub overflow_cast-result : goal.overflow_cast-result
overflow_cast-result c =
    let l = (opening-yes _ _ _ c.is_range.ensures c.if-is_range.true c.far.ensures c.place_of.ensures).1 in
    omega arith

pub returns-then-is_range : goal.returns-then-is_range
returns-then-is_range c = opening-yes _ _ _ c.is_range.ensures c.if-is_range.true c.far.ensures c.place_of.ensures
