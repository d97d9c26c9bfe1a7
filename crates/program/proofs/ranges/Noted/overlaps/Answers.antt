-- `program::ranges::Noted::overlaps` meets its contract. Assumes nothing.
use native.Mathlib.Omega.{arith}
use Rattle.program.proofs.laws.Backs.{asked-off, asked-late, asked-first}
use Rattle.program.proofs.ranges.Noted.overlaps.Goals as goal

pub returns-then-k-from : goal.returns-then-k-from
returns-then-k-from c =
    asked-first _ _ _ c.is_loop.ensures c.if-is_loop.true c.far-f.ensures c.place_of-k.ensures _ _ c.requires c.first_back.ensures

pub returns-else-k-from : goal.returns-else-k-from
returns-else-k-from c =
    asked-late _ _ _ c.is_loop.ensures c.if-is_loop.true c.far-f.ensures c.place_of-k.ensures (omega arith)

pub returns-else-is_loop : goal.returns-else-is_loop
returns-else-is_loop c = asked-off _ _ _ c.is_loop.ensures c.if-is_loop.false
