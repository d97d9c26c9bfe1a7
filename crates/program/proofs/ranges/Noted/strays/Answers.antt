-- `program::ranges::Noted::strays` meets its contract. Assumes nothing.
use native.Mathlib.Omega.{arith}
use Rattle.program.proofs.laws.Backs.{stray-off, target-in, stray-high, stray-low}
use Rattle.program.proofs.ranges.Noted.strays.Goals as goal

pub overflow_cast-t : goal.overflow_cast-t
overflow_cast-t c =
    let d = target-in _ _ _ _ c.is_turn.ensures c.if-is_turn.true c.requires.1 c.far.ensures c.place_of-t.ensures in
    let l = d.1 in
    omega arith

pub returns-then-t-p : goal.returns-then-t-p
returns-then-t-p c =
    stray-low _ _ _ _ _ c.is_turn.ensures c.if-is_turn.true c.requires.1 c.far.ensures c.place_of-t.ensures c.parted.ensures

pub parted-requires-then-is_turn : goal.parted-requires-then-is_turn
parted-requires-then-is_turn c =
    let d = target-in _ _ _ _ c.is_turn.ensures c.if-is_turn.true c.requires.1 c.far.ensures c.place_of-t.ensures in
    (c.if-t-p.false, d.1)

pub returns-then-is_turn : goal.returns-then-is_turn
returns-then-is_turn c =
    stray-high _ _ _ _ _ c.is_turn.ensures c.if-is_turn.true c.requires.1 c.far.ensures c.place_of-t.ensures c.parted-then-is_turn.ensures

pub returns : goal.returns
returns c = stray-off _ _ _ _ _ c.is_turn.ensures c.if-is_turn.false
