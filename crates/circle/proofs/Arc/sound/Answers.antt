-- `circle::Arc::sound` meets its contract. Assumes nothing.
use Rattle.circle.proofs.laws.Work.{under-not, under-by, under-start}
use Rattle.circle.proofs.Arc.sound.Goals as goal

pub returns-then-not-counted_at-speed_right : goal.returns-then-not-counted_at-speed_right
returns-then-not-counted_at-speed_right c = let a = c.args in under-not a.self a.at c.counted_at.ensures c.speed_right.ensures c.start_right.ensures c.if-not-counted_at-speed_right.true

pub placed-requires : goal.placed-requires
placed-requires c = let a = c.args in under-start a.self a.at c.counted_at.ensures c.speed_right.ensures c.start_right.ensures c.if-not-counted_at-speed_right.false

pub returns : goal.returns
returns c = let a = c.args in under-by a.self a.at c.counted_at.ensures c.speed_right.ensures c.start_right.ensures c.if-not-counted_at-speed_right.false c.placed.ensures
