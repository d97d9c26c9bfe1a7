-- `motion::sound::stands` meets its contract. Assumes nothing.
use Rattle.motion.proofs.Standing.{stands-empty, stands-back, stands_on}
use Rattle.motion.proofs.sound.stands.Goals as goal

pub returns-then-n-eq0 : goal.returns-then-n-eq0
returns-then-n-eq0 c = let a = c.args in stands-empty a.at a.k a.from a.to c.if-n-eq0.true

pub returns-then-to-from : goal.returns-then-to-from
returns-then-to-from c = let a = c.args in stands-back a.at a.k a.from a.to a.n c.requires.1 c.requires.2 c.distance-s.ensures c.distance-d.ensures c.has_made.ensures c.if-to-from.true

pub returns : goal.returns
returns c = let a = c.args in stands_on a.at a.k a.from a.to a.n c.requires.1 c.requires.2 c.distance-s.ensures c.distance-d.ensures c.has_made-2.ensures c.if-to-from.false
