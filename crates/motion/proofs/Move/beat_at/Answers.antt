-- `motion::Move::beat_at` meets its contract. Assumes nothing.
use native.Mathlib.Omega.{arith}
use Rattle.motion.specs.work.Beat.{at_mark}
use Rattle.motion.proofs.Work.{ready, beat-made, beat-over}
use Rattle.motion.proofs.Move.beat_at.Goals as goal

pub signs_at-signs-requires : goal.signs_at-signs-requires
signs_at-signs-requires c = let r = ready c.from_at-from.result c.to_at-to.result c.args.mark.made c.pulses_of-n.result c.pulses_of-n.ensures c.if-mark-n.true in (c.if-mark-n.true, r.0, r.1)

pub beat_by-requires : goal.beat_by-requires
beat_by-requires c = (c.signs_at-signs.ensures.1, omega (arith, c.if-mark-n.true, (ready c.from_at-from.result c.to_at-to.result c.args.mark.made c.pulses_of-n.result c.pulses_of-n.ensures c.if-mark-n.true).0))

pub returns-then-mark-n : goal.returns-then-mark-n
returns-then-mark-n c = beat-made (at_mark c.args.self c.args.mark) c.args.at c.from_at-from.ensures c.to_at-to.ensures c.pulses_of-n.ensures c.if-mark-n.true c.signs_at-signs.ensures.0 c.beat_by.ensures

pub returns : goal.returns
returns c = beat-over (at_mark c.args.self c.args.mark) c.args.at c.from_at-from.ensures c.to_at-to.ensures c.pulses_of-n.ensures c.if-mark-n.false
