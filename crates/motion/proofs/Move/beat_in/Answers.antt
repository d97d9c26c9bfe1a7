-- `motion::Move::beat_in` meets its contract. Assumes nothing.
use native.Mathlib.Omega.{arith}
use Rattle.motion.specs.work.Beat.{at_mark}
use Rattle.motion.specs.Next.{from_of, to_of}
use Rattle.motion.proofs.Work.{ready, beat-made, beat-over}
use Rattle.motion.proofs.Move.beat_in.Goals as goal

pub signs_at-signs-requires : goal.signs_at-signs-requires
signs_at-signs-requires c = let r = ready c.phase_from-from.result c.phase_to-to.result c.args.made c.pulses_of-n.result c.pulses_of-n.ensures c.if-made-n.true in (c.if-made-n.true, r.0, r.1)

pub beat_by-requires : goal.beat_by-requires
beat_by-requires c = (c.signs_at-signs.ensures.1, omega (arith, c.if-made-n.true, (ready c.phase_from-from.result c.phase_to-to.result c.args.made c.pulses_of-n.result c.pulses_of-n.ensures c.if-made-n.true).0))

pub returns-then-made-n : goal.returns-then-made-n
unfolding from_of to_of
returns-then-made-n c = beat-made (at_mark c.args.self (record { phase = c.args.self.phase; made = c.args.made })) c.args.at c.phase_from-from.ensures c.phase_to-to.ensures c.pulses_of-n.ensures c.if-made-n.true c.signs_at-signs.ensures.0 c.beat_by.ensures

pub returns : goal.returns
unfolding from_of to_of
returns c = beat-over (at_mark c.args.self (record { phase = c.args.self.phase; made = c.args.made })) c.args.at c.phase_from-from.ensures c.phase_to-to.ensures c.pulses_of-n.ensures c.if-made-n.false
