-- `motion::Move::sound` meets its contract. Assumes nothing.
use mathlib.Core.Path.{sym}
use Rattle.motion.proofs.Looks.{under-refused, passed, asked, under-stood}
use Rattle.motion.proofs.Move.sound.Goals as goal

pub returns-then-in_range-self : goal.returns-then-in_range-self
returns-then-in_range-self c = sym (under-refused c.args.self c.args.at c.mark-mark.ensures c.from_at-from.ensures c.to_at-to.ensures c.pulses_of-n.ensures c.in_range.ensures c.if-in_range-self.true)

pub stand_at-requires : goal.stand_at-requires
stand_at-requires c = asked c.args.self c.args.at c.mark-mark.ensures c.from_at-from.ensures c.to_at-to.ensures c.pulses_of-n.ensures c.in_range.ensures (passed c.args.self c.args.at c.mark-mark.ensures c.from_at-from.ensures c.to_at-to.ensures c.pulses_of-n.ensures c.in_range.ensures c.if-in_range-self.false)

pub returns : goal.returns
returns c = under-stood c.args.self c.args.at c.mark-mark.ensures c.from_at-from.ensures c.to_at-to.ensures c.pulses_of-n.ensures c.in_range.ensures (passed c.args.self c.args.at c.mark-mark.ensures c.from_at-from.ensures c.to_at-to.ensures c.pulses_of-n.ensures c.in_range.ensures c.if-in_range-self.false) c.stand_at.ensures
