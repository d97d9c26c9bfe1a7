-- `motion::Move::look` meets its contract. Assumes nothing.
use mathlib.Core.Path.{ap, sym, ◌∙◌}
use native.Mathlib.Omega.{arith}
use Rattle.motion.specs.declared.Mark.{Mark}
use Rattle.motion.proofs.Looks.{under-refused, passed, asked, under-stood, look-wrong, look-made, look-past}
use Rattle.motion.proofs.Move.look.Goals as goal

pub returns-then-in_range-self : goal.returns-then-in_range-self
returns-then-in_range-self c = look-wrong c.args.self c.args.at c.mark-mark.ensures c.from_at-from.ensures c.to_at-to.ensures c.pulses_of-n.ensures c.in_range.ensures (under-refused c.args.self c.args.at c.mark-mark.ensures c.from_at-from.ensures c.to_at-to.ensures c.pulses_of-n.ensures c.in_range.ensures c.if-in_range-self.true)

pub stand_at-requires : goal.stand_at-requires
stand_at-requires c = asked c.args.self c.args.at c.mark-mark.ensures c.from_at-from.ensures c.to_at-to.ensures c.pulses_of-n.ensures c.in_range.ensures (passed c.args.self c.args.at c.mark-mark.ensures c.from_at-from.ensures c.to_at-to.ensures c.pulses_of-n.ensures c.in_range.ensures c.if-in_range-self.false)

pub returns-then-not-stand_at : goal.returns-then-not-stand_at
returns-then-not-stand_at c = look-wrong c.args.self c.args.at c.mark-mark.ensures c.from_at-from.ensures c.to_at-to.ensures c.pulses_of-n.ensures c.in_range.ensures (sym (under-stood c.args.self c.args.at c.mark-mark.ensures c.from_at-from.ensures c.to_at-to.ensures c.pulses_of-n.ensures c.in_range.ensures (passed c.args.self c.args.at c.mark-mark.ensures c.from_at-from.ensures c.to_at-to.ensures c.pulses_of-n.ensures c.in_range.ensures c.if-in_range-self.false) c.stand_at.ensures) ∙ c.if-not-stand_at.true)

pub signs_at-signs-requires : goal.signs_at-signs-requires
signs_at-signs-requires c = let r = asked c.args.self c.args.at c.mark-mark.ensures c.from_at-from.ensures c.to_at-to.ensures c.pulses_of-n.ensures c.in_range.ensures (passed c.args.self c.args.at c.mark-mark.ensures c.from_at-from.ensures c.to_at-to.ensures c.pulses_of-n.ensures c.in_range.ensures c.if-in_range-self.false) in (c.if-k-n.true, r.0, r.2)

pub beat_by-requires : goal.beat_by-requires
beat_by-requires c = (c.signs_at-signs.ensures.1, omega (arith, ap (λ (x : Mark). x.made) c.mark-mark.ensures, c.if-k-n.true, (asked c.args.self c.args.at c.mark-mark.ensures c.from_at-from.ensures c.to_at-to.ensures c.pulses_of-n.ensures c.in_range.ensures (passed c.args.self c.args.at c.mark-mark.ensures c.from_at-from.ensures c.to_at-to.ensures c.pulses_of-n.ensures c.in_range.ensures c.if-in_range-self.false)).0))

pub returns-then-k-n : goal.returns-then-k-n
returns-then-k-n c = look-made c.args.self c.args.at c.mark-mark.ensures c.from_at-from.ensures c.to_at-to.ensures c.pulses_of-n.ensures c.in_range.ensures (sym (under-stood c.args.self c.args.at c.mark-mark.ensures c.from_at-from.ensures c.to_at-to.ensures c.pulses_of-n.ensures c.in_range.ensures (passed c.args.self c.args.at c.mark-mark.ensures c.from_at-from.ensures c.to_at-to.ensures c.pulses_of-n.ensures c.in_range.ensures c.if-in_range-self.false) c.stand_at.ensures) ∙ c.if-not-stand_at.false) c.if-k-n.true c.signs_at-signs.ensures.0 c.beat_by.ensures

pub returns : goal.returns
returns c = look-past c.args.self c.args.at c.mark-mark.ensures c.from_at-from.ensures c.to_at-to.ensures c.pulses_of-n.ensures c.in_range.ensures (sym (under-stood c.args.self c.args.at c.mark-mark.ensures c.from_at-from.ensures c.to_at-to.ensures c.pulses_of-n.ensures c.in_range.ensures (passed c.args.self c.args.at c.mark-mark.ensures c.from_at-from.ensures c.to_at-to.ensures c.pulses_of-n.ensures c.in_range.ensures c.if-in_range-self.false) c.stand_at.ensures) ∙ c.if-not-stand_at.false) c.look_on.ensures
