-- `record::put_numbers` meets its contract: one number a turn. Assumes nothing.
use Rattle.std.proofs.Common.{◌-◌, ◌*◌, length, refl, ◌∙◌, rules}
use borrow.Rule.Slice.PartMut.{same_len_mid}
use Rattle.record.specs.Bytes.{num_bytes}
use Rattle.record.proofs.laws.Put.{put-more}
use Rattle.record.proofs.keep.put_numbers.Goals as goal

pub loop-i-init : goal.loop-i-init
unfolding num_bytes
loop-i-init c = search rules

pub loop-i-preserved : goal.loop-i-preserved
loop-i-preserved c = (
  same_len_mid (4 * c.loop-i.i) (length c.loop-i.s - 4 * c.loop-i.i) c.loop-i.s c.put_number.new.s c.put_number.auto.s ∙ c.loop-i.invariant.0,
  put-more c.args.s.now c.loop-i.s c.put_number.new.s c.args.numbers.now c.loop-i.i c.loop-i-test.true c.loop-i.invariant.1 refl c.put_number.ensures,
)
