-- `count::put_place` meets its contract. Assumes nothing.
use Rattle.count.specs.Text.{four_digits}
use Rattle.count.proofs.laws.Digits.{decimals-last}
use Rattle.count.proofs.text.put_place.Goals as goal

pub returns : goal.returns
unfolding four_digits
returns c = rw (decimals-last 4 c.args.p, ← c.from.ensures) c.put_last.ensures
