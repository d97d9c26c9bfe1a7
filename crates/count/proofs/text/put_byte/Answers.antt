-- `count::put_byte` meets its contract. Assumes nothing.
use Rattle.count.specs.Text.{two_hex}
use Rattle.count.proofs.laws.Digits.{hexes-last}
use Rattle.count.proofs.text.put_byte.Goals as goal

pub returns : goal.returns
unfolding two_hex
returns c = rw (hexes-last 2 c.args.b, ← c.from.ensures) c.put_last.ensures
