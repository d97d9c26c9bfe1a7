-- `count::put_report` meets its contract. Assumes nothing.
use Rattle.count.specs.Numbers.{value}
use Rattle.count.specs.Text.{twos24, report}
use Rattle.count.proofs.laws.Digits.{hexes-last}
use Rattle.count.proofs.text.put_report.Goals as goal

pub returns : goal.returns
unfolding report
returns c = rw (hexes-last 6 (twos24 (value c.args.c)), ← c.twos_24.ensures) c.put_last.ensures
