-- The digits that are still to come, and behind them what was written, are all the digits and what lies behind them.
use Rattle.std.proofs.Common.{◌≡◌, ◌++◌, drop}
use Rattle.count.specs.Text.{last_digits}
use Rattle.count.proofs.text.put_last.Given as goal

abbrev pub invariant-loop-i : goal.invariant-loop-i
invariant-loop-i l = last_digits l.base l.i l.rest ++ drop l.i l.text ≡ last_digits l.base l.count l.n ++ drop l.count l.fn.text
