-- `line::read_digits` meets its contract: the loop keeps what the whole text comes to, and the size below its power of ten. Assumes nothing.
use Prim.Native.Nat.{◌-◌, ◌≤◌, ◌<◌, ◌^◌}
use mathlib.Core.Path.{◌≡◌}
use lib.ListN.{drop}
use Rattle.line.specs.work.Reading.{reading}
use Rattle.line.proofs.numbers.read_digits.Given as goal

abbrev pub invariant-loop-i : goal.invariant-loop-i
invariant-loop-i l = (l.i - l.at ≤ 8) × (l.size < 10 ^ (l.i - l.at)) × (reading l.minus l.at 0 0 (drop l.at l.s) ≡ reading l.minus l.i (l.i - l.at) l.size (drop l.i l.s))
