-- `line::read_numbers` meets its contract: the loop keeps what the whole text comes to. Assumes nothing.
use Prim.Native.Nat.{suc, ◌≤◌, ◌-◌}
use mathlib.Core.Path.{◌≡◌}
use lib.ListN.{length, drop}
use Rattle.line.specs.Numbers.{numbers_of, parted}
use Rattle.line.specs.work.Reading.{items}
use Rattle.line.proofs.Items.{items_from}
use Rattle.line.proofs.numbers.read_numbers.Given as goal

abbrev pub invariant-loop-item : goal.invariant-loop-item
invariant-loop-item l = (l.at ≤ length l.s) × (l.n ≤ l.at) × (length l.words ≡ 8) × (items (numbers_of (drop l.start l.s)) ≡ items_from l.n l.words (parted (drop l.at l.s)))

abbrev pub decreases-loop-item : goal.decreases-loop-item
decreases-loop-item l = suc (length l.s) - l.at
