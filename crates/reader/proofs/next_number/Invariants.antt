-- What the bytes left come to, and how far it may go on.
use Rattle.std.proofs.Common.{◌≡◌, ◌≤◌, max, length, drop}
use Rattle.reader.specs.Reader.{reading, number_at}
use Rattle.reader.proofs.next_number.Given as goal

abbrev pub invariant-loop-at : goal.invariant-loop-at
invariant-loop-at l = record {
  read : number_at l.text l.from ≡ reading (drop l.at l.text) l.at l.size l.minus l.begun;
  within : l.at ≤ max (length l.text) l.from;
}
