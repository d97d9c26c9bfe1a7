-- What the digits left come to, and that the size has so many digits.
use Rattle.std.proofs.Common.{◌≡◌, ◌^◌, ◌<◌, drop}
use Rattle.reader.specs.work.Sizes.{size_from}
use Rattle.reader.proofs.fields.size_of.Given as goal

abbrev pub invariant-loop-b : goal.invariant-loop-b
invariant-loop-b l = record {
  few : l.size < 10 ^ l.b-index;
  left : size_from l.digits 0 ≡ size_from (drop l.b-index l.digits) l.size;
}
