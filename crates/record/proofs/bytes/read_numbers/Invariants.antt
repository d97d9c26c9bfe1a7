-- `record::read_numbers` meets its contract: one number a turn. Assumes nothing.
use Rattle.std.proofs.Common.{◌≡◌}
use Rattle.count.specs.Words.{pad}
use Rattle.record.specs.Bytes.{words_of}
use Rattle.record.proofs.bytes.read_numbers.Given as goal

abbrev pub invariant-loop-i : goal.invariant-loop-i
invariant-loop-i l = l.words ≡ pad 8 (words_of l.i l.s)
