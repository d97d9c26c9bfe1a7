-- `record::read_numbers` meets its contract: one number a turn. Assumes nothing.
use Rattle.std.proofs.Common.{rules}
use Rattle.record.specs.Bytes.{words_of}
use Rattle.record.proofs.laws.Work.{read_more}
use Rattle.record.proofs.bytes.read_numbers.Goals as goal

pub loop-i-init : goal.loop-i-init
unfolding words_of
loop-i-init c = search rules

pub loop-i-preserved : goal.loop-i-preserved
loop-i-preserved c = rw c.loop-i.invariant (read_more c.args.s.now c.loop-i.i c.word.ensures)
