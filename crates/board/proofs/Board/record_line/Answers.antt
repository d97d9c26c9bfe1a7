-- `board::Board::record_line` meets its contract. Assumes nothing.
use Rattle.std.proofs.Common.{refl, sym, arith}
use Rattle.std.specs.Prelude.{Some}
use Rattle.record.specs.Memory.{memory}
use Rattle.record.proofs.laws.Replies.{letter-some}
use Rattle.line.specs.Said.{stored_found}
use Rattle.board.specs.Storing.{record_of}
use Rattle.board.proofs.laws.Stores.{record-refused, record-kept, count_small}
use Rattle.board.proofs.Board.record_line.Goals as goal

pub returns-in-Err : goal.returns-in-Err
returns-in-Err c =
    let a = c.args in
    record-refused (record_of a.code (stored_found (Some a.d))) a.self (memory a.store.now a.table.now) c.requires c.in-Err.ensures (letter-some c.in-Err.fault) (rw c.letter.ensures at c.replies.ensures)

pub overflow_cast-item : goal.overflow_cast-item
overflow_cast-item c = let h = count_small _ _ _ _ (sym c.in_default.ensures) in omega arith

pub returns : goal.returns
returns c =
    let a = c.args in
    record-kept (record_of a.code (stored_found (Some a.d))) a.self (memory a.store.now a.table.now) c.requires c.in_default.ensures refl c.keep.ensures
