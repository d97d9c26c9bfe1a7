-- `board::Board::begin` meets its contract. Assumes nothing.
use mathlib.Core.Path.{◌≡◌}
use borrow.Author.Tests.{ne_eqb}
use Rattle.std.specs.Prelude.{Err}
use Rattle.count.specs.declared.Fault.{Fault}
use Rattle.count.specs.Refusals.{letter_of}
use Rattle.engine.specs.State.{begun_in}
use Rattle.engine.proofs.Answered.{letter-none}
use Rattle.board.specs.declared.Board.{Board}
use Rattle.board.specs.work.Work.{begun_with, replied_with}
use Rattle.board.proofs.Board.begin.Goals as goal

refused-with : (b : Board) (f : Fault) → begun_with b (begun_in b.engine (Err f)) ≡ replied_with b b.engine (letter_of f)
unfolding begun_with
refused-with b f = rw (ne_eqb (letter_of f) 0 (letter-none f))

pub returns-in-Some : goal.returns-in-Some
unfolding begun_with
returns-in-Some c = rw (c.in-Ok.is, c.in-Some.is) (rw c.with_engine.ensures at c.says.ensures)

pub returns-in-None : goal.returns-in-None
unfolding begun_with
returns-in-None c = rw (c.in-Ok.is, c.in-None.is) c.replies.ensures

pub returns-in-Err : goal.returns-in-Err
returns-in-Err c = rw (c.in-Err.is, refused-with c.args.self c.in-Err.fault) (rw c.letter.ensures at c.replies-in-Err.ensures)
