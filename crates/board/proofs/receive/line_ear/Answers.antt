-- `board::receive::line_ear` meets its contract. Assumes nothing.
use borrow.Author.Tests.{eq-eqb, ne_eqb}
use Rattle.board.proofs.receive.line_ear.Goals as goal

pub returns-then-byte-eq13 : goal.returns-then-byte-eq13
returns-then-byte-eq13 c = rw (eq-eqb _ _ c.if-byte-eq13.true)

pub returns : goal.returns
returns c = rw (ne_eqb _ _ c.if-byte-eq13.false)
