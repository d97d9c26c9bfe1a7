-- `board::receive::byte_ear` meets its contract. Assumes nothing.
use borrow.Author.Tests.{eq-eqb, ne_eqb}
use Rattle.board.proofs.receive.byte_ear.Goals as goal

pub returns-then-byte-eq253 : goal.returns-then-byte-eq253
returns-then-byte-eq253 c = rw (eq-eqb _ _ c.if-byte-eq253.true)

pub returns-then-byte-eq254 : goal.returns-then-byte-eq254
returns-then-byte-eq254 c = rw (ne_eqb _ _ c.if-byte-eq253.false, eq-eqb _ _ c.if-byte-eq254.true)

pub returns-then-byte-eq255 : goal.returns-then-byte-eq255
returns-then-byte-eq255 c = rw (ne_eqb _ _ c.if-byte-eq253.false, ne_eqb _ _ c.if-byte-eq254.false, eq-eqb _ _ c.if-byte-eq255.true)

pub returns : goal.returns
returns c = rw (ne_eqb _ _ c.if-byte-eq253.false, ne_eqb _ _ c.if-byte-eq254.false, ne_eqb _ _ c.if-byte-eq255.false) c.job_ear.ensures
