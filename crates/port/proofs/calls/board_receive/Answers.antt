-- `port::calls::board_receive` meets its contract. Assumes nothing.
use mathlib.Core.Bool.{not}
use mathlib.Core.Path.{ap}
use mathlib.Core.Path.{sym, ◌∙◌}
use borrow.Author.Tests.{eq-eqb, ne_eqb, lt-ltb, le-ltb}
use Rattle.port.specs.Code.{ports_of}
use Rattle.board.specs.Calls.{lent}
use Rattle.record.specs.Memory.{memory}
use Rattle.port.specs.Calls.{hearing_state}
use Rattle.port.proofs.laws.Calls.{heard-so}
use Rattle.port.proofs.calls.board_receive.Goals as goal

pub returns-then-reply-lt32 : goal.returns-then-reply-lt32
unfolding hearing_state
returns-then-reply-lt32 c = simp (lt-ltb _ _ c.if-reply-lt32.true, c.unheard.ensures)

pub returns-then-store-ne16384 : goal.returns-then-store-ne16384
unfolding hearing_state
returns-then-store-ne16384 c = simp (le-ltb _ _ c.if-reply-lt32.false, ne_eqb _ _ c.if-store-ne16384.true, c.unheard-then-store-ne16384.ensures)

pub returns-then-not-is_known : goal.returns-then-not-is_known
unfolding hearing_state
returns-then-not-is_known c = simp (le-ltb _ _ c.if-reply-lt32.false, eq-eqb _ _ c.if-store-ne16384.false, ← c.is_known.ensures, (ap not c.if-not-is_known.true), c.unheard-then-not-is_known.ensures)

pub returns : goal.returns
returns c = let a = c.args in
    let k = sym c.is_known.ensures ∙ c.if-not-is_known.false in
    simp (c.with_board.ensures, c.len.ensures, c.refusal_of.ensures)
    (heard-so a.state k c.«open».ensures a.byte (ports_of a.ports) (lent a.reply.now (memory a.store.now a.table.now)) c.if-reply-lt32.false c.if-store-ne16384.false c.ports_of.ensures c.receive-t.ensures)
