-- `port::calls::board_clock` meets its contract. Assumes nothing.
use mathlib.Core.Bool.{not}
use mathlib.Core.Path.{ap}
use mathlib.Core.Path.{sym, ◌∙◌}
use borrow.Author.Tests.{eq-eqb, ne_eqb}
use Rattle.port.specs.Calls.{clocking_state}
use Rattle.port.proofs.calls.board_clock.Goals as goal

pub returns-then-store-ne16384 : goal.returns-then-store-ne16384
unfolding clocking_state
returns-then-store-ne16384 c = simp (ne_eqb _ _ c.if-store-ne16384.true, c.clocked.ensures)

pub returns-then-not-is_known : goal.returns-then-not-is_known
unfolding clocking_state
returns-then-not-is_known c = simp (eq-eqb _ _ c.if-store-ne16384.false, ← c.is_known.ensures, (ap not c.if-not-is_known.true), c.clocked-then-not-is_known.ensures)

pub tick-requires : goal.tick-requires
tick-requires c = (sym c.is_known.ensures ∙ c.if-not-is_known.false, c.if-store-ne16384.false)

pub returns : goal.returns
unfolding clocking_state
returns c = simp (c.tick.ensures, eq-eqb _ _ c.if-store-ne16384.false, ← c.is_known.ensures, (ap not c.if-not-is_known.false))
