-- `board::Board::list` meets its contract. Assumes nothing.
use Rattle.std.specs.Prelude.{not}
use Rattle.std.proofs.Common.{ap, sym, ◌∙◌, eq-eqb, ne_eqb}
use Rattle.board.specs.Calls.{listing}
use Rattle.board.proofs.laws.Hears.{listed-so}
use Rattle.board.proofs.Board.list.Goals as goal

pub returns-then-store-ne16384 : goal.returns-then-store-ne16384
unfolding listing
returns-then-store-ne16384 c = simp (ne_eqb _ _ c.if-store-ne16384.true)

pub returns-then-not-sound : goal.returns-then-not-sound
unfolding listing
returns-then-not-sound c = simp (eq-eqb _ _ c.if-store-ne16384.false, ← c.sound.ensures, (ap not c.if-not-sound.true))

pub returns : goal.returns
returns c = listed-so c.args.self c.args.store.now c.args.text.now c.if-store-ne16384.false (sym c.sound.ensures ∙ c.if-not-sound.false) c.list.ensures
