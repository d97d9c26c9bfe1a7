-- `board::Board::take` meets its contract. Assumes nothing.
use Rattle.board.specs.work.Take.{taken_of}
use Rattle.board.proofs.Board.take.Goals as goal

pub returns-then-sound : goal.returns-then-sound
unfolding taken_of
returns-then-sound c = simp (← c.gathers.ensures, c.if-gathers.true, ← c.sound.ensures, c.if-sound.true, c.gather_all-g.ensures)

pub returns-else-sound : goal.returns-else-sound
unfolding taken_of
returns-else-sound c = simp (← c.gathers.ensures, c.if-gathers.true, ← c.sound.ensures, c.if-sound.false)

pub returns-else-gathers : goal.returns-else-gathers
unfolding taken_of
returns-else-gathers c = simp (← c.gathers.ensures, c.if-gathers.false)
