-- `board::letters::line_fault` meets its contract: a letter that was found is none of a wrong shape. Assumes nothing.
use mathlib.Core.Path.{◌≡◌, refl}
use mathlib.Core.Bool.{false}
use Rattle.line.specs.declared.Letter.{Letter}
use Rattle.line.specs.declared.Letter.TheVariants as found
use Rattle.line.specs.Said.{letter_said}
use Rattle.board.specs.Direct.{is_wrong}
use Rattle.board.specs.work.Work.{line_fault}
use Rattle.board.proofs.letters.line_fault.Goals as goal

right : (l : Letter) → is_wrong (letter_said l) ≡ false
right found.Axes = refl
right found.Relative = refl
right found.Absolute = refl
right found.Origin = refl
right found.Zero = refl
right found.Three = refl
right found.Position = refl
right found.Input = refl
right found.Output = refl
right found.Store = refl
right found.Empty = refl
right found.Start = refl
right found.Plane = refl
right found.Direction = refl
right found.Circle = refl

pub returns-then-standing-is_heard : goal.returns-then-standing-is_heard
unfolding line_fault
returns-then-standing-is_heard c = simp (right c.args.d.letter, ← c.is_heard.ensures, c.if-standing-is_heard.true)

pub returns-then-needs_axes-axes : goal.returns-then-needs_axes-axes
unfolding line_fault
returns-then-needs_axes-axes c = simp (right c.args.d.letter, ← c.is_heard.ensures, c.if-standing-is_heard.false, ← c.needs_axes.ensures, c.if-needs_axes-axes.true)

pub returns : goal.returns
unfolding line_fault
returns c = simp (right c.args.d.letter, ← c.is_heard.ensures, c.if-standing-is_heard.false, ← c.needs_axes.ensures, c.if-needs_axes-axes.false, c.numbers_fault.ensures)
