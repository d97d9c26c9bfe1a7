-- A line's letter is told by its number on paper. Assumes nothing.
use Prim.Native.Nat.{ℕ}
use mathlib.Core.Path.{◌≡◌, refl, sym, ap, ◌∙◌}
use lib.Dec.{eqb}
use Rattle.count.specs.Pick.{pick}
use Rattle.line.specs.Letter.{Letter}
use Rattle.line.specs.Letter as letter
use Rattle.line.specs.Lines.{letter_paper, letter_of}

-- by its character; setting axes has the 0 of `@0`
abbrev numbered : ℕ → Letter
numbered n = pick (eqb n 48) letter.Axes (letter_of n)

back : (k : Letter) → numbered (letter_paper k).number ≡ k
unfolding letter_of
back letter.Wrong = refl
back letter.Axes = refl
back letter.Relative = refl
back letter.Absolute = refl
back letter.Origin = refl
back letter.Zero = refl
back letter.Three = refl
back letter.Position = refl
back letter.Input = refl
back letter.Output = refl
back letter.Store = refl
back letter.Empty = refl
back letter.Start = refl
back letter.Plane = refl
back letter.Direction = refl
back letter.Circle = refl

pub is-letter : (k j : Letter) → (letter_paper k).number ≡ (letter_paper j).number → k ≡ j
is-letter k j h = sym (back k) ∙ ap numbered h ∙ back j
