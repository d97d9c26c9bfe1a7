-- Two lines that differ only in the spaces after their commas (02 §8): a matter of their bytes alone, whatever is read from them.
use Rattle.std.specs.Prelude.{ℕ, ◌≡◌, ◌&&◌, List, [], ◌∷◌, eqb}
use Rattle.count.specs.Chars.{ch}
use Rattle.count.specs.Pick.{pick}

-- a line without these spaces: after each comma one space is left out, if one stands there
unfoldable pub unspaced : List ℕ → List ℕ
unspaced [] = []
unspaced (b ∷ []) = b ∷ []
unspaced (b ∷ c ∷ s) = b ∷ pick (eqb b (ch ",") && eqb c (ch " ")) (unspaced s) (unspaced (c ∷ s))

-- two lines differ only in these spaces if without them they are the same
abbrev pub SameButSpaces : List ℕ → List ℕ → Type 0
SameButSpaces s t = unspaced s ≡ unspaced t
