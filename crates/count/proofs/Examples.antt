-- Worked examples of 01, "Prove these", about numbers alone: (7), (8) and (12). Assumes nothing.
use Rattle.std.specs.Prelude.{None}
use mathlib.Core.Path.{◌≡◌, refl}
use mathlib.Core.List.{[], ◌∷◌}
use lib.IntN.{pos, negsuc}
use Rattle.count.specs.Numbers.{within, count, in24, signed, word, placed, added}
use Rattle.count.specs.Text.{hex_digit, hexes, twos24, report}

-- (7) -2 reports FFFFFE
pub seven : report (count (negsuc 1)) ≡ 70 ∷ 70 ∷ 70 ∷ 70 ∷ 70 ∷ 69 ∷ []
unfolding report twos24 hexes hex_digit
seven = refl

-- (8) 256 reports 000100
pub eight : report (count (pos 256)) ≡ 48 ∷ 48 ∷ 48 ∷ 49 ∷ 48 ∷ 48 ∷ []
unfolding report twos24 hexes hex_digit
eight = refl

-- (12) 8,388,607 plus 1 lies outside
pub twelve : added (count (pos 8388607)) (word (pos 1)) ≡ None
unfolding added placed in24 within signed word
twelve = refl
