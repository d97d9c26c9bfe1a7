-- Stands in contracts of functions that are not exported: nothing of it need be believed. Its laws: proofs/laws/Writing.antt.
use Rattle.std.specs.Prelude.{ℕ, zero, suc, List, [], ◌∷◌, ◌++◌, eqb}
use Rattle.count.specs.Pick.{pick}
use Rattle.count.specs.Numbers.{signed}
use Rattle.count.specs.Text.{shown}
use Rattle.record.specs.declared.Record.{Record}
use Rattle.record.specs.Places.{Records, are, none-are}
use Rattle.record.specs.Listing.{more, numbers_text}

-- ---- the pieces of a line

unfoldable pub item_text : ℕ → ℕ → List ℕ
item_text i w = pick (eqb i 0) (shown (signed w)) (44 ∷ shown (signed w))

-- what is still to come of a line behind its first i numbers
unfoldable pub line_left : ℕ → List ℕ → List ℕ
line_left zero l = numbers_text l ++ 13 ∷ []
line_left (suc i) l = more l ++ 13 ∷ []

-- ---- the lines of a readable part

abbrev pub list_in : Records → List Record
list_in (are l) = l
list_in none-are = []
