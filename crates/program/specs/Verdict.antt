-- What the check at `9` comes to: nothing is at fault; the letter and place of the first fault; or the store is not readable.
use Rattle.std.specs.Prelude.{ℕ, Option, Some, None, Result, Ok, Err}
use Rattle.count.specs.Chars.{ch}
use Rattle.program.specs.declared.Rule.{Rule}
use Rattle.program.specs.declared.Rule.TheVariants.{Outside, Early, Overlaps, Crowded, Strays}
use Rattle.program.specs.declared.Flaw.{Flaw}
use Rattle.program.specs.declared.Flaw.TheVariants as flaw

pub data Verdict : Type 0 where
  Sound : Verdict
  Fault : ℕ → ℕ → Verdict
  Unreadable : Verdict

-- ---- as the code answers it

-- the letter of what a place may not be
abbrev pub letter_of : Rule → ℕ
letter_of Outside = ch "a"
letter_of Early = ch "b"
letter_of Overlaps = ch "c"
letter_of Crowded = ch "d"
letter_of Strays = ch "e"

-- of a place; 0 where nothing is at fault
abbrev pub letter_in : Option Rule → ℕ
letter_in (Some r) = letter_of r
letter_in None = 0

abbrev pub verdict : Result Unit Flaw → Verdict
verdict (Ok u) = Sound
verdict (Err flaw.Unreadable) = Unreadable
verdict (Err (flaw.Fault r p)) = Fault (letter_of r) p
