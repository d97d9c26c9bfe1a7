-- What the private functions hand on. The definitions of 01 are in the other files and use nothing of this. Definitions only.
use Rattle.std.specs.Prelude.{ℕ, ◌≡◌, Bool, not, List, [], ◌∷◌, ◌++◌, length, drop}
use Rattle.count.specs.Chars.{ch}
use Rattle.count.specs.Pick.{pick}
use Rattle.count.specs.Numbers.{value}
use Rattle.count.specs.Text.{shown}
use Rattle.board.specs.declared.Board.{Board}
use Rattle.course.specs.Run.{Ran}
use Rattle.course.specs.declared.Walk.{Walk}
use Rattle.course.specs.declared.Portion.{Portion}
use Rattle.course.specs.Run.{runs_now}

-- a text at the front of a part: its length, and the part afterwards, the bytes past the text as they were
pub record Wrote (t s : List ℕ) (len : ℕ) (out : List ℕ) : Type 0 where
  pub long : len ≡ length t
  pub text : out ≡ t ++ drop (length t) s

-- no clock call was made
abbrev pub stood : ℕ → Board → Ran
stood n b = record { board = b; calls = 0; over = not (runs_now b); len = 0; refusal = n }

-- nothing taken, nothing written
abbrev pub same : Walk → Portion
same w = record { walk = w; len = 0 }

-- the last field of the end line: A's position, where it is set
abbrev pub last_field : Bool → ℕ → List ℕ
last_field turns c = pick turns (ch " " ∷ shown (value c)) []
