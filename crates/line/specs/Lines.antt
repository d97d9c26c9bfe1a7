-- The shape of a line (01, "Lines": paragraph 1, the table of lines, and the paragraph under it; 02, §3 for e, f and y).
use Rattle.std.specs.Prelude.{ℕ, List, [], ◌∷◌, map, length, eqb, pos}
use Rattle.count.specs.Chars.{ch}
use Rattle.count.specs.Pick.{pick}
use Rattle.count.specs.Paper.{Paper, says}
use Rattle.count.specs.Numbers.{word}
use Rattle.count.specs.Words.{pad}
use Rattle.line.specs.Letter.{Letter}
use Rattle.line.specs.Letter as letter
use Rattle.line.specs.Said.{Direct}
use Rattle.line.specs.Code.{Code}
use Rattle.line.specs.Code as code
use Rattle.line.specs.Said.{Stored}
use Rattle.line.specs.Numbers.{Numbers, are, wrong, past_space, numbers_of}

-- what stands behind a letter or a code: nothing, or at most one space and then numbers
unfoldable pub behind : List ℕ → Numbers
behind [] = are []
behind (b ∷ s) = numbers_of (past_space (b ∷ s))

-- ---- a line outside storing: `@0`, a letter, then its numbers; setting axes has no letter, and no space in front of its number

-- the letters, and no other; A, M and S may be small
unfoldable pub letter_of : ℕ → Letter
letter_of b =
    pick (eqb b (ch "A")) letter.Relative (pick (eqb b (ch "a")) letter.Relative
    (pick (eqb b (ch "M")) letter.Absolute (pick (eqb b (ch "m")) letter.Absolute
    (pick (eqb b (ch "n")) letter.Origin (pick (eqb b (ch "N")) letter.Zero (pick (eqb b (ch "z")) letter.Three
    (pick (eqb b (ch "P")) letter.Position (pick (eqb b (ch "b")) letter.Input (pick (eqb b (ch "B")) letter.Output
    (pick (eqb b (ch "i")) letter.Store (pick (eqb b (ch "k")) letter.Empty
    (pick (eqb b (ch "S")) letter.Start (pick (eqb b (ch "s")) letter.Start
    (pick (eqb b (ch "e")) letter.Plane (pick (eqb b (ch "f")) letter.Direction (pick (eqb b (ch "y")) letter.Circle letter.Wrong))))))))))))))))

-- the line's letter, how many numbers it has and the first eight of them as words; a wrong shape has none
abbrev pub direct : Letter → Numbers → Direct
direct k (are l) = record { letter = k; count = length l; words = pad 8 (map word l) }
direct k wrong = record { letter = letter.Wrong; count = 0; words = pad 8 [] }

abbrev pub by_letter : Letter → ℕ → List ℕ → Direct
by_letter letter.Wrong b s = direct letter.Axes (numbers_of (b ∷ s))
by_letter letter.Axes b s = direct letter.Axes (numbers_of (b ∷ s))
by_letter letter.Relative b s = direct letter.Relative (behind s)
by_letter letter.Absolute b s = direct letter.Absolute (behind s)
by_letter letter.Origin b s = direct letter.Origin (behind s)
by_letter letter.Zero b s = direct letter.Zero (behind s)
by_letter letter.Three b s = direct letter.Three (behind s)
by_letter letter.Position b s = direct letter.Position (behind s)
by_letter letter.Input b s = direct letter.Input (behind s)
by_letter letter.Output b s = direct letter.Output (behind s)
by_letter letter.Store b s = direct letter.Store (behind s)
by_letter letter.Empty b s = direct letter.Empty (behind s)
by_letter letter.Start b s = direct letter.Start (behind s)
by_letter letter.Plane b s = direct letter.Plane (behind s)
by_letter letter.Direction b s = direct letter.Direction (behind s)
by_letter letter.Circle b s = direct letter.Circle (behind s)

unfoldable pub after_address : List ℕ → Direct
after_address [] = direct letter.Wrong wrong
after_address (b ∷ s) = by_letter (letter_of b) b s

unfoldable pub direct_of : List ℕ → Direct
direct_of [] = direct letter.Wrong wrong
direct_of (a ∷ []) = direct letter.Wrong wrong
direct_of (a ∷ b ∷ s) = pick (eqb a (ch "@")) (pick (eqb b (ch "0")) (after_address s) (direct letter.Wrong wrong)) (direct letter.Wrong wrong)

-- ---- a line while storing: a code, then its numbers; `9` alone ends storing

-- the codes, and no other: 0 m n z 3 5 1 2 e f y for a record, 9 for the end
unfoldable pub code_of : ℕ → Code
code_of b =
    pick (eqb b (ch "0")) (code.Record b) (pick (eqb b (ch "m")) (code.Record b) (pick (eqb b (ch "n")) (code.Record b) (pick (eqb b (ch "z")) (code.Record b)
    (pick (eqb b (ch "3")) (code.Record b) (pick (eqb b (ch "5")) (code.Record b) (pick (eqb b (ch "1")) (code.Record b) (pick (eqb b (ch "2")) (code.Record b)
    (pick (eqb b (ch "e")) (code.Record b) (pick (eqb b (ch "f")) (code.Record b) (pick (eqb b (ch "y")) (code.Record b)
    (pick (eqb b (ch "9")) code.End code.Wrong)))))))))))

abbrev pub stored : Code → Numbers → Stored
stored k (are l) = record { code = k; count = length l; words = pad 8 (map word l) }
stored k wrong = record { code = code.Wrong; count = 0; words = pad 8 [] }

abbrev pub by_code : Code → List ℕ → Stored
by_code code.Wrong s = stored code.Wrong wrong
by_code (code.Record c) s = stored (code.Record c) (behind s)
by_code code.End [] = stored code.End (are [])
by_code code.End (b ∷ s) = stored code.Wrong wrong

unfoldable pub stored_of : List ℕ → Stored
stored_of [] = stored code.Wrong wrong
stored_of (b ∷ s) = by_code (code_of b) s

-- ---- on paper: a wrong shape is the reply 5; a letter is its character, setting axes the `0` of `@0`; a record's line is accepted, 0,
-- with its code, and the end line is `9`

abbrev pub letter_paper : Letter → Paper
letter_paper letter.Wrong = says (ch "5") []
letter_paper letter.Axes = says (ch "0") []
letter_paper letter.Relative = says (ch "A") []
letter_paper letter.Absolute = says (ch "M") []
letter_paper letter.Origin = says (ch "n") []
letter_paper letter.Zero = says (ch "N") []
letter_paper letter.Three = says (ch "z") []
letter_paper letter.Position = says (ch "P") []
letter_paper letter.Input = says (ch "b") []
letter_paper letter.Output = says (ch "B") []
letter_paper letter.Store = says (ch "i") []
letter_paper letter.Empty = says (ch "k") []
letter_paper letter.Start = says (ch "S") []
letter_paper letter.Plane = says (ch "e") []
letter_paper letter.Direction = says (ch "f") []
letter_paper letter.Circle = says (ch "y") []

abbrev pub code_paper : Code → Paper
code_paper code.Wrong = says (ch "5") []
code_paper (code.Record c) = says (ch "0") (pos c ∷ [])
code_paper code.End = says (ch "9") []
