-- What a line says, and what the code answers of one: a line, or none where its shape is wrong.
use Rattle.std.specs.Prelude.{ℕ, List, [], Option, Some, None}
use Rattle.count.specs.Words.{pad}
use Rattle.line.specs.declared.Letter.{Letter as Found}
use Rattle.line.specs.declared.Letter.TheVariants as found
use Rattle.line.specs.declared.Direct.{Direct as FoundDirect}
use Rattle.line.specs.declared.Code.{Code as FoundCode}
use Rattle.line.specs.declared.Code.TheVariants as mark
use Rattle.line.specs.declared.Stored.{Stored as FoundStored}
use Rattle.line.specs.Letter.{Letter}
use Rattle.line.specs.Letter as letter
use Rattle.line.specs.Code.{Code}
use Rattle.line.specs.Code as code

-- a line outside storing: its letter, how many numbers it has, and the first eight of them as words
pub record Direct : Type 0 where
  pub letter : Letter
  pub count : ℕ
  pub words : List ℕ

-- a line while storing: its code, how many numbers it has, and the first eight of them as words
pub record Stored : Type 0 where
  pub code : Code
  pub count : ℕ
  pub words : List ℕ

-- ---- the code's letters and codes, and none for a wrong shape

abbrev pub letter_said : Found → Letter
letter_said found.Axes = letter.Axes
letter_said found.Relative = letter.Relative
letter_said found.Absolute = letter.Absolute
letter_said found.Origin = letter.Origin
letter_said found.Zero = letter.Zero
letter_said found.Three = letter.Three
letter_said found.Position = letter.Position
letter_said found.Input = letter.Input
letter_said found.Output = letter.Output
letter_said found.Store = letter.Store
letter_said found.Empty = letter.Empty
letter_said found.Start = letter.Start
letter_said found.Plane = letter.Plane
letter_said found.Direction = letter.Direction
letter_said found.Circle = letter.Circle

abbrev pub code_said : FoundCode → Code
code_said (mark.Record c) = code.Record c
code_said mark.End = code.End

abbrev pub letter_found : Option Found → Letter
letter_found (Some l) = letter_said l
letter_found None = letter.Wrong

abbrev pub code_found : Option FoundCode → Code
code_found (Some k) = code_said k
code_found None = code.Wrong

-- ---- the code's lines

abbrev pub direct_found : Option FoundDirect → Direct
direct_found (Some d) = record { letter = letter_said d.letter; count = d.count; words = d.words }
direct_found None = record { letter = letter.Wrong; count = 0; words = pad 8 [] }

abbrev pub stored_found : Option FoundStored → Stored
stored_found (Some d) = record { code = code_said d.code; count = d.count; words = d.words }
stored_found None = record { code = code.Wrong; count = 0; words = pad 8 [] }
