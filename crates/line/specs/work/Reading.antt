-- How the code reads the numbers of a line: one pass over the bytes, with no second look for a comma.
use Rattle.std.specs.Prelude.{ℕ, ◌+◌, ◌-◌, ◌*◌, List, [], ◌∷◌, map, Bool, true, false, Option, Some, None, length, ltb, eqb}
use Rattle.count.specs.Pick.{pick}
use Rattle.count.specs.Numbers.{word, with_sign}
use Rattle.count.specs.Words.{pad}
use Rattle.line.specs.declared.numbers.Item.{Item}
use Rattle.line.specs.declared.numbers.Items.{Items}
use Rattle.line.specs.Said.{Direct}
use Rattle.line.specs.Said.{Stored}
use Rattle.line.specs.Code.{Code}
use Rattle.line.specs.Code as code
use Rattle.line.specs.Letter.{Letter}
use Rattle.line.specs.Letter as letter
use Rattle.line.specs.Numbers.{Numbers, are, wrong}
use Rattle.line.specs.Lines.{direct, stored}

-- a number that is its line's last, and one with a comma behind it, byte j behind that comma
abbrev pub last : ℕ → Item
last w = record { word = w; next = None }

abbrev pub more : ℕ → ℕ → Item
more w j = record { word = w; next = Some j }

-- the text from byte i on, where d digits of the number were read, of the size v so far
unfoldable pub reading : Bool → ℕ → ℕ → ℕ → List ℕ → Option Item
reading m i d v [] = pick (eqb d 0) None (Some (last (word (with_sign m v))))
reading m i d v (b ∷ s) =
    pick (eqb b 44) (pick (eqb d 0) None (Some (more (word (with_sign m v)) (i + 1))))
    (pick (ltb b 48) None (pick (ltb 57 b) None
    (pick (ltb d 8) (reading m (i + 1) (d + 1) (10 * v + (b - 48)) s) None)))

-- the number at the front of the text from byte i on
unfoldable pub item_from : ℕ → List ℕ → Option Item
item_from i [] = reading false i 0 0 []
item_from i (b ∷ s) = pick (eqb b 45) (reading true (i + 1) 0 0 s) (reading false i 0 0 (b ∷ s))

-- where a number begins in the text from byte i on: past one space, if one stands there
unfoldable pub spaced : ℕ → List ℕ → ℕ
spaced i [] = i
spaced i (b ∷ s) = pick (eqb b 32) (i + 1) i

-- the numbers as the code keeps them, if each of them is one: how many, and the first eight as words
abbrev pub items : Numbers → Option Items
items (are l) = Some (record { count = length l; words = pad 8 (map word l) })
items wrong = None

-- a letter or a code with the numbers that were read behind it
abbrev pub with_letter : Letter → Option Items → Direct
with_letter k (Some i) = record { letter = k; count = i.count; words = i.words }
with_letter k None = direct letter.Wrong wrong

abbrev pub with_code : Code → Option Items → Stored
with_code k (Some i) = record { code = k; count = i.count; words = i.words }
with_code k None = stored code.Wrong wrong

-- a letter, and not the answer that there is none
abbrev pub lettered : Letter → Bool
lettered letter.Wrong = false
lettered letter.Axes = false
lettered letter.Relative = true
lettered letter.Absolute = true
lettered letter.Origin = true
lettered letter.Zero = true
lettered letter.Three = true
lettered letter.Position = true
lettered letter.Input = true
lettered letter.Output = true
lettered letter.Store = true
lettered letter.Empty = true
lettered letter.Start = true
lettered letter.Plane = true
lettered letter.Direction = true
lettered letter.Circle = true
