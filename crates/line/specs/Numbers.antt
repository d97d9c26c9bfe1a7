-- The numbers of a line (01, "Lines", paragraph 1; 02 §8): a comma between each two, and behind a comma a space or none. A number has 1 to 8
-- digits, with a minus in front or none.
use Rattle.std.specs.Prelude.{ℕ, ◌+◌, ◌-◌, ◌*◌, List, [], ◌∷◌, length, ltb, eqb, ℤ, pos, neg_ℤ}
use Rattle.count.specs.Chars.{ch}
use Rattle.count.specs.Pick.{pick}

-- a size that is read, or a text that is none
pub data Size : Type 0 where
  size : ℕ → Size
  no_size : Size

-- the digits of s written behind the number v
unfoldable pub digits_behind : ℕ → List ℕ → Size
digits_behind v [] = size v
digits_behind v (b ∷ s) = pick (ltb b (ch "0")) no_size (pick (ltb (ch "9") b) no_size (digits_behind (10 * v + (b - (ch "0"))) s))

-- 1 to 8 digits
unfoldable pub digits_of : List ℕ → Size
digits_of s = pick (eqb (length s) 0) no_size (pick (ltb 8 (length s)) no_size (digits_behind 0 s))

-- a number that is read, or a text that is none
pub data Number : Type 0 where
  is : ℤ → Number
  no_number : Number

abbrev pub plus : Size → Number
plus (size n) = is (pos n)
plus no_size = no_number

abbrev pub minus : Size → Number
minus (size n) = is (neg_ℤ (pos n))
minus no_size = no_number

-- an optional minus and 1 to 8 digits
unfoldable pub number_of : List ℕ → Number
number_of [] = no_number
number_of (b ∷ s) = pick (eqb b (ch "-")) (minus (digits_of s)) (plus (digits_of (b ∷ s)))

-- past one space, if one stands in front
abbrev pub past_space : List ℕ → List ℕ
past_space [] = []
past_space (b ∷ s) = pick (eqb b (ch " ")) s (b ∷ s)

-- what stands behind a comma: at most one space, then a number and nothing else (02 §8)
abbrev pub item_of : List ℕ → Number
item_of s = number_of (past_space s)

-- the texts between the commas
abbrev pub onto : ℕ → List (List ℕ) → List (List ℕ)
onto b [] = (b ∷ []) ∷ []
onto b (f ∷ fs) = (b ∷ f) ∷ fs

unfoldable pub parted : List ℕ → List (List ℕ)
parted [] = [] ∷ []
parted (b ∷ s) = pick (eqb b (ch ",")) ([] ∷ parted s) (onto b (parted s))

-- the numbers that are read, or that one of the items is none
pub data Numbers : Type 0 where
  are : List ℤ → Numbers
  wrong : Numbers

abbrev pub and_then : Number → Numbers → Numbers
and_then (is z) (are l) = are (z ∷ l)
and_then (is z) wrong = wrong
and_then no_number n = wrong

-- the texts behind the commas
unfoldable pub items_of : List (List ℕ) → Numbers
items_of [] = are []
items_of (f ∷ fs) = and_then (item_of f) (items_of fs)

-- one number or more: a number, and what stands behind each comma
abbrev pub first_of : List (List ℕ) → Numbers
first_of [] = are []
first_of (f ∷ fs) = and_then (number_of f) (items_of fs)

unfoldable pub numbers_of : List ℕ → Numbers
numbers_of s = first_of (parted s)
