-- The fields of a line of questions: words parted by one space each, of which some are whole numbers, some the bits of a float and some the bytes of a store. The paper
-- knows no such line; this is ours alone (D165).
use Rattle.std.specs.Prelude.{ℕ, ◌+◌, ◌-◌, ◌*◌, ◌/◌, ◌%◌, Bool, true, false, ◌&&◌, ◌||◌, List, [], ◌∷◌, ◌++◌, leb, eqb, ℤ, pos, negsuc, length, drop, Option, Some, None}
use Rattle.count.specs.Chars.{ch}
use Rattle.count.specs.Pick.{pick, every}
use Rattle.count.specs.Numbers.{within, with_sign}
use Rattle.reader.specs.Reader.{is_digit, hex_value, with_hex}

-- the bytes before the next space, or all of them if there is none
unfoldable pub field_length : List ℕ → ℕ
field_length [] = 0
field_length (b ∷ s) = pick (eqb b (ch " ")) 0 (field_length s + 1)

-- where the field that starts at a place of the text ends
abbrev pub field_end : List ℕ → ℕ → ℕ
field_end text from = from + field_length (drop from text)

-- ---- a whole number: an optional minus and 1 to 19 digits, of 64 bits with its sign

-- a size with these digits behind it
unfoldable pub with_digits : List ℕ → ℕ → ℕ
with_digits [] n = n
with_digits (b ∷ s) n = with_digits s (n * 10 + (b - ch "0"))

abbrev pub in64 : ℤ → Bool
in64 z = within (negsuc 9223372036854775807) (pos 9223372036854775807) z

unfoldable pub signed_whole : Bool → List ℕ → Option ℤ
signed_whole minus s =
    let z = with_sign minus (with_digits s 0) in
    pick (leb 1 (length s) && leb (length s) 19 && every is_digit s && in64 z) (Some z) None

unfoldable pub whole_of : List ℕ → Option ℤ
whole_of [] = None
whole_of (b ∷ s) = pick (eqb b (ch "-")) (signed_whole true s) (signed_whole false (b ∷ s))

-- ---- the bits of a float: sixteen hexadecimal digits, with small letters

abbrev pub is_hex : ℕ → Bool
is_hex b = is_digit b || (leb (ch "a") b && leb b (ch "f"))

unfoldable pub bits_of : List ℕ → Option ℕ
bits_of s = pick (eqb (length s) 16 && every is_hex s) (Some (with_hex s 0)) None

-- ---- bytes: two hexadecimal digits each, with small letters, or `-` for none

unfoldable pub is_dash : List ℕ → Bool
is_dash [] = false
is_dash (b ∷ []) = eqb b (ch "-")
is_dash (b ∷ c ∷ s) = false

-- at least one pair of digits, at most so many, and nothing else
unfoldable pub are_pairs : List ℕ → ℕ → Bool
are_pairs s most =
    let n = length s / 2 in
    leb 1 n && leb n most && eqb (length s % 2) 0 && every is_hex s

-- the byte of two digits, the higher one first
abbrev pub byte_of : ℕ → ℕ → ℕ
byte_of high low = hex_value high * 16 + hex_value low

-- the byte of each pair
unfoldable pub pairs : List ℕ → List ℕ
pairs [] = []
pairs (b ∷ []) = []
pairs (b ∷ c ∷ s) = byte_of b c ∷ pairs s

-- whether the field is right, and the lent bytes afterwards
pub record Given : Type 0 where
  pub right : Bool
  pub bytes : List ℕ

abbrev pub given : Bool → List ℕ → Given
given right bytes = record { right = right; bytes = bytes }

-- the lent bytes hold the field's at their front, and behind that what they held; with `-` and with a wrong field they stay as found
unfoldable pub bytes_of : List ℕ → List ℕ → Given
bytes_of s bytes =
    pick (is_dash s) (given true bytes)
    (pick (are_pairs s (length bytes)) (given true (pairs s ++ drop (length (pairs s)) bytes)) (given false bytes))
