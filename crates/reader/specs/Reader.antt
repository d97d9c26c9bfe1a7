-- The numbers of a text of vectors. The paper knows no such text; this is ours alone.
use Rattle.std.specs.Prelude.{ℕ, zero, suc, ◌+◌, ◌-◌, ◌*◌, ◌%◌, Bool, false, not, ◌&&◌, ◌||◌, List, [], ◌∷◌, ltb, leb, eqb, take, drop}
use Rattle.count.specs.Chars.{ch}
use Rattle.count.specs.Pick.{pick}
use Rattle.count.specs.Numbers.{word, with_sign}
use Rattle.reader.specs.declared.Number.{Number}

abbrev pub is_digit : ℕ → Bool
is_digit b = leb (ch "0") b && leb b (ch "9")

-- one digit more, to nine digits; any other byte leaves the size
unfoldable pub with_digit : ℕ → ℕ → ℕ
with_digit size b = pick (ltb size 100000000 && is_digit b) (size * 10 + (b - (ch "0"))) size

abbrev pub number : Bool → ℕ → ℕ → Number
number minus size at = record { word = word (with_sign minus size); at = at }

-- the bytes from byte i on, with the size so far, whether a minus stood there, and whether the digits have begun: the first byte behind
-- the digits ends the number, and the text goes on behind it
unfoldable pub reading : List ℕ → ℕ → ℕ → Bool → Bool → Number
reading [] i size minus begun = number minus size i
reading (b ∷ s) i size minus begun =
    pick (begun && not (is_digit b)) (number minus size (i + 1)) (reading s (i + 1) (with_digit size b) (minus || eqb b (ch "-")) (begun || is_digit b))

-- what stands before the first digit is passed over, but a minus counts
abbrev pub number_at : List ℕ → ℕ → Number
number_at text from = reading (drop from text) from 0 false false

-- n numbers from a place of the text on, each from where the one before it ends
unfoldable pub words_at : ℕ → List ℕ → ℕ → List ℕ
words_at zero text from = []
words_at (suc n) text from = (number_at text from).word ∷ words_at n text (number_at text from).at

-- where the text goes on behind n numbers
unfoldable pub behind_words : ℕ → List ℕ → ℕ → ℕ
behind_words zero text from = from
behind_words (suc n) text from = behind_words n text (number_at text from).at

-- a hexadecimal digit, 0 to 9 or a to f; any other byte counts as 0
unfoldable pub hex_value : ℕ → ℕ
hex_value b = pick (is_digit b) (b - ch "0") (pick (leb (ch "a") b && leb b (ch "f")) (b - ch "a" + 10) 0)

-- a number with the digits of these bytes behind it; what falls out of 64 bits is left out
unfoldable pub with_hex : List ℕ → ℕ → ℕ
with_hex [] n = n
with_hex (b ∷ s) n = with_hex s (n % 0x1000000000000000 * 16 + hex_value b)

-- the number of so many digits from a place of the text on
abbrev pub hex_at : List ℕ → ℕ → ℕ → ℕ
hex_at text from digits = with_hex (take digits (drop from text)) 0
