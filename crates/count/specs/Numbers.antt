-- Numbers of 24 bits as counts, and numbers of lines and records as words of 32 bits.
use Rattle.std.specs.Prelude.{Bool, true, false, ◌&&◌, ℕ, ◌+◌, ◌-◌, ◌%◌, ltb, ℤ, pos, negsuc, neg_ℤ, ◌+ℤ◌, [], ◌∷◌, Option, Some, None}
use Rattle.std.proofs.Math.IntN.{sub_ℕ}
use Rattle.std.specs.Int.Signed.{le_z}
use Rattle.count.specs.Chars.{ch}
use Rattle.count.specs.Pick.{pick}
use Rattle.count.specs.Paper.{Paper, says}

-- z is from lo to hi, both included
unfoldable pub within : ℤ → ℤ → ℤ → Bool
within lo hi z = le_z lo z && le_z z hi

-- ---- counts: 01, "Lines", last paragraph, sentence 1: positions are -8,388,608 to 8,388,607. A number v of that range is kept as
-- the count v + 8,388,608, so that the counts are the numbers below 16,777,216.

abbrev pub half : ℕ
half = 8388608

abbrev pub full : ℕ
full = 16777216

-- the number that a count stands for, and the count of a number
abbrev pub value : ℕ → ℤ
value c = sub_ℕ c half

abbrev pub count : ℤ → ℕ
count (pos n) = n + half
count (negsuc n) = 8388607 - n

-- of 24 bits
unfoldable pub in24 : ℤ → Bool
in24 z = within (negsuc 8388607) (pos 8388607) z

-- ---- words: 01, "Store", sentence 1: a number is four bytes, two's complement

-- a word is below 2 ^ 32; from 2 ^ 31 on it stands for a negative number
abbrev pub word_half : ℕ
word_half = 2147483648

abbrev pub word_full : ℕ
word_full = 4294967296

-- the number that a word stands for, and the word of a number
unfoldable pub signed : ℕ → ℤ
signed w = pick (ltb w word_half) (pos w) (negsuc (4294967295 - w))

unfoldable pub word : ℤ → ℕ
word (pos n) = n % word_full
word (negsuc n) = 4294967295 - n % word_full

-- a size, with a minus or without
abbrev pub with_sign : Bool → ℕ → ℤ
with_sign true n = neg_ℤ (pos n)
with_sign false n = pos n

-- ---- a number as a place of an axis: its count, or that it lies outside 24 bits (01, "Lines", reply 9)

unfoldable pub placed : ℤ → Option ℕ
placed z = pick (in24 z) (Some (count z)) None

-- a count and a word's distance
unfoldable pub added : ℕ → ℕ → Option ℕ
added c w = placed (value c +ℤ signed w)

-- how far two counts are apart
abbrev pub far : ℕ → ℕ → ℕ
far from to = (to - from) + (from - to)

-- reply 9, or 0 with the place
abbrev pub paper : Option ℕ → Paper
paper (Some c) = says (ch "0") (value c ∷ [])
paper None = says (ch "9") []
