-- A record as bytes and back (01, "Store", sentence 1): mark 0xD7 0x2B, code byte, count of numbers, each number as four bytes, lowest
-- first, two's complement.
use Rattle.std.specs.Prelude.{ℕ, zero, suc, ◌+◌, ◌*◌, ◌/◌, ◌%◌, ◌<◌, List, [], ◌∷◌, ◌++◌, Bool, ◌&&◌, length, get_or, take, drop, ltb, leb, eqb}
use Rattle.count.specs.Chars.{ch}
use Rattle.count.specs.Pick.{pick}
use Rattle.count.specs.Words.{pad}
use Rattle.record.specs.declared.Record.{Record}
use Rattle.record.specs.declared.Found.{Found}
use Rattle.record.specs.declared.Found.TheVariants.{Got, Wrong}
use Rattle.record.specs.Fault.{fault_of}

-- ---- written

-- a number: four bytes, lowest first
unfoldable pub bytes4 : ℕ → List ℕ
bytes4 w = w % 256 ∷ w / 256 % 256 ∷ w / 65536 % 256 ∷ w / 16777216 ∷ []

unfoldable pub num_bytes : List ℕ → List ℕ
num_bytes [] = []
num_bytes (w ∷ l) = bytes4 w ++ num_bytes l

-- a record's numbers: its first words, as many as it counts
abbrev pub numbers_of : Record → List ℕ
numbers_of r = take r.count r.words

unfoldable pub encode : Record → List ℕ
encode r = 0xD7 ∷ 0x2B ∷ r.code ∷ length (numbers_of r) ∷ num_bytes (numbers_of r)

-- ---- read

unfoldable pub word_at : List ℕ → ℕ
word_at s = get_or s 0 0 + 256 * get_or s 1 0 + 65536 * get_or s 2 0 + 16777216 * get_or s 3 0

unfoldable pub words_of : ℕ → List ℕ → List ℕ
words_of zero s = []
words_of (suc n) s = word_at s ∷ words_of n (drop 4 s)

abbrev pub made : ℕ → List ℕ → Record
made code l = record { code = code; count = length l; words = pad 8 l }

-- the bytes of a record
abbrev pub length_of : Record → ℕ
length_of r = 4 + 4 * r.count

-- a record is right if its code and numbers have no fault
abbrev pub is_right : ℕ → Record → Bool
is_right axes r = eqb (fault_of axes r.code r.count r.words) (ch "0")

abbrev pub if_right : ℕ → Record → Found
if_right axes r = pick (is_right axes r) (Got r) Wrong

-- the record at the front of s: right in mark, code, count, ranges and speeds, and whole
unfoldable pub front : ℕ → List ℕ → Found
front axes s =
    pick (ltb (length s) 4) Wrong
    (pick (eqb (get_or s 0 0) 0xD7 && eqb (get_or s 1 0) 0x2B)
    (pick (leb (get_or s 3 0) 8 && leb (4 + 4 * get_or s 3 0) (length s))
    (if_right axes (made (get_or s 2 0) (words_of (get_or s 3 0) (drop 4 s))))
    Wrong)
    Wrong)

-- the bytes of a store are below 256, the words of a record below 2 ^ 32: every element of a list is below n
pub record Below (n : ℕ) (l : List ℕ) : Type 0 where
  pub at : (j : ℕ) → get_or l j 0 < n
