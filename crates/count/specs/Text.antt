-- Numbers as text: hexadecimal capitals (01, "Lines", rows P and b), decimal (01, "Store", the lister; "walk"), and a record's place as four
-- digits (02 §1).
use Rattle.std.specs.Prelude.{List, [], ◌∷◌, ◌++◌, ℕ, zero, suc, ◌+◌, ◌-◌, ◌/◌, ◌%◌, ltb, ℤ, pos, negsuc, length, drop}
use Rattle.count.specs.Chars.{ch}
use Rattle.count.specs.Pick.{pick}
use Rattle.count.specs.Numbers.{full, value}

-- ---- writing at the front of a lent part

-- the bytes written, and the part afterwards
pub record Written : Type 0 where
  pub len : ℕ
  pub text : List ℕ

abbrev pub written : ℕ → List ℕ → Written
written n s = record { len = n; text = s }

-- a text at the front, the bytes past it as they were; a part of fewer than `room` bytes stays as it is, and the length is 0
unfoldable pub wrote : ℕ → List ℕ → List ℕ → Written
wrote room t s = pick (ltb (length s) room) (written 0 s) (written (length t) (t ++ drop (length t) s))

-- ---- hexadecimal capitals

-- 0 to 9 and A to F
unfoldable pub hex_digit : ℕ → ℕ
hex_digit n = pick (ltb n 10) (ch "0" + n) (ch "A" + (n - 10))

-- the last k hexadecimal digits of n
unfoldable pub hexes : ℕ → ℕ → List ℕ
hexes zero n = []
hexes (suc k) n = hexes k (n / 16) ++ hex_digit (n % 16) ∷ []

-- the last k digits of n in a base of at most 16
unfoldable pub last_digits : ℕ → ℕ → ℕ → List ℕ
last_digits base zero n = []
last_digits base (suc k) n = last_digits base k (n / base) ++ hex_digit (n % base) ∷ []

-- two's complement in 24 bits
unfoldable pub twos24 : ℤ → ℕ
twos24 (pos n) = n % full
twos24 (negsuc n) = 16777215 - n % full

-- a position as P reports it: six hexadecimal capitals, two's complement
unfoldable pub report : ℕ → List ℕ
report c = hexes 6 (twos24 (value c))

-- an input port's byte as b reports it: two hexadecimal capitals
unfoldable pub two_hex : ℕ → List ℕ
two_hex b = hexes 2 b

-- ---- decimal

-- the digits of n, k at most, without needless zeros
unfoldable pub decimal : ℕ → ℕ → List ℕ
decimal zero n = []
decimal (suc k) n = pick (ltb n 10) ((ch "0" + n) ∷ []) (decimal k (n / 10) ++ (ch "0" + n % 10) ∷ [])

-- the digits of a number of 32 bits
unfoldable pub digits : ℕ → List ℕ
digits n = decimal 10 n

-- a minus where it is below 0, then the digits
unfoldable pub shown : ℤ → List ℕ
shown (pos n) = digits n
shown (negsuc n) = ch "-" ∷ digits (suc n)

-- ---- a record's place as four digits

-- the last k decimal digits of n
unfoldable pub decimals : ℕ → ℕ → List ℕ
decimals zero n = []
decimals (suc k) n = decimals k (n / 10) ++ (ch "0" + n % 10) ∷ []

unfoldable pub four_digits : ℕ → List ℕ
four_digits p = decimals 4 p
