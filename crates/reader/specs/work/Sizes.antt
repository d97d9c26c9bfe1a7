-- A whole number as the code reads it: the size of its digits first, then the sign. Definitions only.
use Rattle.std.specs.Prelude.{ℕ, ◌+◌, ◌-◌, ◌*◌, Bool, List, [], ◌∷◌, ℤ, Option, Some, None}
use Rattle.count.specs.Chars.{ch}
use Rattle.count.specs.Pick.{pick}
use Rattle.count.specs.Numbers.{with_sign}
use Rattle.reader.specs.Reader.{is_digit}
use Rattle.reader.specs.Fields.{in64}

-- a size with these bytes behind it, if they are digits
unfoldable pub size_from : List ℕ → ℕ → Option ℕ
size_from [] n = Some n
size_from (b ∷ s) n = pick (is_digit b) (size_from s (n * 10 + (b - ch "0"))) None

unfoldable pub sized_whole : Bool → ℕ → Option ℤ
sized_whole minus n = pick (in64 (with_sign minus n)) (Some (with_sign minus n)) None
