-- Characters and texts as the bytes that are sent: `ch "5"` is 53, and `codes "9\r"` is 57 and 13.
use Rattle.std.specs.Prelude.{ℕ, List, [], ◌∷◌}
use Prim.Native.Char.{Char, code}
use Prim.Native.String.{String, [] as end, ◌∷◌ as ◌then◌}

abbrev pub ch : Char → ℕ
ch c = code c

abbrev pub codes : String → List ℕ
codes end = []
codes (c then s) = ch c ∷ codes s
