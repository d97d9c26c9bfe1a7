-- The first numbers of a list in an array of a fixed length.
use Rattle.std.specs.Prelude.{List, [], ◌∷◌, ℕ, zero, suc}

-- the first n of l, filled up with zeros
abbrev pub pad : ℕ → List ℕ → List ℕ
pad zero l = []
pad (suc n) [] = 0 ∷ pad n []
pad (suc n) (x ∷ l) = x ∷ pad n l
