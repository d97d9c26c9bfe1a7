-- Stands in contracts of functions that are not exported: nothing of it need be believed.
use Rattle.std.specs.Prelude.{ℕ, ◌+◌, Bool, List, eqb, get_or}

-- a program as two lists: what each place is, and its offset counted from -32,768
abbrev pub loop_in : List ℕ → ℕ → Bool
loop_in ks i = eqb (get_or ks i 0) 1

abbrev pub turn_in : List ℕ → ℕ → Bool
turn_in ks i = eqb (get_or ks i 0) 2

abbrev pub far_in : List ℕ → ℕ → ℕ
far_in os i = i + get_or os i 0
