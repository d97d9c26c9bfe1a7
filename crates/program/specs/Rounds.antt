-- How often a loop goes back (01, "Running a program", paragraph 2).
use Rattle.std.specs.Prelude.{ℕ, zero, suc, List, [], ◌∷◌, ◌≡◌}

-- the places that a loop's record has sent a run to, one after the other: back c times, then on, again and again; k is how often it still
-- goes back before it goes on
abbrev pub Rounds : ℕ → ℕ → ℕ → ℕ → List ℕ → Type 0
Rounds back on c k [] = Unit
Rounds back on c zero (q ∷ ts) = (q ≡ on) × Rounds back on c c ts
Rounds back on c (suc k) (q ∷ ts) = (q ≡ back) × Rounds back on c k ts
