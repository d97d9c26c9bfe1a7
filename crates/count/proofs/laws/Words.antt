-- Laws of an array's numbers. Assumes nothing.
use mathlib.Core.Path.{◌≡◌, refl, ap}
use mathlib.Core.List.{List, [], ◌∷◌, ◌++◌}
use Prim.Native.Nat.{ℕ, zero, suc}
use lib.ListN.{length, set}
use Rattle.count.specs.Words.{pad}

-- one more number, where there is room for it and where there is none
pub pad-put : (n : ℕ) (l : List ℕ) (x : ℕ) → set (pad n l) (length l) x ≡ pad n (l ++ x ∷ [])
pad-put zero l x = refl
pad-put (suc n) [] x = refl
pad-put (suc n) (y ∷ l) x = ap (λ (m : List ℕ). y ∷ m) (pad-put n l x)

pub length-pad : (n : ℕ) (l : List ℕ) → length (pad n l) ≡ n
length-pad zero l = refl
length-pad (suc n) [] = ap suc (length-pad n [])
length-pad (suc n) (x ∷ l) = ap suc (length-pad n l)
