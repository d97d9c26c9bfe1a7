-- Laws on parts of lists that the proofs of every crate cite. Assumes nothing.
use mathlib.Core.Path.{◌≡◌, refl, ap}
use mathlib.Core.List.{List, [], ◌∷◌, ◌++◌, append_assoc, append-nil}
use Prim.Native.Nat.{ℕ, suc, ◌+◌, ◌-◌, ◌≤◌, ◌<◌}
use native.Mathlib.Nat.{le_refl}
use native.Mathlib.Numerals.{add-one}
use native.Mathlib.Omega.{arith}
use lib.ListN.{length, get_or, take, drop, set, length-append, length-drop, drop_of_length-le}
use lib.Seq.{take_all, drop-nil, drop-cons, set-append_seam}
use borrow.Rule.Slice.PartMut.{put_mid}

-- the element at i, and what lies behind it
pub next : (s : List ℕ) (i : ℕ) → i < length s → drop i s ≡ get_or s i 0 ∷ drop (i + 1) s
next s i h = rw (add-one, drop-cons s i 0)

-- the part of a slice from `at` to its end
pub rest : (at : ℕ) (s : List ℕ) → take (length s - at) (drop at s) ≡ drop at s
rest at s = take_all (length s - at) (drop at s) (simp length-drop (le_refl _))

-- a part that goes to the end has come back
pub to_end : (a : ℕ) (xs ys : List ℕ) → put_mid a (length xs - a) xs ys ≡ take a xs ++ ys
to_end a xs ys =
    let h : length (drop a xs) ≤ length xs - a = rw length-drop (le_refl _) in
    rw (drop_of_length-le (drop a xs) h, append-nil)

-- one more element behind the first ones of a list
pub put-behind : (d s : List ℕ) (x : ℕ) → length d < length s
    → set (d ++ drop (length d) s) (length d) x ≡ (d ++ x ∷ []) ++ drop (length (d ++ x ∷ [])) s
put-behind d s x h = rw (drop-cons s (length d) 0 h, set-append_seam, append_assoc, length-append, add-one)

-- a part from the second element on has come back, and then the first is set
pub set_front : (s ys : List ℕ) (x : ℕ) → 1 ≤ length s → set (put_mid 1 (length s - 1) s ys) 0 x ≡ x ∷ ys
set_front [] ys x h = absurd (omega arith)
set_front (y ∷ s) ys x h = ap (λ (l : List ℕ). set l 0 x) (to_end 1 (y ∷ s) ys)

pub drop-one : (k : ℕ) (s : List ℕ) → drop k (drop 1 s) ≡ drop (suc k) s
drop-one k [] = drop-nil k
drop-one k (x ∷ s) = refl
