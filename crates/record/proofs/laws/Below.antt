-- Lists whose elements are all below a bound: the bytes of a store, the words of a record. Assumes nothing.
use Prim.Native.Nat.{ℕ, zero, suc, ◌+◌, ◌<◌}
use mathlib.Core.List.{List, [], ◌∷◌, ◌++◌}
use lib.ListN.{get_or, take, drop}
use lib.Seq.{get_or-drop}
use Rattle.count.specs.Words.{pad}
use Rattle.record.specs.Bytes.{Below}

module _ (n : ℕ) (h : 0 < n) where
  pub below_none : Below n []
  below_none = record { at = λ j. h }

  cons-below : (x : ℕ) (l : List ℕ) → x < n → ((j : ℕ) → get_or l j 0 < n) → (j : ℕ) → get_or (x ∷ l) j 0 < n
  cons-below x l p b zero = p
  cons-below x l p b (suc j) = b j

  pub below-cons : (x : ℕ) (l : List ℕ) → x < n → Below n l → Below n (x ∷ l)
  below-cons x l p b = record { at = cons-below x l p b.at }

  append-below : (s t : List ℕ) → ((j : ℕ) → get_or s j 0 < n) → ((j : ℕ) → get_or t j 0 < n) → (j : ℕ) → get_or (s ++ t) j 0 < n
  append-below [] t p q j = q j
  append-below (x ∷ s) t p q zero = p 0
  append-below (x ∷ s) t p q (suc j) = append-below s t (λ i. p (suc i)) q j

  pub below-append : (s t : List ℕ) → Below n s → Below n t → Below n (s ++ t)
  below-append s t b c = record { at = append-below s t b.at c.at }

  take_below : (k : ℕ) (s : List ℕ) → ((j : ℕ) → get_or s j 0 < n) → (j : ℕ) → get_or (take k s) j 0 < n
  take_below zero s b j = h
  take_below (suc k) [] b j = h
  take_below (suc k) (x ∷ s) b zero = b 0
  take_below (suc k) (x ∷ s) b (suc j) = take_below k s (λ i. b (suc i)) j

  pub below-take : (k : ℕ) (s : List ℕ) → Below n s → Below n (take k s)
  below-take k s b = record { at = take_below k s b.at }

  pad-below : (k : ℕ) (l : List ℕ) → ((j : ℕ) → get_or l j 0 < n) → (j : ℕ) → get_or (pad k l) j 0 < n
  pad-below zero l b j = h
  pad-below (suc k) [] b zero = h
  pad-below (suc k) [] b (suc j) = pad-below k [] b j
  pad-below (suc k) (x ∷ l) b zero = b 0
  pad-below (suc k) (x ∷ l) b (suc j) = pad-below k l (λ i. b (suc i)) j

  pub below-pad : (k : ℕ) (l : List ℕ) → Below n l → Below n (pad k l)
  below-pad k l b = record { at = pad-below k l b.at }

pub below-drop : (n k : ℕ) (s : List ℕ) → Below n s → Below n (drop k s)
below-drop n k s b = record { at = λ j. rw get_or-drop (b.at (k + j)) }
