-- What the proofs of the open loops share. Assumes nothing.
use Prim.Native.Nat.{ℕ, ◌≤◌}
use mathlib.Core.Path.{◌≡◌, sym, ◌∙◌}
use mathlib.Core.Bool.{false, ◌&&◌}
use mathlib.Core.List.{List, map}
use lib.Dec.{ltb, eqb}
use lib.ListN.{length, length-map}
use borrow.Author.Tests.{le-ltb, ne_eqb}
use Rattle.count.proofs.laws.Truth.{and-false}
use Rattle.program.specs.declared.Loop.{Loop}
use Rattle.program.specs.declared.Loops.{Loops}
use Rattle.program.specs.Onward.{last_of}

-- an array whose elements are structs has its length
pub unmapped : {A B : Type 0} (f : A → B) (l : List A) {n : ℕ} → length (map f l) ≡ n → length l ≡ n
unmapped f l e = sym (length-map l f) ∙ e

-- no counter belongs to the place: none is open, or the one opened last belongs to another
module _ (o : Loops) (place : ℕ) where
  pub none_open : o.depth ≤ 0 → ltb 0 o.depth && eqb (last_of o).place place ≡ false
  none_open h = rw (le-ltb 0 o.depth h)

  pub last-other : {c : Loop} → c ≡ last_of o → (c.place ≡ place → ⊥) → ltb 0 o.depth && eqb (last_of o).place place ≡ false
  last-other e h = rw (← e, ne_eqb _ _ h) (and-false (ltb 0 o.depth))
