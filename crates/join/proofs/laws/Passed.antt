-- What a join that is not refused has passed, test by test; what G says of two accepted programs; and what a refused join gives back.
-- Assumes nothing.
use Prim.Native.Nat.{ℕ, ◌+◌, ◌≤◌}
use mathlib.Core.Bool.{Bool, true, false, not, ◌||◌}
use mathlib.Core.List.{List}
use mathlib.Core.Path.{◌≡◌, refl, sym, ◌∙◌, ap}
use native.Mathlib.Omega.{arith}
use borrow.Author.Tests.{eqb-true, eqb-false, leb-true, ne_eqb}
use lib.Dec.{leb, eqb}
use lib.ListN.{length}
use Rattle.count.specs.Pick.{pick}
use Rattle.count.proofs.laws.Truth.{never, and_parts}
use Rattle.count.proofs.laws.Truth.{both as true-both}
use Rattle.record.specs.declared.Held.{Held}
use Rattle.record.specs.Memory.{Memory, table_fits}
use Rattle.count.specs.Axes.{axes_set}
use Rattle.program.specs.Program as program
use Rattle.join.specs.Join.{axes_beside, counted, stores_right, axes_right, both_accepted, enters_range, room_right, refusal_of, both, joined_memory, Joining, joining, answer, join_of}

module _ (a : Held) (m : Memory) (b : Held) (t : List ℕ) where
  pub record Passed : Type 0 where
    pub stores : stores_right m.store t ≡ true
    pub table : table_fits m ≡ true
    pub axes : axes_right a b ≡ true
    pub accepted : both_accepted a m.store b t ≡ true
    pub apart : enters_range a m.store b t ≡ false
    pub room : room_right a b ≡ true

  passed-by : (v f w x y z : Bool) → stores_right m.store t ≡ v → table_fits m ≡ f → axes_right a b ≡ w → both_accepted a m.store b t ≡ x → enters_range a m.store b t ≡ y → room_right a b ≡ z
      → pick {A = ℕ} (not v) 102 (pick (not f) 104 (pick (not w) 51 (pick (not x || y) 71 (pick (not z) 54 0)))) ≡ 0 → Passed
  passed-by true true true true false true p q r u v w e = record { stores = p; table = q; axes = r; accepted = u; apart = v; room = w }
  passed-by true true true true false false p q r u v w e = absurd (omega arith)
  passed-by true true true true true z p q r u v w e = absurd (omega arith)
  passed-by true true true false y z p q r u v w e = absurd (omega arith)
  passed-by true true false x y z p q r u v w e = absurd (omega arith)
  passed-by true false o x y z p q r u v w e = absurd (omega arith)
  passed-by false f o x y z p q r u v w e = absurd (omega arith)

  pub passed : refusal_of a m b t ≡ 0 → Passed
  unfolding refusal_of
  passed e =
      passed-by (stores_right m.store t) (table_fits m) (axes_right a b) (both_accepted a m.store b t) (enters_range a m.store b t) (room_right a b) refl refl refl refl refl refl e

  same-axes : axes_right a b ≡ true → (axes_beside a b ≡ axes_beside b a) × (axes_set (axes_beside a b) ≡ true)
  unfolding axes_right
  same-axes e = let d = and_parts (eqb (axes_beside a b) (axes_beside b a)) (axes_set (axes_beside a b)) e in (eqb-true _ _ d.0, d.1)

  module _ (p : Passed) where
    pub long : (length m.store ≡ 16384) × (length t ≡ 16384) × (length m.table ≡ 1000)
    unfolding stores_right
    long =
        let d = and_parts (eqb (length m.store) 16384) (eqb (length t) 16384) p.stores in
        (eqb-true _ _ d.0, eqb-true _ _ d.1, eqb-true _ _ p.table)

    pub few : (a.records + b.records ≤ 1000) × (a.used + b.used ≤ 16384)
    unfolding room_right
    few = let d = and_parts (leb (a.records + b.records) 1000) (leb (a.used + b.used) 16384) p.room in (leb-true _ _ d.0, leb-true _ _ d.1)

    pub alike : (axes_beside a b ≡ axes_beside b a) × (axes_set (axes_beside a b) ≡ true)
    alike = same-axes p.axes

    pub each : (program.accepted (counted a b) m.store ≡ true) × (program.accepted (counted b a) t ≡ true)
    unfolding both_accepted
    each = and_parts (program.accepted (counted a b) m.store) (program.accepted (counted b a) t) p.accepted

  -- ---- G of two accepted programs: they are of the same axes, and a jump or wait leads into a range

  enters-by : (v f w x y z : Bool) → pick {A = ℕ} (not v) 102 (pick (not f) 104 (pick (not w) 51 (pick (not x || y) 71 (pick (not z) 54 0)))) ≡ 71 → x ≡ true → (w ≡ true) × (y ≡ true)
  enters-by true true true x true z e g = (refl, refl)
  enters-by true true true true false true e g = absurd (omega arith)
  enters-by true true true true false false e g = absurd (omega arith)
  enters-by true true true false false z e g = never g
  enters-by true true false x y z e g = absurd (omega arith)
  enters-by true false w x y z e g = absurd (omega arith)
  enters-by false f w x y z e g = absurd (omega arith)

  pub enters : refusal_of a m b t ≡ 71 → program.accepted (counted a b) m.store ≡ true → program.accepted (counted b a) t ≡ true
      → (axes_beside a b ≡ axes_beside b a) × (enters_range a m.store b t ≡ true)
  unfolding refusal_of both_accepted
  enters e p q =
      let d = enters-by (stores_right m.store t) (table_fits m) (axes_right a b) (both_accepted a m.store b t) (enters_range a m.store b t) (room_right a b) e (true-both p q) in
      ((same-axes d.0).0, d.1)

  -- ---- the outcome

  pub not-refused : {r : ℕ} → r ≡ refusal_of a m b t → r ≡ 0 → refusal_of a m b t ≡ 0
  not-refused e z = sym e ∙ z

  pub refused : {r : ℕ} → r ≡ refusal_of a m b t → (r ≡ 0 → ⊥) → joining (answer r a) m ≡ join_of a m b t
  unfolding join_of
  refused e n = rw (← e, ne_eqb _ 0 n)

  pub joined : refusal_of a m b t ≡ 0 → joining (answer 0 (both a b)) (joined_memory a m b t) ≡ join_of a m b t
  unfolding join_of
  joined e = rw e

  -- the refusal that is answered
  pub refusal_is : (join_of a m b t).joined.refusal ≡ refusal_of a m b t
  refusal_is = by (eqb (refusal_of a m b t) 0) refl
    where
      by : (q : Bool) → eqb (refusal_of a m b t) 0 ≡ q → (join_of a m b t).joined.refusal ≡ refusal_of a m b t
      by true e = let z = eqb-true (refusal_of a m b t) 0 e in ap (λ (j : Joining). j.joined.refusal) (sym (joined z)) ∙ sym z
      by false e = ap (λ (j : Joining). j.joined.refusal) (sym (refused refl (eqb-false (refusal_of a m b t) 0 e)))
