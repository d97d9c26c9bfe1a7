-- The tests of a join, as the code makes them one after the other. Assumes nothing.
use Prim.Native.Nat.{ℕ}
use mathlib.Core.Bool.{Bool, true, false, not, ◌&&◌, ◌||◌}
use mathlib.Core.List.{List}
use mathlib.Core.Path.{◌≡◌, refl, sym}
use borrow.Author.Tests.{eq-eqb, ne_eqb}
use lib.Dec.{eqb}
use lib.ListN.{length}
use Rattle.record.specs.declared.Held.{Held}
use Rattle.record.specs.Memory.{Memory}
use Rattle.record.specs.Places.{records_of}
use Rattle.program.specs.Program.{accepted}
use Rattle.program.specs.Edges.{Acceptance, leads_out, starts_first, of_these, acceptance_of}
use Rattle.program.proofs.laws.Marks.{not-both}
use Rattle.join.specs.Join.{counted, stores_right, axes_right, both_accepted, enters_range, room_right, refusal_of}

-- what is told of an accepted program is asked only if both are
both_first : (p q o f : Bool) → not (p && q) || ((p && o) && (q && f)) ≡ not (p && q) || (o && f)
both_first true true o f = refl
both_first true false o f = refl
both_first false q o f = refl

pub stores-so : (s t : List ℕ) → not (eqb (length s) 16384) || not (eqb (length t) 16384) ≡ not (stores_right s t)
unfolding stores_right
stores-so s t = sym (not-both (eqb (length s) 16384) (eqb (length t) 16384))

module _ (a : Held) (s : List ℕ) (b : Held) (t : List ℕ) where
  pub accepts-so : {h k : Held} {x y : Acceptance} → h ≡ counted a b → k ≡ counted b a → x ≡ acceptance_of h s → y ≡ acceptance_of k t
      → not (x.accepted && y.accepted) || (x.out && y.first) ≡ not (both_accepted a s b t) || enters_range a s b t
  unfolding both_accepted enters_range acceptance_of
  accepts-so p q e f =
      rw (e, f, p, q)
      (both_first (accepted (counted a b) s) (accepted (counted b a) t) (of_these leads_out (records_of (counted a b) s)) (of_these starts_first (records_of (counted b a) t)))

-- ---- the refusals in their order

module _ (a : Held) (m : Memory) (b : Held) (t : List ℕ) where
  pub is-102 : not (stores_right m.store t) ≡ true → 102 ≡ refusal_of a m b t
  unfolding refusal_of
  is-102 e = rw e

  module _ (c : not (stores_right m.store t) ≡ false) where
    pub is-104 : (length m.table ≡ 1000 → ⊥) → 104 ≡ refusal_of a m b t
    unfolding refusal_of
    is-104 e = rw (c, ne_eqb (length m.table) 1000 e)

    module _ (d : length m.table ≡ 1000) where
      pub is-3 : not (axes_right a b) ≡ true → 51 ≡ refusal_of a m b t
      unfolding refusal_of
      is-3 e = rw (c, eq-eqb (length m.table) 1000 d, e)

      module _ (e : not (axes_right a b) ≡ false) where
        pub is-g : not (both_accepted a m.store b t) || enters_range a m.store b t ≡ true → 71 ≡ refusal_of a m b t
        unfolding refusal_of
        is-g f = rw (c, eq-eqb (length m.table) 1000 d, e, f)

        module _ (f : not (both_accepted a m.store b t) || enters_range a m.store b t ≡ false) where
          pub is-6 : not (room_right a b) ≡ true → 54 ≡ refusal_of a m b t
          unfolding refusal_of
          is-6 g = rw (c, eq-eqb (length m.table) 1000 d, e, f, g)

          pub is-0 : not (room_right a b) ≡ false → 0 ≡ refusal_of a m b t
          unfolding refusal_of
          is-0 g = rw (c, eq-eqb (length m.table) 1000 d, e, f, g)
