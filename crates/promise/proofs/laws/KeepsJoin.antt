-- THE THEOREM of 02 §4, with the table of §6: joining by the definitions, which is what the contract of `join::join` says, is as requested.
-- Assumes nothing.
use Prim.Native.Nat.{ℕ, ◌≤◌, ◌<◌}
use mathlib.Core.Bool.{Bool, true, false, ◌&&◌, ◌||◌}
use mathlib.Core.List.{List, [], ◌∷◌, ◌++◌}
use mathlib.Core.Path.{◌≡◌, refl, sym, ap, subst, ◌∙◌}
use native.Mathlib.Omega.{arith}
use borrow.Author.Tests.{eqb-true}
use lib.Dec.{eqb}
use lib.IntN.{pos}
use lib.ListN.{length, get_or}
use Rattle.count.specs.Chars.{ch}
use Rattle.count.proofs.laws.Truth.{and_parts}
use Rattle.record.specs.declared.Held.{Held}
use Rattle.record.specs.declared.Record.{Record}
use Rattle.record.specs.Memory.{Memory, memory}
use Rattle.record.specs.Bytes.{Below}
use Rattle.record.specs.declared.Found.TheVariants.{Got}
use Rattle.record.specs.Places.{records_of}
use Rattle.record.specs.Places.Records.{are}
use Rattle.record.specs.Table.{fetch_of, TableTrue}
use Rattle.program.specs.declared.Loops.{Loops}
use Rattle.program.specs.Going.{Way}
use Rattle.program.specs.Program.{record_in, turn_at, target_at, accepted}
use Rattle.program.specs.Onward.{onward_of}
use Rattle.program.proofs.laws.Accepting.{records-count, accepted-holds}
use Rattle.program.proofs.laws.Sends.{jump-own, wait-own}
use Rattle.join.specs.Join.{counted, both, joined_memory, Joining, joining, answer, join_of}
use Rattle.join.proofs.laws.Passed.{Passed, passed, each, enters, refused, joined, refusal_is}
use Rattle.join.proofs.laws.Joined.{joined-list, stands-still, starts-there, joined-accepted, joined-true, not-together}
use Rattle.promise.specs.Join.{goal, Reaches, Becomes, JoinRequested}

-- ---- a jump or wait with the target q sends a run there

module _ (l : List Record) (p n q : ℕ) (o : Loops) (h : p < n) (e : target_at l p ≡ pos q) (g : q ≤ n) where
  abbrev way : Way
  way = onward_of (record_in l p) p n o

  goal-by : (x : Bool) → eqb (record_in l p).code 51 && eqb (get_or (record_in l p).words 0 0) 0 ≡ x → x || eqb (record_in l p).code 50 ≡ true
      → goal way.going way ≡ q ∷ []
  goal-by true x t =
      let d = and_parts (eqb (record_in l p).code 51) (eqb (get_or (record_in l p).words 0 0) 0) x in
      ap (λ (w : Way). goal w.going w) (jump-own (record_in l p) p n q o h e g (eqb-true _ _ d.0) (eqb-true _ _ d.1))
  goal-by false x t = ap (λ (w : Way). goal w.going w) (wait-own (record_in l p) p n q o h e g (eqb-true _ _ t))

  turn-goal : turn_at l p ≡ true → goal way.going way ≡ q ∷ []
  turn-goal t = goal-by (eqb (record_in l p).code 51 && eqb (get_or (record_in l p).words 0 0) 0) refl t

module _ (a : Held) (m : Memory) (b : Held) (t : List ℕ) where
  abbrev outcome : Joining
  outcome = join_of a m b t

  -- ---- a refusal

  refused-keeps : (outcome.joined.refusal ≡ 0 → ⊥) → (outcome.memory ≡ m) × (outcome.joined.held ≡ a)
  refused-keeps n =
      let e = sym (refused a m b t refl (λ z. n (refusal_is a m b t ∙ z))) in
      (ap (λ (j : Joining). j.memory) e, ap (λ (j : Joining). j.joined.held) e)

  g-exact : outcome.joined.refusal ≡ ch "G" → accepted (counted a b) m.store ≡ true → accepted (counted b a) t ≡ true
      → (l k : List Record) → records_of (counted a b) m.store ≡ are l → records_of (counted b a) t ≡ are k
      → (h : Held) (u : List ℕ) → records_of h u ≡ are (l ++ k) → accepted h u ≡ false
  g-exact e p q l k r f =
      let d = enters a m b t (sym (refusal_is a m b t) ∙ e) p q in
      not-together a m.store b t d.0 p q l k r f d.1

  -- ---- without one

  module _ (c : Below 256 m.store) (d : Below 256 t) (z : outcome.joined.refusal ≡ 0) where
    all-passed : Passed a m b t
    all-passed = passed a m b t (sym (refusal_is a m b t) ∙ z)

    abbrev made : joining (answer 0 (both a b)) (joined_memory a m b t) ≡ outcome
    made = joined a m b t (sym (refusal_is a m b t) ∙ z)

    reached : (l : List Record) (p : ℕ) → records_of (counted a b) m.store ≡ are l → p < length l → turn_at l p ≡ true → target_at l p ≡ pos (length l) → Reaches join_of a m b t l p
    unfolding counted both
    reached l p r h k e =
        let g = accepted-holds (counted b a) t (each a m b t all-passed).1 in
        let n : length l ≡ a.records = records-count (counted a b) m.store l r in
        record {
          stands = subst (λ (j : Joining). fetch_of j.joined.held j.memory p ≡ Got (record_in l p)) made (stands-still a m b t all-passed c d l g.items r g.reads p h);
          leads = λ o.
              subst (λ (j : Joining). goal (onward_of (record_in l p) p j.joined.held.records o).going (onward_of (record_in l p) p j.joined.held.records o) ≡ length l ∷ []) made
              (turn-goal l p (both a b).records (length l) o (omega arith) e (omega arith) k);
          start = λ u f.
              subst (λ (j : Joining). fetch_of j.joined.held j.memory (length l) ≡ fetch_of (counted b a) (memory t u) 0) made
              (starts-there a m b t all-passed c d l g.items r g.reads u f);
        }

    becomes : Becomes join_of a m b t
    unfolding joined_memory
    becomes = record {
      accepts = subst (λ (j : Joining). accepted j.joined.held j.memory.store ≡ true) made (joined-accepted a m b t all-passed c d);
      table = subst (λ (j : Joining). TableTrue j.joined.held j.memory) made (joined-true a m b t all-passed c d);
      list = λ l k r f. subst (λ (j : Joining). records_of j.joined.held j.memory.store ≡ are (l ++ k)) made (joined-list a m b t all-passed c d l k r f);
      reaches = reached;
    }

pub join-requested : JoinRequested join_of
join-requested a m b t = record {
  follows = refl;
  kept = refused-keeps a m b t;
  becomes = becomes a m b t;
  exact = g-exact a m b t;
}
