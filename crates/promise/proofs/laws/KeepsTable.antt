-- THE THEOREM of 02 §6: of our machine and joining by the definitions, the table is true over any history of calls in which the host alters
-- neither store nor table, and finding a place by it is the walk from the front. Assumes nothing.
use Prim.Native.Nat.{ℕ, ◌≤◌}
use mathlib.Core.Path.{◌≡◌, refl, sym, subst, ◌∙◌}
use mathlib.Core.Bool.{Bool, true, false, not, ◌&&◌}
use mathlib.Core.List.{List, [], ◌∷◌, ◌++◌}
use mathlib.Core.Logic.{◌⊎◌, inl, inr}
use native.Mathlib.Omega.{arith}
use borrow.Author.Tests.{eqb-true, eqb-false, leb-true}
use lib.Dec.{eqb, leb}
use lib.ListN.{length}
use Rattle.count.specs.Pick.{pick}
use Rattle.count.proofs.laws.Truth.{and_parts}
use Rattle.travel.specs.Next.{pulse_of}
use Rattle.record.specs.declared.Held.{Held}
use Rattle.record.specs.declared.Record.{Record}
use Rattle.record.specs.Memory.{Memory, memory, RightMemory, store_fits, table_fits}
use Rattle.record.specs.Bytes.{Below}
use Rattle.record.specs.Places.{records_of, readable_of}
use Rattle.record.specs.Places.Records.{are}
use Rattle.record.specs.Table.{fetch_of, filled, filling, can_fill, fill_of}
use Rattle.record.proofs.laws.Stored.{readable-so}
use Rattle.record.proofs.laws.Tables.{find-is-walk, list-true}
use Rattle.record.proofs.laws.Entries.{filled-true, filled-long}
use Rattle.program.proofs.laws.Accepting.{accepted-holds}
use Rattle.engine.specs.declared.Told.{Told}
use Rattle.engine.specs.State.{nothing_held}
use Rattle.engine.specs.Tick.{ticked, failed}
use Rattle.engine.proofs.laws.Laws.{held_stays}
use Rattle.join.specs.Join.{counted, both, end_to_end, joined_memory, Joining, join_of}
use Rattle.join.proofs.laws.Passed.{Passed, passed, few, long, each, refused, joined, refusal_is}
use Rattle.join.proofs.laws.Joined.{joined-list, joined-long, joined-below}
use Rattle.board.specs.declared.Board.{Board}
use Rattle.board.specs.Calls.{Ticked}
use Rattle.board.specs.Calls.{Lent, lent, Outcome, receiving, clocking, fresh}
use Rattle.promise.specs.Machine.{ours}
use Rattle.promise.specs.Steps.{Each, reached, Along}
use Rattle.promise.specs.Stop.{Step, receive, call, own, other, Place, ahead, last}
use Rattle.promise.specs.Route.{Alone}
use Rattle.promise.specs.Table.{Part, part, Kept, Use, hears, ticks, joins, after, Fitting, TableRequested}
use Rattle.promise.proofs.laws.RouteSteps.{ours-routes}
use Rattle.promise.proofs.laws.KeepsCalls.{fits-right, calm, kept, by_call, elsewhere-byte, elsewhere-call}
use Rattle.promise.proofs.laws.KeepsStored.{none_kept, byte-on}

-- ---- a byte and a clock call, refused or not

byte-kept : (v : ℕ) (ports : List ℕ) (l : Lent) (b : Board) → Kept (part b.engine.held l.memory)
    → Kept (part (receiving v ports b l).result.board.engine.held (receiving v ports b l).after.memory)
byte-kept v ports l b k = by (eqb (receiving v ports b l).result.refusal 0) refl
  where
    by : (x : Bool) → eqb (receiving v ports b l).result.refusal 0 ≡ x
        → Kept (part (receiving v ports b l).result.board.engine.held (receiving v ports b l).after.memory)
    by true q =
        let c = calm v ports b l (eqb-true (receiving v ports b l).result.refusal 0 q) in
        subst (λ (o : Outcome). Kept (part o.result.board.engine.held o.after.memory)) (sym c) (byte-on v ports b l.memory k)
    by false q =
        let c = kept v ports b l (eqb-false (receiving v ports b l).result.refusal 0 q) in
        subst Kept (λ i. part (sym c.0 i).engine.held (sym c.1 i).memory) k

clock-kept : (b : Board) (mem : Memory) → Kept (part b.engine.held mem) → Kept (part (clocking b mem).board.engine.held mem)
clock-kept b mem k =
    by_call b mem (λ (t : Ticked). Kept (part t.board.engine.held mem)) (λ n. k)
    (λ p q. by (held_stays pulse_of (fetch_of b.engine.held mem) b.engine))
  where
    told : Told
    told = ticked pulse_of (fetch_of b.engine.held mem) b.engine

    -- the part in use stays, or a G empties it
    by : (told.engine.held ≡ b.engine.held) ⊎ (told ≡ failed b.engine) → Kept (part told.engine.held mem)
    by (inl e) = subst (λ (h : Held). Kept (part h mem)) (sym e) k
    by (inr e) = subst (λ (t : Told). Kept (part t.engine.held mem)) (sym e) (none_kept nothing_held mem refl refl k.lengths k.bytes)

-- ---- a table that is filled

fill-kept : (h : Held) (mem : Memory) (l : List Record) → RightMemory mem → Below 256 mem.store → records_of h mem.store ≡ are l → h.records ≤ 1000
    → Kept (part h (memory mem.store (filled h mem)))
fill-kept h mem l n b e r =
    let w : h.records ≤ length mem.table = rw n.1 r in
    record {
      lengths = (n.0, filled-long h mem l b e w ∙ n.1);
      bytes = b;
      readable = list-true h mem.store l e;
      table = filled-true h mem l b e w;
    }

module _ (h : Held) (mem : Memory) where
  fills-by : (x y z : Bool) (t u : List ℕ) → (pick (not x) (filling 102 u) (pick (not y) (filling 104 u) (pick z (filling 0 t) (filling 71 u)))).refusal ≡ 0
      → (x ≡ true) × (y ≡ true) × (z ≡ true) × ((pick (not x) (filling 102 u) (pick (not y) (filling 104 u) (pick z (filling 0 t) (filling 71 u)))).table ≡ t)
  fills-by true true true t u e = (refl, refl, refl, refl)
  fills-by true true false t u e = absurd (omega arith)
  fills-by true false z t u e = absurd (omega arith)
  fills-by false y z t u e = absurd (omega arith)

  fills : (fill_of h mem).refusal ≡ 0 → (store_fits mem ≡ true) × (table_fits mem ≡ true) × (can_fill h mem.store ≡ true) × ((fill_of h mem).table ≡ filled h mem)
  unfolding fill_of
  fills e = fills-by (store_fits mem) (table_fits mem) (can_fill h mem.store) (filled h mem) mem.table e

  can-fill : can_fill h mem.store ≡ true → (h.records ≤ 1000) × (readable_of h mem.store ≡ true)
  unfolding can_fill
  can-fill e =
      let d = and_parts (leb h.used 16384 && leb h.records 1000) (readable_of h mem.store) e in
      (leb-true h.records 1000 (and_parts (leb h.used 16384) (leb h.records 1000) d.0).1, d.1)

  filled-kept : Below 256 mem.store → (fill_of h mem).refusal ≡ 0 → Kept (part h (memory mem.store (fill_of h mem).table))
  filled-kept b e =
      let f = fills e in
      let c = can-fill f.2 in
      let l = readable-so h mem.store c.1 in
      subst (λ (t : List ℕ). Kept (part h (memory mem.store t))) (sym f.3) (fill-kept h mem l.0 (fits-right mem f.0 f.1) b l.1 c.0)

-- ---- a join, refused or not

module _ (a : Held) (mem : Memory) (b : Held) (t : List ℕ) (k : Kept (part a mem)) (w : Below 256 t) where
  abbrev Then : Joining → Type 0
  Then j = Kept (part j.joined.held j.memory)

  passed-kept : Passed a mem b t → Kept (part (both a b) (joined_memory a mem b t))
  unfolding both joined_memory
  passed-kept p =
      let x = accepted-holds (counted a b) mem.store (each a mem b t p).0 in
      let y = accepted-holds (counted b a) t (each a mem b t p).1 in
      fill-kept (both a b) (memory (end_to_end a mem.store b t) mem.table) (x.items ++ y.items) (joined-long a mem b t p, (long a mem b t p).2) (joined-below a mem b t p k.bytes w)
      (joined-list a mem b t p k.bytes w x.items y.items x.reads y.reads) (few a mem b t p).0

  join_kept : Then (join_of a mem b t)
  join_kept = by (eqb (join_of a mem b t).joined.refusal 0) refl
    where
      by : (x : Bool) → eqb (join_of a mem b t).joined.refusal 0 ≡ x → Then (join_of a mem b t)
      by true q =
          let z = sym (refusal_is a mem b t) ∙ eqb-true (join_of a mem b t).joined.refusal 0 q in
          subst Then (joined a mem b t z) (passed-kept (passed a mem b t z))
      by false q =
          let n = eqb-false (join_of a mem b t).joined.refusal 0 q in
          subst Then (refused a mem b t refl (λ z. n (refusal_is a mem b t ∙ z))) k

-- ---- THE HISTORY

use_kept : (p : Part) (u : Use ours join_of) → Kept p → Fitting ours join_of p u → Kept (after ours join_of p u)
use_kept p (hears s v ports reply) k f = byte-kept v ports (lent reply p.memory) s (subst (λ (h : Held). Kept (part h p.memory)) (sym f) k)
use_kept p (ticks s) k f = clock-kept s p.memory (subst (λ (h : Held). Kept (part h p.memory)) (sym f) k)
use_kept p (joins b t) k f = join_kept p.held p.memory b t k f

history-kept : (p : Part) (us : List (Use ours join_of)) → Kept p → Along (after ours join_of) (Fitting ours join_of) p us → Kept (reached (after ours join_of) p us)
unfolding reached
history-kept p [] k a = k
history-kept p (u ∷ us) k (f, rest) = history-kept (after ours join_of p u) us (use_kept p u k f) rest

-- ---- from the first state on, however the calls are lent

abbrev At : Place ours → Type 0
At q = Kept (part q.0.engine.held q.1)

step_kept : (q : Place ours) (e : Step) → At q → Alone e → At (ahead ours q e)
step_kept q (receive v ports reply own) k a = byte-kept v ports (lent reply q.1) q.0 k
step_kept q (receive v ports reply (other t)) k a = subst (λ (b : Board). Kept (part b.engine.held q.1)) (sym (elsewhere-byte v ports q.0 (lent reply t) a)) k
step_kept q (call own) k a = clock-kept q.0 q.1 k
step_kept q (call (other t)) k a = subst (λ (x : Ticked). Kept (part x.board.engine.held q.1)) (sym (elsewhere-call q.0 t a).1) k

steps-kept : (q : Place ours) (es : List Step) → At q → Each Alone es → At (last ours q es)
unfolding reached
steps-kept q [] k a = k
steps-kept q (e ∷ es) k (a, rest) = steps-kept (ahead ours q e) es (step_kept q e k a) rest

from_first : (mem : Memory) (es : List Step) → RightMemory mem → Below 256 mem.store → Each Alone es → At (last ours (fresh, mem) es)
from_first mem es n b a = steps-kept (fresh, mem) es (none_kept nothing_held mem refl refl n b) a

pub ours-table : TableRequested ours join_of
ours-table = record {
  first = λ mem n b. none_kept nothing_held mem refl refl n b;
  filled = filled-kept;
  history = history-kept;
  steps = from_first;
  routes = λ mem es fs l n b a c s acc recs. ours-routes _ l (last ours (fresh, mem) es) fs s acc recs (from_first mem es n b a).table c;
  finds = λ p k place. find-is-walk p.held p.memory k.readable k.table place;
}
