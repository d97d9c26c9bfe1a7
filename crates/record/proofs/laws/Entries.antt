-- THE TABLE IS TRUE of an empty store, after every stored record, and once it is filled (02 §6). Assumes nothing.
use Rattle.std.specs.Prelude.{Some}
use Prim.Native.Nat.{ℕ, zero, suc, ◌+◌, ◌<◌, ◌≤◌}
use mathlib.Core.Path.{◌≡◌, refl, ap, sym, ◌∙◌}
use mathlib.Core.List.{List, [], ◌∷◌, ◌++◌}
use mathlib.Core.Bool.{Bool, true, false}
use native.Mathlib.Omega.{arith}
use borrow.Author.Tests.{ltb-true, ltb-false}
use lib.Dec.{ltb}
use lib.ListN.{length, get_or, drop, set, length-append, length-set, length-drop, get_or-append}
use lib.Seq.{length-take-le, get_or-set_same, get_or-set_other}
use Rattle.record.specs.declared.Held.{Held}
use Rattle.record.specs.declared.Record.{Record}
use Rattle.record.specs.Memory.{Memory, memory}
use Rattle.record.specs.Bytes.{Below, length_of}
use Rattle.record.specs.Places.{in_use, Records, are, records_of}
use Rattle.record.specs.Table.{TableTrue, starts_from, starts_of, filled}
use Rattle.record.specs.Keep.{store_of}
use Rattle.record.proofs.laws.Right.{RightOne}
use Rattle.record.proofs.laws.Stored.{readable-list, stored-list}
use Rattle.record.proofs.laws.Tables.{start_of, at_of, walk-is-start, start-end}

-- ---- of a readable store: entry i is the bytes of the records before it

module _ (h : Held) (m : Memory) (l : List Record) (e : records_of h m.store ≡ are l) where
  pub true-starts : TableTrue h m → (i : ℕ) → i < h.records → get_or m.table i 0 ≡ start_of l i
  true-starts t i p = at_of _ _ (sym (t.starts i p) ∙ walk-is-start h m.store l e i (omega arith))

  pub starts-true : h.records ≤ length m.table → ((i : ℕ) → i < h.records → get_or m.table i 0 ≡ start_of l i) → TableTrue h m
  starts-true long f =
      record { long = long; starts = λ i p. walk-is-start h m.store l e i (omega arith) ∙ ap (λ (n : ℕ). Some n) (sym (f i p)) }

-- ---- an empty store, whatever the entries

pub empty-true : (h : Held) (m : Memory) → h.records ≡ 0 → TableTrue h m
empty-true h m z = record { long = omega arith; starts = λ i p. absurd (omega arith) }

-- ---- a stored record

start-before : (l k : List Record) (p : ℕ) → p ≤ length l → start_of (l ++ k) p ≡ start_of l p
start-before l k zero h = refl
start-before [] k (suc p) h = absurd (omega arith)
start-before (r ∷ l) k (suc p) h = ap (λ (n : ℕ). length_of r + n) (start-before l k p (omega arith))

module _ (h : Held) (r : Record) (m : Memory) (l : List Record) (b : Below 256 m.store) (e : records_of h m.store ≡ are l) (g : RightOne h.axes r) (t : TableTrue h m) where
  entry-by : (i : ℕ) (x : Bool) → ltb i h.records ≡ x → i < h.records + 1 → h.records < length m.table → h.used ≤ length m.store
      → get_or (set m.table h.records h.used) i 0 ≡ start_of (l ++ r ∷ []) i
  entry-by i true q p room in-store =
      let j = ltb-true i h.records q in
      let n = (readable-list h m.store l b e).count in
      get_or-set_other m.table h.records i h.used 0 (λ z. omega arith) ∙ true-starts h m l e t i j ∙ sym (start-before l (r ∷ []) i (omega arith))
  entry-by i false q p room in-store =
      let j = ltb-false i h.records q in
      let n = (readable-list h m.store l b e).count in
      let z : i ≡ h.records = omega arith in
      let u : length (in_use h m.store) ≡ h.used = length-take-le h.used m.store in-store in
      ap (λ (k : ℕ). get_or (set m.table h.records h.used) k 0) z
      ∙ get_or-set_same m.table h.records h.used 0 room
      ∙ sym (ap (start_of (l ++ r ∷ [])) z ∙ start-before l (r ∷ []) h.records (omega arith) ∙ start-end h m.store l e ∙ u)

  -- AFTER EVERY STORED RECORD
  pub stored-true : (store_of h r m).kept.stored ≡ true → TableTrue (store_of h r m).kept.held (store_of h r m).memory
  stored-true p =
      let a = stored-list h r m l b e g p in
      let k = store_of h r m in
      let n : k.kept.held.records ≡ h.records + 1 = sym (readable-list k.kept.held k.memory.store (l ++ r ∷ []) a.below a.list).count ∙ length-append l (r ∷ []) ∙ rw (readable-list h m.store l b e).count in
      starts-true k.kept.held k.memory (l ++ r ∷ []) a.list (rw (a.entry, length-set m.table h.records h.used) (omega (arith, a.entries)))
      (λ i q. ap (λ (t : List ℕ). get_or t i 0) a.entry ∙ entry-by i (ltb i h.records) refl (omega arith) a.entries a.within)

-- ---- a table that is filled

pub starts-long : (l : List Record) (n : ℕ) → length (starts_from n l) ≡ length l
unfolding starts_from
starts-long [] n = refl
starts-long (r ∷ l) n = ap suc (starts-long l (n + length_of r))

starts-at : (l : List Record) (n i : ℕ) → i < length l → get_or (starts_from n l) i 0 ≡ n + start_of l i
unfolding starts_from
starts-at [] n i h = absurd (omega arith)
starts-at (r ∷ l) n zero h = omega arith
starts-at (r ∷ l) n (suc i) h =
    let a : n + length_of r + start_of l i ≡ n + (length_of r + start_of l i) = omega arith in
    starts-at l (n + length_of r) i (omega arith) ∙ a

none_before : (n : ℕ) → 0 + n ≡ n
none_before n = omega arith

module _ (h : Held) (m : Memory) (l : List Record) (b : Below 256 m.store) (e : records_of h m.store ≡ are l) where
  filled-as : filled h m ≡ starts_from 0 l ++ drop h.records m.table
  unfolding filled
  filled-as = ap (λ (x : Records). starts_of x ++ drop h.records m.table) e

  pub filled-long : h.records ≤ length m.table → length (filled h m) ≡ length m.table
  filled-long p =
      let n = (readable-list h m.store l b e).count in
      ap length filled-as ∙ length-append (starts_from 0 l) (drop h.records m.table) ∙ omega (arith, starts-long l 0, length-drop h.records m.table)

  -- ONCE IT IS FILLED
  pub filled-true : h.records ≤ length m.table → TableTrue h (memory m.store (filled h m))
  filled-true p =
      let n = (readable-list h m.store l b e).count in
      starts-true h (memory m.store (filled h m)) l e (omega (arith, filled-long p))
      (λ i q. ap (λ (t : List ℕ). get_or t i 0) filled-as ∙ get_or-append (starts_from 0 l) (drop h.records m.table) 0 i (omega (arith, starts-long l 0)) ∙ starts-at l 0 i (omega arith) ∙ none_before (start_of l i))
