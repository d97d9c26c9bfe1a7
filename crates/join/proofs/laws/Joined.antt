-- The records of a joined program are the first's and the second's behind them (02, §4): it is accepted, its table is true (02, §6), and at
-- the first's end place stands what the second has at place 0. Two accepted programs that are refused G would not be accepted together.
-- Assumes nothing.
use Prim.Native.Nat.{ℕ, ◌+◌, ◌<◌}
use mathlib.Core.Bool.{Bool, true, false, not, ◌&&◌}
use mathlib.Core.List.{List, [], ◌++◌}
use mathlib.Core.Path.{◌≡◌, refl, sym, ◌∙◌, ap, subst}
use native.Mathlib.Omega.{arith}
use borrow.Author.Tests.{le-leb, eqb-true, eqb-false}
use lib.Dec.{eqb}
use lib.ListN.{length, drop, length-append, length-drop, get_or-append}
use lib.Seq.{length-take-le, take_at, get_or-append-add}
use Rattle.count.proofs.laws.Truth.{and-false}
use Rattle.record.specs.declared.Held.{Held}
use Rattle.record.specs.declared.Record.{Record}
use Rattle.record.specs.Memory.{Memory, memory}
use Rattle.record.specs.Bytes.{Below, made}
use Rattle.record.specs.declared.Found.TheVariants.{Got}
use Rattle.record.specs.Places.{in_use, Records, records_of}
use Rattle.record.specs.Places.Records.{are}
use Rattle.record.specs.Table.{fetch_of, TableTrue, Filling, filling, fill_of}
use Rattle.record.proofs.laws.Below.{below-append, below-take, below-drop}
use Rattle.record.proofs.laws.Stored.{AllRight, readable-list, list-readable, encode-append, right-append}
use Rattle.record.proofs.laws.Tables.{fetch-element, fetch-end}
use Rattle.record.proofs.laws.Entries.{filled-true}
use Rattle.record.proofs.laws.Fills.{is-0, can-fill}
use Rattle.count.specs.Axes.{axes_set}
use Rattle.program.specs.Program.{record_in, passes, passing, sized, accepted}
use Rattle.program.proofs.laws.Run.{Accepted}
use Rattle.program.proofs.laws.Accepting.{Holds, records-count, accepted-list, accepted-holds}
use Rattle.program.proofs.laws.Append.{appended-passes}
use Rattle.join.specs.Join.{axes_beside, counted, enters_range, refusal_of, both, end_to_end, joined_memory, joining, answer, join_of}
use Rattle.join.proofs.laws.Passed.{Passed, passed, long, few, alike, each, joined}

-- ---- of any two accepted programs of the same axes

accepted-is : (h : Held) (u : List ℕ) (l : List Record) → records_of h u ≡ are l → accepted h u ≡ sized h && (axes_set h.axes && passes l)
unfolding accepted
accepted-is h u l e = ap (λ (x : Records). sized h && (axes_set h.axes && passing x)) e

module _ (a : Held) (s : List ℕ) (b : Held) (t : List ℕ) (same : axes_beside a b ≡ axes_beside b a) (first : accepted (counted a b) s ≡ true) (second : accepted (counted b a) t ≡ true) (l k : List Record) (reads : records_of (counted a b) s ≡ are l) (behind : records_of (counted b a) t ≡ are k) where
  -- their records pass the check together exactly if no jump or wait leads into a range
  pub passes-both : passes (l ++ k) ≡ not (enters_range a s b t)
  unfolding counted enters_range
  passes-both =
      appended-passes l k (axes_beside a b) (accepted-list (counted a b) s l reads first)
      (subst (λ (x : ℕ). Accepted x k) (sym same) (accepted-list (counted b a) t k behind second))
      ∙ rw (reads, behind)

  -- THE REFUSAL G IS EXACT
  pub not-together : enters_range a s b t ≡ true → (h : Held) (u : List ℕ) → records_of h u ≡ are (l ++ k) → accepted h u ≡ false
  not-together e h u r =
      let f : passes (l ++ k) ≡ false = passes-both ∙ ap not e in
      accepted-is h u (l ++ k) r ∙ rw (f, and-false (axes_set h.axes)) (and-false (sized h))

-- ---- of two that were joined

module _ (a : Held) (m : Memory) (b : Held) (t : List ℕ) (p : Passed a m b t) where
  abbrev bytes : List ℕ
  bytes = end_to_end a m.store b t

  -- each part in use is as long as it says
  parts : (length (in_use a m.store) ≡ a.used) × (length (in_use b t) ≡ b.used)
  parts =
      let u = (few a m b t p).1 in
      let g = long a m b t p in
      (length-take-le a.used m.store (omega (arith, g.0)), length-take-le b.used t (omega (arith, g.1)))

  in_use-joined : in_use (both a b) bytes ≡ in_use a m.store ++ in_use b t
  unfolding both end_to_end
  in_use-joined =
      take_at (in_use a m.store ++ in_use b t) (drop (a.used + b.used) m.store) (a.used + b.used)
      (length-append (in_use a m.store) (in_use b t) ∙ omega (arith, parts.0, parts.1))

  module _ (c : Below 256 m.store) (d : Below 256 t) (l k : List Record) (reads : records_of (counted a b) m.store ≡ are l) (behind : records_of (counted b a) t ≡ are k) where
    -- THE LIST
    pub joined-list : records_of (both a b) bytes ≡ are (l ++ k)
    unfolding counted both
    joined-list =
        let f = readable-list (counted a b) m.store l c reads in
        let g = readable-list (counted b a) t k d behind in
        list-readable (both a b) bytes (l ++ k)
        record {
          bytes = in_use-joined ∙ rw (f.bytes, g.bytes) (sym (encode-append l k));
          count = length-append l k ∙ omega (arith, f.count, g.count);
          right = right-append (axes_beside a b) l k f.right (subst (λ (x : ℕ). AllRight x k) (sym (alike a m b t p).0) g.right);
        }

    lengths : (length l ≡ a.records) × (length k ≡ b.records)
    unfolding counted
    lengths = (records-count (counted a b) m.store l reads, records-count (counted b a) t k behind)

  -- bytes again, and as many as before
  pub joined-long : length bytes ≡ 16384
  unfolding end_to_end
  joined-long =
      let x = in_use a m.store ++ in_use b t in
      let y = drop (a.used + b.used) m.store in
      let n : length x ≡ a.used + b.used = length-append (in_use a m.store) (in_use b t) ∙ omega (arith, parts.0, parts.1) in
      length-append x y ∙ omega (arith, n, length-drop (a.used + b.used) m.store, (long a m b t p).0, (few a m b t p).1)

  pub joined-below : Below 256 m.store → Below 256 t → Below 256 bytes
  unfolding end_to_end
  joined-below c d =
      below-append 256 (omega arith) (in_use a m.store ++ in_use b t) (drop (a.used + b.used) m.store)
      (below-append 256 (omega arith) (in_use a m.store) (in_use b t) (below-take 256 (omega arith) a.used m.store c) (below-take 256 (omega arith) b.used t d))
      (below-drop 256 (a.used + b.used) m.store c)

  module _ (c : Below 256 m.store) (d : Below 256 t) where
    -- the records of both
    abbrev firsts : Holds (counted a b) m.store
    firsts = accepted-holds (counted a b) m.store (each a m b t p).0

    abbrev seconds : Holds (counted b a) t
    seconds = accepted-holds (counted b a) t (each a m b t p).1

    whole : records_of (both a b) bytes ≡ are (firsts.items ++ seconds.items)
    whole = joined-list c d firsts.items seconds.items firsts.reads seconds.reads

    -- THE RESULT IS ACCEPTED
    pub joined-accepted : accepted (both a b) bytes ≡ true
    unfolding sized both
    joined-accepted =
        let e = each a m b t p in
        let n = few a m b t p in
        let h : passes (firsts.items ++ seconds.items) ≡ true =
        passes-both a m.store b t (alike a m b t p).0 e.0 e.1 firsts.items seconds.items firsts.reads seconds.reads ∙ ap not p.apart in
        accepted-is (both a b) bytes (firsts.items ++ seconds.items) whole ∙ rw (le-leb _ _ n.1, le-leb _ _ n.0, (alike a m b t p).1, h)

    -- ITS TABLE IS TRUE
    pub joined-true : TableTrue (both a b) (joined_memory a m b t)
    unfolding both joined_memory
    joined-true =
        filled-true (both a b) (memory bytes m.table) (firsts.items ++ seconds.items) (joined-below c d) whole
        (omega (arith, (few a m b t p).0, (long a m b t p).2))

    -- filling it is not refused
    pub joined-fills : filling 0 (joined_memory a m b t).table ≡ fill_of (both a b) (memory bytes m.table)
    unfolding both joined_memory
    joined-fills =
        is-0 (both a b) (memory bytes m.table) joined-long (long a m b t p).2
        (can-fill (both a b) bytes (firsts.items ++ seconds.items) (few a m b t p).1 (few a m b t p).0 whole)

  -- ---- what is fetched by its table

  module _ (c : Below 256 m.store) (d : Below 256 t) (l k : List Record) (reads : records_of (counted a b) m.store ≡ are l) (behind : records_of (counted b a) t ≡ are k) where
    fetched : (q : ℕ) → q < length l + length k → fetch_of (both a b) (joined_memory a m b t) q ≡ Got (record_in (l ++ k) q)
    unfolding both joined_memory
    fetched q h =
        let n = lengths c d l k reads behind in
        fetch-element (both a b) (joined_memory a m b t) q (l ++ k) (joined-list c d l k reads behind) (joined-true c d) (omega (arith, n.0, n.1))

    -- a record of the first stands where it stood
    pub stands-still : (q : ℕ) → q < length l → fetch_of (both a b) (joined_memory a m b t) q ≡ Got (record_in l q)
    stands-still q h = fetched q (omega arith) ∙ ap Got (get_or-append l k (made 0 []) q h)

    -- AT THE FIRST'S END PLACE stands what the second has at place 0, by any table that is true of it
    module _ (u : List ℕ) (e : TableTrue (counted b a) (memory t u)) where
      start-by : (x : Bool) → eqb b.records 0 ≡ x → fetch_of (both a b) (joined_memory a m b t) (length l) ≡ fetch_of (counted b a) (memory t u) 0
      unfolding counted both
      start-by true f =
          let z = eqb-true b.records 0 f in
          fetch-end (both a b) (joined_memory a m b t) (length l) (omega (arith, (lengths c d l k reads behind).0))
          ∙ sym (fetch-end (counted b a) (memory t u) 0 (omega arith))
      start-by false f =
          let z = eqb-false b.records 0 f in
          let n : length l + 0 ≡ length l = omega arith in
          fetched (length l) (omega (arith, (lengths c d l k reads behind).1))
          ∙ ap Got (subst (λ (i : ℕ). record_in (l ++ k) i ≡ record_in k 0) n (get_or-append-add l k 0 (made 0 [])))
          ∙ sym (fetch-element (counted b a) (memory t u) 0 k behind e (omega arith))

      pub starts-there : fetch_of (both a b) (joined_memory a m b t) (length l) ≡ fetch_of (counted b a) (memory t u) 0
      starts-there = start-by (eqb b.records 0) refl

-- ---- the outcome of the code: what filling answers is answered

zero-fills : {r : ℕ} {t u : List ℕ} → filling r t ≡ filling 0 u → (r ≡ 0) × (t ≡ u)
zero-fills e = (ap (λ (x : Filling). x.refusal) e, ap (λ (x : Filling). x.table) e)

pub joined-zero : (a : Held) (m : Memory) (b : Held) (t : List ℕ) → refusal_of a m b t ≡ 0 → Below 256 m.store → Below 256 t
    → {r : ℕ} {u : List ℕ} → filling r u ≡ fill_of (both a b) (memory (end_to_end a m.store b t) m.table) → r ≡ 0
joined-zero a m b t z c d e = (zero-fills (e ∙ sym (joined-fills a m b t (passed a m b t z) c d))).0

pub joined-so : (a : Held) (m : Memory) (b : Held) (t : List ℕ) → refusal_of a m b t ≡ 0 → Below 256 m.store → Below 256 t
    → {r : ℕ} {u : List ℕ} → filling r u ≡ fill_of (both a b) (memory (end_to_end a m.store b t) m.table)
    → joining (answer r (both a b)) (memory (end_to_end a m.store b t) u) ≡ join_of a m b t
unfolding joined_memory
joined-so a m b t z c d e =
    let p = passed a m b t z in
    let f = zero-fills (e ∙ sym (joined-fills a m b t p c d)) in
    rw (f.0, f.1) (joined a m b t z)
