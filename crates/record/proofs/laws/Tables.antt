-- The places of a readable store: where each record starts, what stands there, and that finding one by a true table is the walk from the
-- front. When the table is true is said in Entries. Assumes nothing.
use Rattle.std.specs.Prelude.{Option, Some, None}
use Prim.Native.Nat.{ℕ, zero, suc, ◌+◌, ◌<◌, ◌≤◌}
use mathlib.Core.Path.{◌≡◌, refl, ap, sym, ◌∙◌}
use mathlib.Core.List.{List, [], ◌∷◌}
use mathlib.Core.Bool.{Bool, true, false}
use native.Mathlib.Omega.{arith}
use borrow.Author.Tests.{lt-ltb, le-ltb, ltb-true, ltb-false, eq-eqb, ne_eqb, eqb-true, eqb-false}
use lib.Dec.{ltb, eqb}
use lib.ListN.{length, get_or, drop}
use lib.Seq.{drop-drop}
use Rattle.count.specs.Pick.{pick}
use Rattle.record.specs.declared.Held.{Held}
use Rattle.record.specs.declared.Record.{Record}
use Rattle.record.specs.Memory.{Memory}
use Rattle.record.specs.Bytes.{Below, made, length_of, front}
use Rattle.record.specs.declared.Found.{Found}
use Rattle.record.specs.declared.Found.TheVariants.{Got, End, Wrong}
use Rattle.record.specs.Places.{in_use, record_at, past, spot_from, walk_to, Records, are, none-are, onto, then, records_from, records_of, is_list, readable_of}
use Rattle.record.specs.Table.{entry_at, spot_of, record_from, fetch_of, TableTrue}
use Rattle.record.proofs.laws.Below.{below-take, below-drop}
use Rattle.record.proofs.laws.Right.{RightOne, front-right-one}
use Rattle.record.proofs.laws.Walk.{ends_at, list-walk}

-- ---- a place of a readable store is an element of its list

abbrev from_spot : ℕ → List ℕ → Option ℕ → Found
from_spot axes s (Some at) = front axes (drop at s)
from_spot axes s None = Wrong

-- the element at a place
abbrev pub element : List Record → ℕ → Record
element l p = get_or l p (made 0 [])

onto_parts : (r : Record) (x : Records) (l : List Record) → onto r x ≡ are l → (m : List Record) × (x ≡ are m) × (l ≡ r ∷ m)
onto_parts r (are m) l p = (m, refl, cc)
onto_parts r none-are l p = absurd (let z : ◌≡◌ {A = ℕ} 0 1 = cc in omega arith)

first_by : (x : Found) (f : Record → Records) (l : List Record) → then x f ≡ are l → x ≡ Got (element l 0)
first_by (Got r) f l p = rw (onto_parts r (f r) l p).2
first_by End f l p = absurd (let z : ◌≡◌ {A = ℕ} 0 1 = cc in omega arith)
first_by Wrong f l p = absurd (let z : ◌≡◌ {A = ℕ} 0 1 = cc in omega arith)

next-by : (axes k : ℕ) (s : List ℕ) (at p : ℕ) (x : Found) (l : List Record)
    → then x (λ r. records_from axes k (drop (length_of r) (drop at s))) ≡ are l
    → ((a : ℕ) (m : List Record) → records_from axes k (drop a s) ≡ are m → from_spot axes s (spot_from axes p s a) ≡ Got (element m p))
    → from_spot axes s (past x (λ n. spot_from axes p s (at + n))) ≡ Got (element l (suc p))
next-by axes k s at p (Got r) l e ih =
    let q = onto_parts r (records_from axes k (drop (length_of r) (drop at s))) l e in
    ih (at + length_of r) q.0 (rw (← drop-drop (length_of r) at s) q.1) ∙ ap (λ (m : List Record). Got (element m (suc p))) (sym q.2)
next-by axes k s at p End l e ih = absurd (let z : ◌≡◌ {A = ℕ} 0 1 = cc in omega arith)
next-by axes k s at p Wrong l e ih = absurd (let z : ◌≡◌ {A = ℕ} 0 1 = cc in omega arith)

walk-element : (axes k : ℕ) (s : List ℕ) (at p : ℕ) (l : List Record) → p < k → records_from axes k (drop at s) ≡ are l
    → from_spot axes s (spot_from axes p s at) ≡ Got (element l p)
unfolding records_from spot_from
walk-element axes zero s at p l h e = absurd (omega arith)
walk-element axes (suc k) s at zero l h e = first_by (front axes (drop at s)) _ l e
walk-element axes (suc k) s at (suc p) l h e =
    next-by axes k s at p (front axes (drop at s)) l e (λ a m. walk-element axes k s a p m (omega arith))

spot-fetch : (x : Option ℕ) (h : Held) (s : List ℕ) → record_from x h s ≡ from_spot h.axes (in_use h s) x
unfolding record_at
spot-fetch (Some at) h s = refl
spot-fetch None h s = refl

-- the byte where a place starts: the bytes of the records before it
abbrev pub start_of : List Record → ℕ → ℕ
start_of l zero = 0
start_of [] (suc p) = 0
start_of (r ∷ l) (suc p) = length_of r + start_of l p

start-by : (axes k : ℕ) (s : List ℕ) (at p : ℕ) (x : Found) (l : List Record)
    → then x (λ r. records_from axes k (drop (length_of r) (drop at s))) ≡ are l
    → ((a : ℕ) (m : List Record) → records_from axes k (drop a s) ≡ are m → spot_from axes p s a ≡ Some (a + start_of m p))
    → past x (λ n. spot_from axes p s (at + n)) ≡ Some (at + start_of l (suc p))
start-by axes k s at p (Got r) l e ih =
    let q = onto_parts r (records_from axes k (drop (length_of r) (drop at s))) l e in
    let a : at + length_of r + start_of q.0 p ≡ at + (length_of r + start_of q.0 p) = omega arith in
    ih (at + length_of r) q.0 (rw (← drop-drop (length_of r) at s) q.1) ∙ ap (λ (n : ℕ). Some n) (a ∙ ap (λ (m : List Record). at + start_of m (suc p)) (sym q.2))
start-by axes k s at p End l e ih = absurd (let z : ◌≡◌ {A = ℕ} 0 1 = cc in omega arith)
start-by axes k s at p Wrong l e ih = absurd (let z : ◌≡◌ {A = ℕ} 0 1 = cc in omega arith)

walk_start : (axes k : ℕ) (s : List ℕ) (at p : ℕ) (l : List Record) → p ≤ k → records_from axes k (drop at s) ≡ are l → spot_from axes p s at ≡ Some (at + start_of l p)
unfolding records_from spot_from
walk_start axes k s at zero l h e = ap (λ (n : ℕ). Some n) (omega arith)
walk_start axes zero s at (suc p) l h e = absurd (omega arith)
walk_start axes (suc k) s at (suc p) l h e =
    start-by axes k s at p (front axes (drop at s)) l e (λ a m. walk_start axes k s a p m (omega arith))

-- ---- the walk to a place of a readable store

pub at_of : (a n : ℕ) → Some a ≡ Some n → a ≡ n
at_of a n e = cc

ends_so : (x : Option ℕ) (n : ℕ) → true ≡ ends_at n x → x ≡ Some n
ends_so (Some at) n e = ap (λ (a : ℕ). Some a) (eqb-true at n (sym e))
ends_so None n e = absurd (let z : ◌≡◌ {A = ℕ} 0 1 = cc in omega arith)

module _ (h : Held) (s : List ℕ) where
  walk-beyond : (place : ℕ) → h.records < place → walk_to h s place ≡ None
  unfolding walk_to
  walk-beyond place p = rw (lt-ltb h.records place p)

  -- past the last record stands the end of the part in use
  pub walk_end : readable_of h s ≡ true → walk_to h s h.records ≡ Some (length (in_use h s))
  unfolding walk_to readable_of records_of
  walk_end e =
      rw (le-ltb h.records h.records (omega arith))
      (ends_so (spot_from h.axes h.records (in_use h s) 0) (length (in_use h s)) (sym e ∙ list-walk h.axes h.records (in_use h s) 0 (omega arith)))

  module _ (l : List Record) (e : records_of h s ≡ are l) where
    pub list-true : readable_of h s ≡ true
    unfolding readable_of
    list-true = ap is_list e

    pub walk-is-start : (place : ℕ) → place ≤ h.records → walk_to h s place ≡ Some (start_of l place)
    unfolding walk_to records_of
    walk-is-start place p =
        rw (le-ltb h.records place (omega arith))
        (walk_start h.axes h.records (in_use h s) 0 place l p e ∙ ap (λ (n : ℕ). Some n) (omega arith))

    pub start-end : start_of l h.records ≡ length (in_use h s)
    start-end = at_of _ _ (sym (walk-is-start h.records (omega arith)) ∙ walk_end list-true)

    walk-found : (place : ℕ) → place < h.records → record_from (walk_to h s place) h s ≡ Got (element l place)
    unfolding walk_to records_of
    walk-found place p =
        rw (le-ltb h.records place (omega arith))
        (spot-fetch (spot_from h.axes place (in_use h s) 0) h s ∙ walk-element h.axes h.records (in_use h s) 0 place l p e)

-- ---- FINDING BY A TRUE TABLE IS THE WALK, for every place and the end place

module _ (h : Held) (m : Memory) (whole : readable_of h m.store ≡ true) (true-table : TableTrue h m) where
  find-by : (place : ℕ) (a b : Bool) → ltb place h.records ≡ a → eqb place h.records ≡ b
      → pick a (entry_at m.table place) (pick b (Some (length (in_use h m.store))) None) ≡ walk_to h m.store place
  find-by place true b p q =
      let i = ltb-true place h.records p in
      rw (lt-ltb place (length m.table) (omega (arith, true-table.long))) (sym (true-table.starts place i))
  find-by place false true p q = sym (ap (walk_to h m.store) (eqb-true place h.records q) ∙ walk_end h m.store whole)
  find-by place false false p q =
      let i = ltb-false place h.records p in
      let n = eqb-false place h.records q in
      sym (walk-beyond h m.store place (omega arith))

  pub find-is-walk : (place : ℕ) → spot_of h m place ≡ walk_to h m.store place
  unfolding spot_of
  find-is-walk place = find-by place (ltb place h.records) (eqb place h.records) refl refl

-- ---- what is fetched

module _ (h : Held) (m : Memory) (place : ℕ) where
  pub fetch-element : (l : List Record) → records_of h m.store ≡ are l → TableTrue h m → place < h.records → fetch_of h m place ≡ Got (element l place)
  unfolding fetch_of
  fetch-element l e t p =
      rw (ne_eqb place h.records (λ z. omega arith), find-is-walk h m (list-true h m.store l e) t place) (walk-found h m.store l e place p)

  pub fetch-end : place ≡ h.records → fetch_of h m place ≡ End
  unfolding fetch_of
  fetch-end p = rw (eq-eqb place h.records p)

  pub fetch-wrong : h.records < place → fetch_of h m place ≡ Wrong
  unfolding fetch_of spot_of
  fetch-wrong p = rw (ne_eqb place h.records (λ z. omega arith), le-ltb place h.records (omega arith))

-- whatever the store and the table, it is right
spot-right : (x : Option ℕ) (h : Held) (s : List ℕ) {r : Record} → Below 256 s → record_from x h s ≡ Got r → RightOne h.axes r
unfolding record_at
spot-right (Some at) h s b e = front-right-one h.axes (drop at (in_use h s)) (below-drop 256 at (in_use h s) (below-take 256 (omega arith) h.used s b)) e
spot-right None h s b e = absurd (let z : ◌≡◌ {A = ℕ} 0 1 = cc in omega arith)

right_by : (h : Held) (m : Memory) (place : ℕ) {r : Record} (x : Bool) → Below 256 m.store → pick x End (record_from (spot_of h m place) h m.store) ≡ Got r
    → RightOne h.axes r
right_by h m place true b e = absurd (let z : ◌≡◌ {A = ℕ} 0 1 = cc in omega arith)
right_by h m place false b e = spot-right (spot_of h m place) h m.store b e

pub fetched-right : (h : Held) (m : Memory) (place : ℕ) {r : Record} → Below 256 m.store → fetch_of h m place ≡ Got r → RightOne h.axes r
unfolding fetch_of
fetched-right h m place b e = right_by h m place (eqb place h.records) b e
