-- Filling the table, as the code goes: one start a turn, and the refusals in their order. Assumes nothing.
use Prim.Native.Nat.{ℕ, zero, suc, ◌+◌, ◌-◌, ◌<◌, ◌≤◌}
use mathlib.Core.Path.{◌≡◌, refl, ap, sym, subst, ◌∙◌}
use mathlib.Core.List.{List, [], ◌∷◌}
use mathlib.Core.Bool.{true, false, ◌&&◌}
use native.Mathlib.Numerals.{add-one}
use native.Mathlib.Omega.{arith}
use borrow.Author.Tests.{leb-true, le-leb, eq-eqb, ne_eqb}
use lib.Dec.{leb}
use lib.ListN.{length, get_or, take, drop, set}
use lib.Seq.{take_all, drop-drop, paste, paste-suc}
use Rattle.count.proofs.laws.Truth.{and_parts}
use Rattle.record.specs.declared.Held.{Held}
use Rattle.record.specs.declared.Record.{Record}
use Rattle.record.specs.Memory.{Memory}
use Rattle.record.specs.Bytes.{length_of, front}
use Rattle.record.specs.declared.Found.{Found}
use Rattle.record.specs.declared.Found.TheVariants.{Got, End, Wrong}
use Rattle.record.specs.Places.{in_use, Records, are, none-are, onto, then, records_from, records_of, is_list, readable_of}
use Rattle.record.specs.Table.{starts_from, starts_of, filled, filling, can_fill, fill_of}
use Rattle.record.specs.work.Writing.{list_in}
use Rattle.record.proofs.laws.Work.{part-within, part-all}
use Rattle.record.proofs.laws.Walk.{step-got}
use Rattle.record.proofs.laws.Entries.{starts-long}

-- ---- one turn of `put_starts`

onto-starts : (r : Record) (at : ℕ) (x : Records) → is_list (onto r x) ≡ true
    → (starts_from at (list_in (onto r x)) ≡ at ∷ starts_from (at + length_of r) (list_in x)) × (is_list x ≡ true)
unfolding starts_from
onto-starts r at (are l) e = (refl, refl)
onto-starts r at none-are e = absurd (let z : ◌≡◌ {A = ℕ} 0 1 = cc in omega arith)

starts-next : (axes left : ℕ) (s : List ℕ) (at : ℕ) {r : Record} → Got r ≡ front axes (take (length s - at) (drop at s))
    → is_list (records_from axes (suc left) (drop at s)) ≡ true
    → (starts_from at (list_in (records_from axes (suc left) (drop at s))) ≡ at ∷ starts_from (at + length_of r) (list_in (records_from axes left (drop (at + length_of r) s))))
    × (is_list (records_from axes left (drop (at + length_of r) s)) ≡ true)
unfolding records_from
starts-next axes left s at {r} q e =
    let g = step-got axes left s at q in
    rw (g, ← drop-drop (length_of r) at s) (onto-starts r at (records_from axes left (drop (length_of r) (drop at s))) (rw g at e))

-- what is still to be written of the starts, behind the first i of them
pub record Starting (axes n : ℕ) (s : List ℕ) (at i : ℕ) : Type 0 where
  pub few : i ≤ n
  pub listed : is_list (records_from axes (n - i) (drop at s)) ≡ true
  pub left : drop i (starts_of (records_from axes n s)) ≡ starts_from at (list_in (records_from axes (n - i) (drop at s)))

cons-at : (l : List ℕ) (i x : ℕ) (k : List ℕ) → drop i l ≡ x ∷ k → (i < length l) × (get_or l i 0 ≡ x) × (drop (suc i) l ≡ k)
cons-at [] zero x k e = absurd (let z : ◌≡◌ {A = ℕ} 0 1 = cc in omega arith)
cons-at [] (suc i) x k e = absurd (let z : ◌≡◌ {A = ℕ} 0 1 = cc in omega arith)
cons-at (y ∷ l) zero x k e = (omega arith, cc, cc)
cons-at (y ∷ l) (suc i) x k e = let f = cons-at l i x k e in (omega (arith, f.0), f.1, f.2)

module _ (axes n : ℕ) (s : List ℕ) (at i : ℕ) {r : Record} (q : Got r ≡ front axes (take (length s - at) (drop at s))) (p : i < n) (w : Starting axes n s at i) where
  m : n - i ≡ suc (n - (i + 1))
  m = omega arith

  turned : drop i (starts_of (records_from axes n s)) ≡ at ∷ starts_from (at + length_of r) (list_in (records_from axes (n - (i + 1)) (drop (at + length_of r) s)))
  turned = rw m at w.left ∙ (starts-next axes (n - (i + 1)) s at q (rw m at w.listed)).0

  pub start-here : (i < length (starts_of (records_from axes n s))) × (get_or (starts_of (records_from axes n s)) i 0 ≡ at)
  start-here = let c = cons-at _ i at _ turned in (c.0, c.1)

  pub start-next : Starting axes n s (at + length_of r) (i + 1)
  start-next =
      record {
        few = omega arith;
        listed = (starts-next axes (n - (i + 1)) s at q (rw m at w.listed)).1;
        left = subst (λ (j : ℕ). drop j (starts_of (records_from axes n s)) ≡ starts_from (at + length_of r) (list_in (records_from axes (n - (i + 1)) (drop (at + length_of r) s)))) (sym (add-one i)) (cons-at _ i at _ turned).2;
      }

first_by : (x : Records) → is_list x ≡ true → starts_of x ≡ starts_from 0 (list_in x)
first_by (are l) e = refl
first_by none-are e = absurd (let z : ◌≡◌ {A = ℕ} 0 1 = cc in omega arith)

pub start_first : (axes n : ℕ) (s : List ℕ) → is_list (records_from axes n s) ≡ true → Starting axes n s 0 0
start_first axes n s e =
    let z : n - 0 ≡ n = omega arith in
    record { few = omega arith; listed = rw z e; left = rw z (first_by (records_from axes n s) e) }

pub turn-paste : (t all : List ℕ) (i at : ℕ) → i < length t → i < length all → get_or all i 0 ≡ at → set (paste t 0 all i) i at ≡ paste t 0 all (i + 1)
turn-paste t all i at p q e =
    let z : 0 + i ≡ i = omega arith in
    rw (← e, add-one) (subst (λ (k : ℕ). set (paste t 0 all i) k (get_or all i 0) ≡ paste t 0 all (suc i)) z (paste-suc t 0 all i 0 (omega arith) q))

-- ---- as many starts as records

onto-count : (r : Record) (k : ℕ) (x : Records) → is_list (onto r x) ≡ true → (is_list x ≡ true → length (list_in x) ≡ k) → length (list_in (onto r x)) ≡ suc k
onto-count r k (are l) e f = ap suc (f refl)
onto-count r k none-are e f = absurd (let z : ◌≡◌ {A = ℕ} 0 1 = cc in omega arith)

count_by : (axes k : ℕ) (s : List ℕ) (x : Found) → is_list (then x (λ r. records_from axes k (drop (length_of r) s))) ≡ true
    → ((t : List ℕ) → is_list (records_from axes k t) ≡ true → length (list_in (records_from axes k t)) ≡ k)
    → length (list_in (then x (λ r. records_from axes k (drop (length_of r) s)))) ≡ suc k
count_by axes k s (Got r) e f = onto-count r k (records_from axes k (drop (length_of r) s)) e (f (drop (length_of r) s))
count_by axes k s End e f = absurd (let z : ◌≡◌ {A = ℕ} 0 1 = cc in omega arith)
count_by axes k s Wrong e f = absurd (let z : ◌≡◌ {A = ℕ} 0 1 = cc in omega arith)

-- a readable part has as many records as it says
pub counts : (axes k : ℕ) (s : List ℕ) → is_list (records_from axes k s) ≡ true → length (list_in (records_from axes k s)) ≡ k
unfolding records_from
counts axes zero [] e = refl
counts axes zero (x ∷ s) e = absurd (let z : ◌≡◌ {A = ℕ} 0 1 = cc in omega arith)
counts axes (suc k) s e = count_by axes k s (front axes s) e (λ t. counts axes k t)

starts-count : (axes k : ℕ) (s : List ℕ) → is_list (records_from axes k s) ≡ true → length (starts_of (records_from axes k s)) ≡ k
starts-count axes k s e = ap length (first_by (records_from axes k s) e) ∙ starts-long (list_in (records_from axes k s)) 0 ∙ counts axes k s e

-- ---- the call

module _ (h : Held) (m : Memory) where
  pub is-102 : (length m.store ≡ 16384 → ⊥) → filling 102 m.table ≡ fill_of h m
  unfolding fill_of
  is-102 p = rw (ne_eqb (length m.store) 16384 p)

  module _ (p : length m.store ≡ 16384) where
    pub is-104 : (length m.table ≡ 1000 → ⊥) → filling 104 m.table ≡ fill_of h m
    unfolding fill_of
    is-104 q = rw (eq-eqb (length m.store) 16384 p, ne_eqb (length m.table) 1000 q)

    module _ (q : length m.table ≡ 1000) where
      pub is-g : can_fill h m.store ≡ false → filling 71 m.table ≡ fill_of h m
      unfolding fill_of
      is-g c = rw (eq-eqb (length m.store) 16384 p, eq-eqb (length m.table) 1000 q, c)

      pub is-0 : can_fill h m.store ≡ true → filling 0 (filled h m) ≡ fill_of h m
      unfolding fill_of
      is-0 c = rw (eq-eqb (length m.store) 16384 p, eq-eqb (length m.table) 1000 q, c)

can-parts : (h : Held) (s : List ℕ) → can_fill h s ≡ true → (h.used ≤ 16384) × (h.records ≤ 1000) × (is_list (records_from h.axes h.records (in_use h s)) ≡ true)
unfolding can_fill readable_of records_of
can-parts h s e =
    let o = and_parts (leb h.used 16384 && leb h.records 1000) (readable_of h s) e in
    let p = and_parts (leb h.used 16384) (leb h.records 1000) o.0 in
    (leb-true h.used 16384 p.0, leb-true h.records 1000 p.1, o.1)

-- a program that a store can hold
pub can-fill : (h : Held) (s : List ℕ) (l : List Record) → h.used ≤ 16384 → h.records ≤ 1000 → records_of h s ≡ are l → can_fill h s ≡ true
unfolding can_fill readable_of
can-fill h s l u n e = rw (le-leb h.used 16384 u, le-leb h.records 1000 n, e)

module _ (h : Held) (m : Memory) (c : can_fill h m.store ≡ true) {e : ℕ} (p : e ≡ length (in_use h m.store)) where
  pub fill-ready : (is_list (records_from h.axes h.records (take e m.store)) ≡ true) × (h.records ≤ 1000) × (length (take e m.store) ≤ 65535)
  fill-ready =
      let d = can-parts h m.store c in
      let w = part-within h.used m.store p in
      let u = part-all h.used m.store p in
      (rw u d.2, d.1, rw (u, ← p) (omega (arith, w.1, d.0)))

  pub fill_done : length m.store ≡ 16384 → length m.table ≡ 1000
      → {t : List ℕ} → t ≡ paste m.table 0 (starts_of (records_from h.axes h.records (take e m.store))) h.records → filling 0 t ≡ fill_of h m
  unfolding filled records_of
  fill_done q r a =
      let d = can-parts h m.store c in
      let n = starts-count h.axes h.records (in_use h m.store) d.2 in
      let z : 0 + h.records ≡ h.records = omega arith in
      let f : take h.records (starts_of (records_from h.axes h.records (in_use h m.store))) ≡ starts_of (records_from h.axes h.records (in_use h m.store)) = take_all h.records _ (omega (arith, n)) in
      rw (a, part-all h.used m.store p, z, f) (is-0 h m q r c)
