-- What stands at the front of a part where a record is found, and the laws of walking from record to record. Assumes nothing.
use Rattle.std.specs.Prelude.{Option, Some, None}
use Prim.Native.Nat.{ℕ, zero, suc, ◌+◌, ◌-◌, ◌*◌, ◌≤◌}
use mathlib.Core.Path.{◌≡◌, refl, sym, ◌∙◌}
use mathlib.Core.List.{List, [], ◌∷◌}
use mathlib.Core.Bool.{Bool, true, false, ◌&&◌}
use native.Mathlib.Omega.{arith}
use borrow.Author.Tests.{leb-true, eqb-true, eq-eqb, ne_eqb}
use lib.Dec.{ltb, leb, eqb}
use lib.ListN.{length, get_or, take, drop, length-drop}
use lib.Seq.{drop-drop, length-take-le}
use Rattle.count.specs.Pick.{pick}
use Rattle.count.proofs.laws.Lists.{rest}
use Rattle.count.proofs.laws.Truth.{and_parts}
use Rattle.record.specs.declared.Held.{Held}
use Rattle.record.specs.declared.Record.{Record}
use Rattle.record.specs.Bytes.{words_of, made, length_of, is_right, front}
use Rattle.record.specs.declared.Found.{Found}
use Rattle.record.specs.declared.Found.TheVariants.{Got, End, Wrong}
use Rattle.record.specs.Places.{in_use, past, spot_from, Records, are, none-are, onto, then, records_from, records_of, is_list, readable_of}
use Rattle.record.proofs.laws.Work.{length-words, part-within, part-all}

-- ---- a record found

pub record Stands (axes : ℕ) (s : List ℕ) (r : Record) : Type 0 where
  pub mark : get_or s 0 0 ≡ 0xD7
  pub mark2 : get_or s 1 0 ≡ 0x2B
  pub few : get_or s 3 0 ≤ 8
  pub room : 4 + 4 * get_or s 3 0 ≤ length s
  pub item : r ≡ made (get_or s 2 0) (words_of (get_or s 3 0) (drop 4 s))
  pub right : is_right axes r ≡ true

abbrev found-item : List ℕ → Record
found-item s = made (get_or s 2 0) (words_of (get_or s 3 0) (drop 4 s))

module _ (axes : ℕ) (s : List ℕ) {r : Record} where
  stands_by : (a b c d : Bool) → ltb (length s) 4 ≡ a → eqb (get_or s 0 0) 0xD7 && eqb (get_or s 1 0) 0x2B ≡ b
      → leb (get_or s 3 0) 8 && leb (4 + 4 * get_or s 3 0) (length s) ≡ c → is_right axes (found-item s) ≡ d
      → pick a Wrong (pick b (pick c (pick d (Got (found-item s)) Wrong) Wrong) Wrong) ≡ Got r → Stands axes s r
  stands_by true b c d p q t u e = absurd (let z : ◌≡◌ {A = ℕ} 0 1 = cc in omega arith)
  stands_by false false c d p q t u e = absurd (let z : ◌≡◌ {A = ℕ} 0 1 = cc in omega arith)
  stands_by false true false d p q t u e = absurd (let z : ◌≡◌ {A = ℕ} 0 1 = cc in omega arith)
  stands_by false true true false p q t u e = absurd (let z : ◌≡◌ {A = ℕ} 0 1 = cc in omega arith)
  stands_by false true true true p q t u e =
      let m = and_parts (eqb (get_or s 0 0) 0xD7) (eqb (get_or s 1 0) 0x2B) q in
      let n = and_parts (leb (get_or s 3 0) 8) (leb (4 + 4 * get_or s 3 0) (length s)) t in
      let i : r ≡ found-item s = cc in
      record {
        mark = eqb-true (get_or s 0 0) 0xD7 m.0;
        mark2 = eqb-true (get_or s 1 0) 0x2B m.1;
        few = leb-true (get_or s 3 0) 8 n.0;
        room = leb-true (4 + 4 * get_or s 3 0) (length s) n.1;
        item = i;
        right = rw i u;
      }

  pub front-stands : front axes s ≡ Got r → Stands axes s r
  unfolding front
  front-stands e = stands_by _ _ _ _ refl refl refl refl e

  pub front-room : front axes s ≡ Got r → length_of r ≤ length s
  front-room e =
      let h = front-stands e in
      rw (h.item, length-words (get_or s 3 0) (drop 4 s)) h.room

-- ---- one step of the walk, as the code takes it

past-wrong : (x : Found) (f : ℕ → Option ℕ) → ((r : Record) → x ≡ Got r → ⊥) → past x f ≡ None
past-wrong (Got r) f n = absurd (n r refl)
past-wrong End f n = refl
past-wrong Wrong f n = refl

then-none : (x : Found) (f : Record → Records) → ((r : Record) → x ≡ Got r → ⊥) → is_list (then x f) ≡ true → ⊥
then-none (Got r) f n e = n r refl
then-none End f n e = let z : ◌≡◌ {A = ℕ} 0 1 = cc in omega arith
then-none Wrong f n e = let z : ◌≡◌ {A = ℕ} 0 1 = cc in omega arith

module _ (axes left : ℕ) (s : List ℕ) (at : ℕ) where
  module _ {x : Found} (e : x ≡ front axes (take (length s - at) (drop at s))) (n : (r : Record) → x ≡ Got r → ⊥) where
    step-not : front axes (drop at s) ≡ x
    step-not = sym (rw rest at e)

    pub step-wrong : spot_from axes (suc left) s at ≡ None
    unfolding spot_from
    step-wrong = rw step-not (past-wrong x _ n)

    -- where the part is readable, a record is found
    pub step-none : is_list (records_from axes (suc left) (drop at s)) ≡ true → ⊥
    unfolding records_from
    step-none h = then-none x _ n (rw step-not at h)

  module _ {r : Record} (e : Got r ≡ front axes (take (length s - at) (drop at s))) where
    pub step-got : front axes (drop at s) ≡ Got r
    step-got = sym (rw rest at e)

    pub step-on : spot_from axes (suc left) s at ≡ spot_from axes left s (at + length_of r)
    unfolding spot_from
    step-on = rw step-got

    pub step_room : at ≤ length s → at + length_of r ≤ length s
    step_room l =
        let g : length_of r ≤ length s - at = rw length-drop at (front-room axes (drop at s) step-got) in
        omega arith

-- ---- readable: the walk past the last record ends where the part in use ends

abbrev pub ends_at : ℕ → Option ℕ → Bool
ends_at n (Some at) = eqb at n
ends_at n None = false

none_left : (axes : ℕ) (l : List ℕ) (n at : ℕ) → length l ≡ n - at → at ≤ n → is_list (records_from axes 0 l) ≡ eqb at n
unfolding records_from
none_left axes [] n at e h = sym (eq-eqb at n (omega arith))
none_left axes (x ∷ l) n at e h = sym (ne_eqb at n (λ y. omega arith))

is-onto : (r : Record) (x : Records) → is_list (onto r x) ≡ is_list x
is-onto r (are l) = refl
is-onto r none-are = refl

list-by : (axes k : ℕ) (s : List ℕ) (at : ℕ) (x : Found) → front axes (drop at s) ≡ x → at ≤ length s
    → ((a : ℕ) → a ≤ length s → is_list (records_from axes k (drop a s)) ≡ ends_at (length s) (spot_from axes k s a))
    → is_list (then x (λ r. records_from axes k (drop (length_of r) (drop at s)))) ≡ ends_at (length s) (past x (λ n. spot_from axes k s (at + n)))
list-by axes k s at (Got r) e h f =
    let g : length_of r ≤ length s - at = rw length-drop at (front-room axes (drop at s) e) in
    is-onto r (records_from axes k (drop (length_of r) (drop at s))) ∙ rw drop-drop (f (at + length_of r) (omega arith))
list-by axes k s at End e h f = refl
list-by axes k s at Wrong e h f = refl

pub list-walk : (axes k : ℕ) (s : List ℕ) (at : ℕ) → at ≤ length s → is_list (records_from axes k (drop at s)) ≡ ends_at (length s) (spot_from axes k s at)
unfolding records_from spot_from
list-walk axes zero s at h = none_left axes (drop at s) (length s) at (length-drop at s) h
list-walk axes (suc k) s at h = list-by axes k s at (front axes (drop at s)) refl h (λ a. list-walk axes k s a)

-- ---- the walk over the part in use

module _ (h : Held) (s : List ℕ) {e : ℕ} (p : e ≡ length (in_use h s)) where
  pub end-part : (e ≡ length (take e s)) × (length (take e s) ≤ h.used)
  end-part =
      let w = part-within h.used s p in
      let l : length (take e s) ≡ e = length-take-le e s w.0 in
      (sym l, omega arith)

  pub readable-here : {x : Option ℕ} → x ≡ spot_from h.axes h.records (take e s) 0 → ends_at e x ≡ readable_of h s
  unfolding readable_of records_of
  readable-here q =
      rw (q, part-all h.used s p, p) (sym (list-walk h.axes h.records (in_use h s) 0 (omega arith)))
