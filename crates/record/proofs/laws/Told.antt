-- The lister's outcomes, refusal by refusal, as the code tests them. Assumes nothing.
use Prim.Native.Nat.{ℕ, ◌<◌, ◌≤◌}
use mathlib.Core.Path.{◌≡◌, refl, ap, sym, ◌∙◌}
use mathlib.Core.List.{List, ◌++◌}
use mathlib.Core.Bool.{true, false}
use native.Mathlib.Omega.{arith}
use borrow.Author.Tests.{lt-ltb, le-ltb}
use lib.ListN.{length, take, drop}
use Rattle.record.specs.declared.Held.{Held}
use Rattle.record.specs.Places.{in_use, Records, are, none-are, records_from, records_of, is_list, readable_of}
use Rattle.record.specs.Listing.{list_text, telling, tell, list_of}
use Rattle.record.proofs.laws.Work.{part-all}
use Rattle.record.specs.Bytes.{Below}
use Rattle.record.proofs.laws.Lines.{list-long}
use Rattle.record.specs.work.Writing.{list_in}

module _ (h : Held) (s t : List ℕ) where
  pub told-103 : 16384 < h.used → telling 103 0 t ≡ list_of h s t
  unfolding list_of
  told-103 p = rw (lt-ltb 16384 h.used p)

  pub told-106 : h.used ≤ 16384 → length t < 32768 → telling 106 0 t ≡ list_of h s t
  unfolding list_of
  told-106 p q = rw (le-ltb 16384 h.used p, lt-ltb (length t) 32768 q)

  none_told : (x : Records) → is_list x ≡ false → telling 71 0 t ≡ tell x t
  none_told (are l) e = absurd (let z : ◌≡◌ {A = ℕ} 0 1 = cc in omega arith)
  none_told none-are e = refl

  list-told : (x : Records) → is_list x ≡ true → tell x t ≡ telling 0 (length (list_text (list_in x))) (list_text (list_in x) ++ drop (length (list_text (list_in x))) t)
  list-told (are l) e = refl
  list-told none-are e = absurd (let z : ◌≡◌ {A = ℕ} 0 1 = cc in omega arith)

  pub told-71 : h.used ≤ 16384 → 32768 ≤ length t → readable_of h s ≡ false → telling 71 0 t ≡ list_of h s t
  unfolding list_of readable_of
  told-71 p q e = rw (le-ltb 16384 h.used p, le-ltb (length t) 32768 q) (none_told (records_of h s) e)

  -- the list that the code reads
  pub records-part : {e : ℕ} → e ≡ length (in_use h s) → records_from h.axes h.records (take e s) ≡ records_of h s
  unfolding records_of
  records-part p = ap (records_from h.axes h.records) (part-all h.used s p)

  pub told-list : readable_of h s ≡ true → {x : Records} → x ≡ records_of h s → is_list x ≡ true
  unfolding readable_of
  told-list e g = rw g e

  pub told-0 : h.used ≤ 16384 → 32768 ≤ length t → readable_of h s ≡ true → {x : Records} → x ≡ records_of h s
      → {n : ℕ} {u : List ℕ} → n ≡ length (list_text (list_in x)) → u ≡ list_text (list_in x) ++ drop (length (list_text (list_in x))) t
      → telling 0 n u ≡ list_of h s t
  unfolding list_of readable_of
  told-0 p q e {x} g {n} {u} a b =
      let i : is_list x ≡ true = rw g e in
      rw (le-ltb 16384 h.used p, le-ltb (length t) 32768 q, ← g) (sym (list-told x i ∙ rw (← b, ← a)))

long-by : (h : Held) (s : List ℕ) (x : Records) → records_of h s ≡ x → Below 256 s → h.used ≤ 16384 → length (list_text (list_in x)) ≤ 28674
unfolding list_text
long-by h s (are l) e b u = list-long h s l b e u
long-by h s none-are e b u = omega arith

pub told-room : (h : Held) (s : List ℕ) {x : Records} → x ≡ records_of h s → Below 256 s → h.used ≤ 16384 → length (list_text (list_in x)) ≤ 28674
told-room h s {x} g b u = long-by h s x (sym g) b u
