-- The check of a store computes whether its program is accepted (01, "Running a program", paragraph 2, the sentence on `9`); and an accepted
-- store's list of records is an accepted list. Assumes nothing.
use Prim.Native.Nat.{ℕ, zero, suc, ◌≤◌, ◌<◌}
use mathlib.Core.Bool.{Bool, true, false, ◌&&◌}
use mathlib.Core.List.{List, [], ◌∷◌}
use mathlib.Core.Path.{◌≡◌, refl, sym, ◌∙◌, ap, subst}
use native.Mathlib.Omega.{arith}
use borrow.Author.Tests.{leb-true, le-ltb, le-leb}
use lib.Dec.{leb}
use lib.ListN.{length, drop}
use Rattle.count.proofs.laws.Truth.{never, and_parts, and-false}
use Rattle.record.specs.declared.Held.{Held}
use Rattle.record.specs.declared.Record.{Record}
use Rattle.record.specs.Bytes.{front, length_of, is_right}
use Rattle.record.specs.declared.Found.{Found}
use Rattle.record.specs.declared.Found.TheVariants.{Got, End, Wrong}
use Rattle.record.specs.work.Writing.{list_in}
use Rattle.record.proofs.laws.Fills.{counts}
use Rattle.record.specs.Places.{in_use, Records, are, none-are, onto, then, records_from, records_of, is_list}
use Rattle.record.proofs.laws.Walk.{front-stands}
use Rattle.program.specs.Verdict.{Sound}
use Rattle.count.specs.Axes.{axes_set}
use Rattle.program.specs.Program.{record_in, verdict_on, verdict_of, is_sound, passes, sized, passing, accepted}
use Rattle.program.proofs.laws.Run.{Accepted}

-- ---- the check computes it

on_same : (x : Records) → passing x ≡ is_sound (verdict_on x)
unfolding passes
on_same (are l) = refl
on_same none-are = refl

pub sized-so : (h : Held) → h.used ≤ 16384 → h.records ≤ 1000 → sized h ≡ true
unfolding sized
sized-so h u l = rw (le-leb h.used 16384 u, le-leb h.records 1000 l)

pub sized-parts : (h : Held) → sized h ≡ true → (h.used ≤ 16384) × (h.records ≤ 1000)
unfolding sized
sized-parts h e = let d = and_parts (leb h.used 16384) (leb h.records 1000) e in (leb-true _ _ d.0, leb-true _ _ d.1)

-- under axes that lines set
pub computed : (h : Held) (s : List ℕ) → axes_set h.axes ≡ true → h.used ≤ 16384 → h.records ≤ 1000 → accepted h s ≡ is_sound (verdict_of h s)
unfolding accepted verdict_of
computed h s a u l = rw (sized-so h u l, a, le-ltb 1000 h.records l) (on_same (records_of h s))

-- under axes 0 no program is accepted, whatever the check says
pub not-under-0 : (h : Held) (s : List ℕ) → h.axes ≡ 0 → accepted h s ≡ false
unfolding accepted
not-under-0 h s e = ap (λ (b : Bool). sized h && (b && passing (records_of h s))) (ap axes_set e) ∙ and-false (sized h)

-- a store that the check finds sound is accepted under these axes
pub sound-accepted : (h : Held) (s : List ℕ) → axes_set h.axes ≡ true → h.used ≤ 16384 → h.records ≤ 1000 → verdict_of h s ≡ Sound → accepted h s ≡ true
sound-accepted h s a u l v = computed h s a u l ∙ ap is_sound v

-- ---- a readable store has as many records as it says

pub records-count : (h : Held) (s : List ℕ) (l : List Record) → records_of h s ≡ are l → length l ≡ h.records
unfolding records_of
records-count h s l e = sym (ap (λ (x : Records). length (list_in x)) e) ∙ counts h.axes h.records (in_use h s) (ap is_list e)

-- ---- every record of a readable store is right

abbrev pub Rights : ℕ → Records → Type 0
Rights axes (are l) = (i : ℕ) → i < length l → is_right axes (record_in l i) ≡ true
Rights axes none-are = Unit

one_more : (axes : ℕ) (r : Record) (l : List Record) → is_right axes r ≡ true → Rights axes (are l) → (i : ℕ) → i < length (r ∷ l) → is_right axes (record_in (r ∷ l) i) ≡ true
one_more axes r l h f zero u = h
one_more axes r l h f (suc i) u = f i (omega arith)

rights-onto : (axes : ℕ) (r : Record) (x : Records) → is_right axes r ≡ true → Rights axes x → Rights axes (onto r x)
rights-onto axes r (are l) h f = one_more axes r l h f
rights-onto axes r none-are h f = tt

rights-then : (axes k : ℕ) (s : List ℕ) (x : Found) → front axes s ≡ x → ((t : List ℕ) → Rights axes (records_from axes k t))
    → Rights axes (then x (λ r. records_from axes k (drop (length_of r) s)))
rights-then axes k s (Got r) e f = rights-onto axes r (records_from axes k (drop (length_of r) s)) (front-stands axes s e).right (f (drop (length_of r) s))
rights-then axes k s End e f = tt
rights-then axes k s Wrong e f = tt

pub rights : (axes k : ℕ) (s : List ℕ) → Rights axes (records_from axes k s)
unfolding records_from
rights axes zero [] = λ i u. absurd (omega arith)
rights axes zero (b ∷ s) = tt
rights axes (suc k) s = rights-then axes k s (front axes s) refl (rights axes k)

-- ---- an accepted store

-- what is asked of it
pub accepted-parts : (h : Held) (s : List ℕ) → accepted h s ≡ true → (sized h ≡ true) × (axes_set h.axes ≡ true) × (passing (records_of h s) ≡ true)
unfolding accepted
accepted-parts h s a =
    let d = and_parts (sized h) (axes_set h.axes && passing (records_of h s)) a in
    let e = and_parts (axes_set h.axes) (passing (records_of h s)) d.1 in
    (d.0, e.0, e.1)

passing-list : (h : Held) (s : List ℕ) (l : List Record) → records_of h s ≡ are l → accepted h s ≡ true → passes l ≡ true
passing-list h s l e a = ap passing (sym e) ∙ (accepted-parts h s a).2

-- its list of records is accepted under its axes
pub accepted-list : (h : Held) (s : List ℕ) (l : List Record) → records_of h s ≡ are l → accepted h s ≡ true → Accepted h.axes l
unfolding records_of
accepted-list h s l e a =
    record { right = subst (Rights h.axes) e (rights h.axes h.records (in_use h s)); passing = passing-list h s l e a }

-- and it has one
pub record Holds (h : Held) (s : List ℕ) : Type 0 where
  pub items : List Record
  pub reads : records_of h s ≡ are items
  pub count : length items ≡ h.records
  pub program : Accepted h.axes items

no-list : (h : Held) (s : List ℕ) → records_of h s ≡ none-are → accepted h s ≡ true → passing none-are ≡ true
no-list h s e a = ap passing (sym e) ∙ (accepted-parts h s a).2

holds_by : (h : Held) (s : List ℕ) (x : Records) → records_of h s ≡ x → accepted h s ≡ true → Holds h s
holds_by h s (are l) e a = record { items = l; reads = e; count = records-count h s l e; program = accepted-list h s l e a }
holds_by h s none-are e a = never (no-list h s e a)

pub accepted-holds : (h : Held) (s : List ℕ) → accepted h s ≡ true → Holds h s
accepted-holds h s a = holds_by h s (records_of h s) refl a
