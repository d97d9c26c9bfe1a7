-- The notes of the call: how many ranges start at each place, and the first loop behind it that reaches back before it. Assumes nothing.
use Prim.Native.Nat.{ℕ, zero, suc, ◌+◌, ◌-◌, ◌*◌, ◌/◌, ◌%◌, ◌<◌, ◌≤◌}
use mathlib.Core.Path.{◌≡◌, refl, sym, ◌∙◌, ap, subst}
use mathlib.Core.Bool.{Bool, true, false, ◌&&◌}
use mathlib.Core.List.{List}
use native.Mathlib.Omega.{arith}
use native.Mathlib.Nat.{zero-add}
use native.Mathlib.Numerals.{add-one}
use borrow.Author.Tests.{eq-eqb, ne_eqb, eqb-true, eqb-false, leb-true}
use lib.Dec.{eqb, leb}
use lib.ListN.{length, get_or, set, replicate}
use lib.Seq.{get_or-set_same, get_or-set_other}
use Rattle.count.specs.Pick.{pick}
use Rattle.program.specs.Check.{tally}
use Rattle.program.specs.work.Marks.{mark}
use Rattle.program.specs.work.Ranges.{Firstly, starts_of, back_of, fuller, up_to_8, ranged, opening, start_of, opens, reach, Counts, Starts, Backs}
use Rattle.program.proofs.laws.Ranges.{up_to-most, up_to-more}

-- ---- how many ranges start at each place

module _ (loop : ℕ → Bool) (far : ℕ → ℕ) where
  nothing : (k q : ℕ) → ◌≡◌ {A = ℕ} (get_or (replicate k 0) q 0) 0
  nothing zero q = refl
  nothing (suc k) zero = refl
  nothing (suc k) (suc q) = nothing k q

  pub counts-none : Counts loop far (replicate 1000 0) 0
  unfolding up_to_8
  counts-none = record { count = λ q h. nothing 1000 q }

  -- a range starts at no other place than its opening
  opens-other : (i q : ℕ) → (opening loop far i ≡ q → ⊥) → opens loop far q i ≡ false
  unfolding opens opening
  opens-other i q d = by (ranged loop far i) refl
    where
      by : (t : Bool) → ranged loop far i ≡ t → t && eqb (far i - 32768) q ≡ false
      by true e = ne_eqb (far i - 32768) q (λ z. d (rw e z))
      by false e = refl

  opens-own : (i : ℕ) → opens loop far (opening loop far i) i ≡ ranged loop far i
  unfolding opens opening
  opens-own i = by (ranged loop far i)
    where
      by : (t : Bool) → t && eqb (far i - 32768) (pick t (far i - 32768) i) ≡ t
      by true = eq-eqb (far i - 32768) (far i - 32768) refl
      by false = refl

  pub opening-low : (i : ℕ) → opening loop far i ≤ i
  unfolding opening ranged
  opening-low i = by (loop i) (leb (far i) (mark i)) refl
    where
      by : (s t : Bool) → leb (far i) (mark i) ≡ t → pick (s && t) (far i - 32768) i ≤ i
      by true true e = let l = leb-true (far i) (mark i) e in omega arith
      by true false e = omega arith
      by false t e = omega arith

  opening-so : (i : ℕ) → ranged loop far i ≡ true → far i - 32768 ≡ opening loop far i
  unfolding opening
  opening-so i z = rw z

  pub opening-yes : (i : ℕ) {b : Bool} {f r : ℕ} → b ≡ ranged loop far i → b ≡ true → f ≡ far i → r ≡ f - 32768 → (r ≡ opening loop far i) × (r ≤ i)
  opening-yes i {r = r} e t g h =
      let k : r ≡ opening loop far i = h ∙ ap (λ (x : ℕ). x - 32768) g ∙ opening-so i (sym e ∙ t) in
      let l = opening-low i in
      (k, omega arith)

  pub opening-no : (i : ℕ) {b : Bool} → b ≡ ranged loop far i → b ≡ false → (i ≡ opening loop far i) × (i ≤ i)
  unfolding opening
  opening-no i e t = let z : ranged loop far i ≡ false = sym e ∙ t in (rw z, omega arith)

  pub counts-more : (ns : List ℕ) (i at c : ℕ) {has : Bool} → length ns ≡ 1000 → i < 1000 → Counts loop far ns i → at ≡ opening loop far i → has ≡ ranged loop far i
      → c ≡ fuller (get_or ns at 0) has → Counts loop far (set ns at c) (i + 1)
  counts-more ns i at c l m h e f g = record { count = λ q u. by (eqb at q) refl u }
    where
      low : opening loop far i ≤ i
      low = opening-low i

      here : c ≡ up_to_8 (tally (i + 1) (opens loop far at)) * 1024
      here =
          let a : get_or ns at 0 ≡ up_to_8 (tally i (opens loop far at)) * 1024 = h.count at (omega (arith, low)) in
          let b : opens loop far at i ≡ ranged loop far i = rw e (opens-own i) in
          g ∙ rw (a, f, ← b, add-one) (up_to-more (tally i (opens loop far at)) (opens loop far at i))

      by : {q : ℕ} (t : Bool) → eqb at q ≡ t → q < 1000 → get_or (set ns at c) q 0 ≡ up_to_8 (tally (i + 1) (opens loop far q)) * 1024
      by {q} true x u =
          subst (λ (r : ℕ). get_or (set ns at c) r 0 ≡ up_to_8 (tally (i + 1) (opens loop far r)) * 1024) (eqb-true at q x)
          (get_or-set_same ns at c 0 (omega (arith, low)) ∙ here)
      by {q} false x u =
          let d = eqb-false at q x in
          get_or-set_other ns at q c 0 (λ y. d (sym y)) ∙ h.count q u ∙ rw (add-one, opens-other i q (λ z. d (e ∙ z)), zero-add)

  pub counts_all : (ns : List ℕ) (i n : ℕ) → i ≤ n → n ≤ i → Counts loop far ns i → Counts loop far ns n
  counts_all ns i n g h s = let e : i ≡ n = omega arith in subst (λ (k : ℕ). Counts loop far ns k) e s

  -- ---- the loops that reach back, noted beside the counts

  pub backs-from : (ns : List ℕ) (n q k : ℕ) → q ≤ k → Backs loop far ns n q → Backs loop far ns n k
  backs-from ns n q k h b = record { entry = λ i g l. b.entry i (omega arith) l }

  pub backs-none : (ns : List ℕ) (n q : ℕ) → n ≤ q → Backs loop far ns n q
  backs-none ns n q h = record { entry = λ i g l. absurd (omega arith) }

  starts-counts : (ns : List ℕ) (n : ℕ) → Counts loop far ns n → Starts loop far ns n
  starts-counts ns n h = record { entry = λ q l. rw (h.count q l) (omega arith) }

  -- the notes from place q on are complete; before it they are counts alone
  pub record Noted (ns : List ℕ) (n q : ℕ) : Type 0 where
    pub starts : Starts loop far ns n
    pub blank : (j : ℕ) → j < q → j < 1000 → back_of ns j ≡ 0
    pub backs : Backs loop far ns n q

  pub noted-none : (ns : List ℕ) (n : ℕ) → Counts loop far ns n → Noted ns n n
  noted-none ns n h = record { starts = starts-counts ns n h; blank = λ j g l. rw (h.count j l) (omega arith); backs = backs-none ns n n (omega arith) }

  -- a note is at most eight times 1,024 and what is noted beside it
  pub noted_small : (ns : List ℕ) (n q i : ℕ) → i < q → i < 1000 → Noted ns n q → get_or ns i 0 ≤ 8192
  noted_small ns n q i g l h =
      let a = h.starts.entry i l in
      let b = h.blank i g l in
      let c = up_to-most (tally n (opens loop far i)) in
      omega arith

  apart : (a b : ℕ) → a % 1024 ≡ 0 → b < 1024 → ((a + b) / 1024 ≡ a / 1024) × ((a + b) % 1024 ≡ b)
  apart a b h l = (omega arith, omega arith)

  pub noted_more : (ns : List ℕ) (n q i b c : ℕ) {s : ℕ} → length ns ≡ 1000 → n ≤ 1000 → q ≡ i + 1 → q ≤ n → Noted ns n q → s ≡ start_of loop far i
      → Firstly (reach loop far s) q n b → c ≡ get_or ns i 0 + b → Noted (set ns i c) n i
  noted_more ns n q i b c {s} l m e k h o f g =
      record {
        starts = record { entry = λ j u. started (eqb i j) refl u };
        blank = λ j u v. other j (λ z. absurd (omega arith)) (h.blank j (omega arith) v);
        backs = record { entry = λ j u v. backed (eqb i j) refl u v };
      }
    where
      small : b < 1024
      small = let x = f.most in omega arith

      two : (c / 1024 ≡ starts_of ns i) × (c % 1024 ≡ b)
      two = rw g (apart (get_or ns i 0) b (h.blank i (omega arith) (omega arith)) small)

      same : get_or (set ns i c) i 0 ≡ c
      same = get_or-set_same ns i c 0 (omega arith)

      keep : (j : ℕ) → (i ≡ j → ⊥) → get_or (set ns i c) j 0 ≡ get_or ns j 0
      keep j d = get_or-set_other ns i j c 0 (λ y. d (sym y))

      other : (j : ℕ) → (i ≡ j → ⊥) → back_of ns j ≡ 0 → back_of (set ns i c) j ≡ 0
      other j d z = rw (keep j d) z

      started : {j : ℕ} (t : Bool) → eqb i j ≡ t → j < 1000 → starts_of (set ns i c) j ≡ up_to_8 (tally n (opens loop far j))
      started {j} true x u =
          subst (λ (r : ℕ). starts_of (set ns i c) r ≡ up_to_8 (tally n (opens loop far r))) (eqb-true i j x)
          (rw same (two.0 ∙ h.starts.entry i (omega arith)))
      started {j} false x u = rw (keep j (eqb-false i j x)) (h.starts.entry j u)

      behind : {i j : ℕ} → (i ≡ j → ⊥) → i ≤ j → i + 1 ≤ j
      behind d l = omega arith

      backed : {j : ℕ} (t : Bool) → eqb i j ≡ t → i ≤ j → j < n → Firstly (reach loop far (start_of loop far j)) (j + 1) n (back_of (set ns i c) j)
      backed {j} true x u v =
          subst (λ (r : ℕ). Firstly (reach loop far (start_of loop far r)) (r + 1) n (back_of (set ns i c) r)) (eqb-true i j x)
          (rw (same, two.1, ← e, ← o) f)
      backed {j} false x u v =
          rw (keep j (eqb-false i j x)) (h.backs.entry j (let d = behind (eqb-false i j x) u in omega arith) v)
