-- Ranges as the code finds and counts them are those of the check: how many hold a place, counted from place to place; which loop is the
-- first, from a place on, whose range starts before a mark; and what that says of overlaps and of two places. Assumes nothing.
use Prim.Native.Nat.{ℕ, zero, suc, ◌+◌, ◌-◌, ◌*◌, ◌≤◌, ◌<◌}
use mathlib.Core.Bool.{Bool, true, false, cond, ◌&&◌, ◌||◌}
use mathlib.Core.Path.{◌≡◌, refl, sym, ◌∙◌, ap, subst}
use native.Mathlib.Omega.{arith}
use native.Mathlib.Nat.{zero-add}
use borrow.Author.Tests.{ltb-true, ltb-false, leb-true, leb-false, eqb-true, eqb-false, lt-ltb, le-ltb, le-leb, lt-leb, eq-eqb, ne_eqb}
use lib.Dec.{ltb, leb, eqb}
use Rattle.count.specs.Pick.{pick}
use Rattle.count.proofs.laws.Truth.{and_parts, and-false}
use Rattle.program.specs.Check.{some, tally}
use Rattle.program.specs.work.Marks.{mark, holds, holders, letter}
use Rattle.program.specs.work.Ranges.{fuller, up_to_8, ranged, opens, goes_on, letter_by}
use Rattle.program.proofs.laws.Clean.{clean_of}

-- ---- at some place, at how many

or-second : (a : Bool) {b : Bool} → b ≡ true → a || b ≡ true
or-second true h = refl
or-second false h = h

pub some-none : (k : ℕ) (f : ℕ → Bool) → ((i : ℕ) → i < k → f i ≡ false) → some k f ≡ false
some-none zero f h = refl
some-none (suc k) f h = rw (h k (omega arith)) (some-none k f (λ i l. h i (omega arith)))

below : {i k : ℕ} → i < suc k → (i ≡ k → ⊥) → i < k
below h d = omega arith

some_go : (k i : ℕ) (f : ℕ → Bool) (q : Bool) → eqb i k ≡ q → i < suc k → f i ≡ true → (i < k → some k f ≡ true) → f k || some k f ≡ true
some_go k i f true e l h g = let t : f k ≡ true = subst (λ (j : ℕ). f j ≡ true) (eqb-true i k e) h in rw t
some_go k i f false e l h g = or-second (f k) (g (below l (eqb-false i k e)))

pub some_one : (k i : ℕ) (f : ℕ → Bool) → i < k → f i ≡ true → some k f ≡ true
some_one zero i f l h = absurd (omega arith)
some_one (suc k) i f l h = some_go k i f (eqb i k) refl l h (λ m. some_one k i f m h)

tally-plus : (k : ℕ) (f g h : ℕ → Bool) → ((i : ℕ) → cond {A = ℕ} (f i) 1 0 ≡ cond (g i) 1 0 + cond (h i) 1 0) → tally k f ≡ tally k g + tally k h
tally-plus zero f g h e = refl
tally-plus (suc k) f g h e = omega (arith, e k, tally-plus k f g h e)

pub tally-none : (k : ℕ) (f : ℕ → Bool) → ((i : ℕ) → i < k → f i ≡ false) → tally k f ≡ 0
tally-none zero f h = refl
tally-none (suc k) f h = let z = tally-none k f (λ i l. h i (omega arith)) in rw (h k (omega arith)) (omega arith)

at-go : (k p : ℕ) (b q : Bool) → eqb k p ≡ q → p < suc k → (p < k → tally k (λ i. eqb i p && b) ≡ cond b 1 0)
    → cond {A = ℕ} (q && b) 1 0 + tally k (λ i. eqb i p && b) ≡ cond b 1 0
at-go k p b true e l h =
    let d : k ≡ p = eqb-true k p e in
    let z : tally k (λ i. eqb i p && b) ≡ 0 = tally-none k (λ i. eqb i p && b) (λ i m. rw (ne_eqb i p (λ x. absurd (omega arith)))) in
    omega arith
at-go k p b false e l h = let g = h (above l (eqb-false k p e)) in omega arith
  where
    above : {k p : ℕ} → p < suc k → (k ≡ p → ⊥) → p < k
    above h d = omega arith

tally-at : (k p : ℕ) (b : Bool) → p < k → tally k (λ i. eqb i p && b) ≡ cond b 1 0
tally-at zero p b l = absurd (omega arith)
tally-at (suc k) p b l = at-go k p b (eqb k p) refl l (λ m. tally-at k p b m)

-- ---- the ranges that hold a place: those that hold the place before it too, and those that start there

-- a range from mark f to place i, and place p
module _ (f p i : ℕ) where
  started : leb f (i + 32768) && eqb (f - 32768) p ≡ true → p ≤ i
  started e =
      let d = and_parts (leb f (i + 32768)) (eqb (f - 32768) p) e in
      let a = leb-true f (i + 32768) d.0 in
      let b = eqb-true (f - 32768) p d.1 in
      omega arith

  not-started : i < p → leb f (i + 32768) && eqb (f - 32768) p ≡ false
  not-started l = by (leb f (i + 32768) && eqb (f - 32768) p) refl
    where
      by : (t : Bool) → leb f (i + 32768) && eqb (f - 32768) p ≡ t → t ≡ false
      by true e = let g = started e in absurd (omega arith)
      by false e = refl

  abbrev Parts : Type 0
  Parts =
      cond {A = ℕ} (leb f (p + 32768) && leb (p + 32768) (i + 32768)) 1 0
      ≡ cond ((leb f (i + 32768) && ltb (f - 32768) p) && leb p i) 1 0 + cond (leb f (i + 32768) && eqb (f - 32768) p) 1 0

  parts_in : (l : Bool) → p ≤ i → f ≤ p + 32768 → ltb (f - 32768) p ≡ l → Parts
  parts_in true u v z =
      let w = ltb-true (f - 32768) p z in
      rw (le-leb f (p + 32768) v, le-leb (p + 32768) (i + 32768) (omega arith), le-leb f (i + 32768) (omega arith), z, le-leb p i u, ne_eqb (f - 32768) p (λ d. omega arith))
  parts_in false u v z =
      let w = ltb-false (f - 32768) p z in
      rw (le-leb f (p + 32768) v, le-leb (p + 32768) (i + 32768) (omega arith), le-leb f (i + 32768) (omega arith), z, eq-eqb (f - 32768) p (omega arith))

  parts-late : p + 32768 < f → Parts
  parts-late v = rw (lt-leb f (p + 32768) v, le-ltb (f - 32768) p (omega arith), ne_eqb (f - 32768) p (λ d. omega arith), and-false (leb f (i + 32768)))

  parts-by : (a c : Bool) → leb f (p + 32768) ≡ a → leb p i ≡ c → Parts
  parts-by a false x y =
      let l = leb-false p i y in
      rw (lt-leb (p + 32768) (i + 32768) (omega arith), y, not-started l, and-false (leb f (p + 32768)), and-false (leb f (i + 32768) && ltb (f - 32768) p))
  parts-by true true x y = parts_in (ltb (f - 32768) p) (leb-true p i y) (leb-true f (p + 32768) x) refl
  parts-by false true x y = parts-late (leb-false f (p + 32768) x)

  -- the same by the next place: those that hold it too, and the one that ends here
  abbrev Ends : Type 0
  Ends =
      cond {A = ℕ} (leb f (p + 32768) && leb (p + 32768) (i + 32768)) 1 0
      ≡ cond ((leb f (i + 32768) && ltb (f - 32768) (p + 1)) && leb (p + 1) i) 1 0 + cond (eqb i p && leb f (i + 32768)) 1 0

  ends_on : (a : Bool) → leb f (p + 32768) ≡ a → p < i → Ends
  ends_on true x l =
      let v = leb-true f (p + 32768) x in
      rw (x, le-leb (p + 32768) (i + 32768) (omega arith), le-leb f (i + 32768) (omega arith), lt-ltb (f - 32768) (p + 1) (omega arith), le-leb (p + 1) i (omega arith), ne_eqb i p (λ d. omega arith))
  ends_on false x l =
      let v = leb-false f (p + 32768) x in
      rw (x, le-ltb (f - 32768) (p + 1) (omega arith), ne_eqb i p (λ d. omega arith), and-false (leb f (i + 32768)))

  ends-here : i ≡ p → Ends
  ends-here e =
      rw (e, le-leb (p + 32768) (p + 32768) (omega arith), lt-leb (p + 1) p (omega arith), eq-eqb p p refl, and-false (leb f (p + 32768) && ltb (f - 32768) (p + 1)))
      (by (leb f (p + 32768)))
    where
      by : (t : Bool) → cond {A = ℕ} (t && true) 1 0 ≡ 0 + cond (true && t) 1 0
      by true = refl
      by false = refl

  ends-before : i < p → Ends
  ends-before l =
      rw (lt-leb (p + 32768) (i + 32768) (omega arith), lt-leb (p + 1) i (omega arith), ne_eqb i p (λ d. omega arith), and-false (leb f (p + 32768)), and-false (leb f (i + 32768) && ltb (f - 32768) (p + 1)))

  ends_by : (b c : Bool) → eqb i p ≡ b → ltb p i ≡ c → Ends
  ends_by true c x y = ends-here (eqb-true i p x)
  ends_by false true x y = ends_on (leb f (p + 32768)) refl (ltb-true p i y)
  ends_by false false x y = ends-before (less (eqb-false i p x) (ltb-false p i y))
    where
      less : {i p : ℕ} → (i ≡ p → ⊥) → i ≤ p → i < p
      less d h = omega arith

module _ (loop : ℕ → Bool) (far : ℕ → ℕ) where
  held-parts : (p i : ℕ) → cond {A = ℕ} (holds loop far i (mark p)) 1 0 ≡ cond (goes_on loop far p i) 1 0 + cond (opens loop far p i) 1 0
  unfolding holds goes_on opens ranged
  held-parts p i = by (loop i)
    where
      by : (t : Bool)
          → cond {A = ℕ} ((t && leb (far i) (p + 32768)) && leb (p + 32768) (i + 32768)) 1 0
          ≡ cond (((t && leb (far i) (i + 32768)) && ltb (far i - 32768) p) && leb p i) 1 0 + cond ((t && leb (far i) (i + 32768)) && eqb (far i - 32768) p) 1 0
      by true = parts-by (far i) p i (leb (far i) (p + 32768)) (leb p i) refl refl
      by false = refl

  held-own : (p i : ℕ) → cond {A = ℕ} (holds loop far i (mark p)) 1 0 ≡ cond (goes_on loop far (p + 1) i) 1 0 + cond (eqb i p && ranged loop far i) 1 0
  unfolding holds goes_on ranged
  held-own p i = by (loop i)
    where
      by : (t : Bool)
          → cond {A = ℕ} ((t && leb (far i) (p + 32768)) && leb (p + 32768) (i + 32768)) 1 0
          ≡ cond (((t && leb (far i) (i + 32768)) && ltb (far i - 32768) (p + 1)) && leb (p + 1) i) 1 0 + cond (eqb i p && (t && leb (far i) (i + 32768))) 1 0
      by true = ends_by (far i) p i (eqb i p) (ltb p i) refl refl
      by false = rw (and-false (eqb i p))

  held-ends : (p i : ℕ) → cond {A = ℕ} (holds loop far i (mark p)) 1 0 ≡ cond (goes_on loop far (p + 1) i) 1 0 + cond (eqb i p && ranged loop far p) 1 0
  held-ends p i = held-own p i ∙ ap (λ (x : ℕ). cond (goes_on loop far (p + 1) i) 1 0 + x) (same (eqb i p) refl)
    where
      same : (t : Bool) → eqb i p ≡ t → cond {A = ℕ} (t && ranged loop far i) 1 0 ≡ cond (t && ranged loop far p) 1 0
      same true e = ap (λ (j : ℕ). cond {A = ℕ} (ranged loop far j) 1 0) (eqb-true i p e)
      same false e = refl

  module _ (n : ℕ) where
    holders-parts : (p : ℕ) → holders loop far n p ≡ tally n (goes_on loop far p) + tally n (opens loop far p)
    unfolding holders
    holders-parts p = tally-plus n (λ i. holds loop far i (mark p)) (goes_on loop far p) (opens loop far p) (held-parts p)

    holders-ends : (p : ℕ) → p < n → holders loop far n p ≡ tally n (goes_on loop far (p + 1)) + cond (ranged loop far p) 1 0
    unfolding holders
    holders-ends p l =
        tally-plus n (λ i. holds loop far i (mark p)) (goes_on loop far (p + 1)) (λ i. eqb i p && ranged loop far p) (held-ends p)
        ∙ ap (λ (x : ℕ). tally n (goes_on loop far (p + 1)) + x) (tally-at n p (ranged loop far p) l)

    -- no range holds a place before place 0
    pub none_before : 0 ≡ tally n (goes_on loop far 0)
    unfolding goes_on
    none_before = sym (tally-none n (λ i. (ranged loop far i && ltb (far i - 32768) 0) && leb 0 i) (λ i l. by i))
      where
        by : (i : ℕ) → (ranged loop far i && ltb (far i - 32768) 0) && leb 0 i ≡ false
        by i = rw (le-ltb (far i - 32768) 0 (omega arith), and-false (ranged loop far i))

-- ---- eight stands for every greater number

pub up_to-small : (k : ℕ) → k ≤ 7 → up_to_8 k ≡ k
unfolding up_to_8
up_to-small k h = rw (lt-ltb k 8 (omega arith))

pub up_to-most : (k : ℕ) → up_to_8 k ≤ 8
unfolding up_to_8
up_to-most k = by (ltb k 8) refl
  where
    by : (t : Bool) → ltb k 8 ≡ t → pick t k 8 ≤ 8
    by true e = let l = ltb-true k 8 e in omega arith
    by false e = omega arith

up_to-deep : (h k : ℕ) → ltb 7 (h + up_to_8 k) ≡ ltb 7 (h + k)
unfolding up_to_8
up_to-deep h k = by (ltb k 8) refl
  where
    by : (t : Bool) → ltb k 8 ≡ t → ltb 7 (h + pick t k 8) ≡ ltb 7 (h + k)
    by true e = refl
    by false e = let l = ltb-false k 8 e in rw (lt-ltb 7 (h + 8) (omega arith), lt-ltb 7 (h + k) (omega arith))

pub up_to-more : (k : ℕ) (b : Bool) → fuller (up_to_8 k * 1024) b ≡ up_to_8 (cond b 1 0 + k) * 1024
unfolding fuller up_to_8
up_to-more k false = rw (zero-add k)
up_to-more k true = by (ltb k 8) (ltb k 7) refl refl
  where
    by : (t u : Bool) → ltb k 8 ≡ t → ltb k 7 ≡ u
        → pick (ltb (pick t k 8 * 1024) 8192) (pick t k 8 * 1024 + 1024) (pick t k 8 * 1024) ≡ pick (ltb (1 + k) 8) (1 + k) 8 * 1024
    by true true e f = let l = ltb-true k 7 f in rw (lt-ltb (k * 1024) 8192 (omega arith), lt-ltb (1 + k) 8 (omega arith)) (omega arith)
    by true false e f =
        let l = ltb-true k 8 e in
        let m = ltb-false k 7 f in
        rw (lt-ltb (k * 1024) 8192 (omega arith), le-ltb (1 + k) 8 (omega arith)) (omega arith)
    by false u e f = let l = ltb-false k 8 e in rw (le-ltb (1 + k) 8 (omega arith))

-- ---- the letter of a place, and the count behind it

module _ (loop turn : ℕ → Bool) (far : ℕ → ℕ) (n p : ℕ) {count start : ℕ} (e : count ≡ tally n (goes_on loop far p)) (d : start ≡ up_to_8 (tally n (opens loop far p))) where
  deep-same : ltb 7 (count + start) ≡ ltb 7 (holders loop far n p)
  deep-same = rw (e, d) (up_to-deep (tally n (goes_on loop far p)) (tally n (opens loop far p)) ∙ ap (ltb 7) (sym (holders-parts loop far n p)))

  pub letter-same : letter_by loop turn far n (count + start) p ≡ letter loop turn far n p
  unfolding letter_by letter
  letter-same = rw deep-same

  -- where no fault is, the count is that of the ranges that hold the place
  pub count_same : letter loop turn far n p ≡ 0 → count + start ≡ holders loop far n p
  count_same z =
      let few = ltb-false 7 (holders loop far n p) (clean_of loop turn far n p z).seven in
      let h = holders-parts loop far n p in
      let s : start ≡ tally n (opens loop far p) = d ∙ up_to-small (tally n (opens loop far p)) (omega arith) in
      omega arith

  pub count_next : letter loop turn far n p ≡ 0 → p < n → count + start ≡ tally n (goes_on loop far (p + 1)) + cond (ranged loop far p) 1 0
  count_next z l = count_same z ∙ holders-ends loop far n p l

  -- as the code counts: l is the letter, b whether the place has a range, o what is taken off behind it
  pub pass-next : {l o : ℕ} {b : Bool} → l ≡ letter_by loop turn far n (count + start) p → l ≡ 0 → p < n → b ≡ ranged loop far p → o ≡ cond b 1 0
      → (o ≤ count + start) × (count + start - o ≡ tally n (goes_on loop far (p + 1)))
  pass-next {o = o} h z m f g =
      let x = count_next (sym letter-same ∙ sym h ∙ z) m in
      let y : o ≡ cond (ranged loop far p) 1 0 = g ∙ ap (λ (t : Bool). cond {A = ℕ} t 1 0) f in
      (omega arith, omega arith)

pub tally-most : (k : ℕ) (f : ℕ → Bool) → tally k f ≤ k
tally-most zero f = omega arith
tally-most (suc k) f = one_more (f k) (tally k f) k (tally-most k f)
  where
    one_more : (t : Bool) (a b : ℕ) → a ≤ b → cond {A = ℕ} t 1 0 + a ≤ suc b
    one_more true a b h = omega arith
    one_more false a b h = omega arith
