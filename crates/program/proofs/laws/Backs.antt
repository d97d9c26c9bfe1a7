-- The first loop, from a place on, whose range starts before a mark: how the code finds it, and what it says of ranges that overlap and of
-- two places that a range parts. Assumes nothing.
use Prim.Native.Nat.{ℕ, ◌+◌, ◌-◌, ◌≤◌, ◌<◌}
use mathlib.Core.Bool.{Bool, true, false, not, ◌&&◌, beq}
use mathlib.Core.List.{List}
use mathlib.Core.Path.{◌≡◌, refl, sym, ◌∙◌, ap, subst, fun_ext}
use native.Mathlib.Omega.{arith}
use borrow.Author.Tests.{ltb-true, ltb-false, leb-true, eqb-true, eqb-false, lt-ltb, le-ltb, le-leb, lt-leb}
use lib.Dec.{ltb, leb, eqb}
use Rattle.count.specs.Pick.{pick}
use Rattle.count.proofs.laws.Truth.{never, and_parts, and-false, both}
use Rattle.program.specs.Check.{some}
use Rattle.program.specs.work.Marks.{mark, holds, meets, overlaps, outside, strays}
use Rattle.program.specs.work.Ranges.{Firstly, ranged, start_of, back_of, reach, differ, Backs}
use Rattle.program.proofs.laws.Clean.{target-of, holds-yes, holds-late, holds-short}
use Rattle.program.proofs.laws.Ranges.{some-none, some_one}

-- nowhere from k on, up to i
pub record Passed (f : ℕ → Bool) (k i : ℕ) : Type 0 where
  pub none : (j : ℕ) → k ≤ j → j < i → f j ≡ false

pub passed_none : (f : ℕ → Bool) (k : ℕ) → Passed f k k
passed_none f k = record { none = λ j g h. absurd (omega arith) }

pub first-hit : (f : ℕ → Bool) (k i n : ℕ) → Passed f k i → k ≤ i → i < n → f i ≡ true → Firstly f k n i
first-hit f k i n p g h e = record { from = g; most = omega arith; none = p.none; hit = λ l. e }

pub first-end : (f : ℕ → Bool) (k i n : ℕ) → Passed f k i → k ≤ i → i ≤ n → n ≤ i → Firstly f k n i
first-end f k i n p g h l = record { from = g; most = h; none = p.none; hit = λ m. absurd (omega arith) }

module _ (loop : ℕ → Bool) (far : ℕ → ℕ) where
  -- ---- what reaches before a mark

  pub reach-parts : (s i : ℕ) → reach loop far s i ≡ true → (loop i ≡ true) × (far i < s)
  unfolding reach
  reach-parts s i e = let d = and_parts (loop i) (ltb (far i) s) e in (d.0, ltb-true (far i) s d.1)

  pub reach-not : (s i : ℕ) → reach loop far s i ≡ false → loop i ≡ true → s ≤ far i
  unfolding reach
  reach-not s i e l = ltb-false (far i) s (sym (rw l) ∙ e)

  reach-less : (s t i : ℕ) → s ≤ t → reach loop far t i ≡ false → reach loop far s i ≡ false
  unfolding reach
  reach-less s t i h e = by (loop i) refl
    where
      by : (b : Bool) → loop i ≡ b → b && ltb (far i) s ≡ false
      by true d = let g = reach-not t i e d in le-ltb (far i) s (omega arith)
      by false d = refl

  -- a place that doesn't reach before mark s starts at s or later
  start-least : (s i : ℕ) → reach loop far s i ≡ false → s ≤ mark i + 1 → s ≤ start_of loop far i
  unfolding start_of ranged
  start-least s i e h = by (loop i) (leb (far i) (mark i)) refl
    where
      by : (b c : Bool) → loop i ≡ b → s ≤ pick (b && c) (far i) (mark i + 1)
      by true true d = reach-not s i e d
      by true false d = h
      by false c d = h

  pub start-yes : (i : ℕ) {b : Bool} {f : ℕ} → b ≡ ranged loop far i → b ≡ true → f ≡ far i → f ≡ start_of loop far i
  unfolding start_of
  start-yes i e t g = let z : ranged loop far i ≡ true = sym e ∙ t in rw z g

  pub start-no : (i : ℕ) {b : Bool} {m : ℕ} → b ≡ ranged loop far i → b ≡ false → m ≡ mark i → m + 1 ≡ start_of loop far i
  unfolding start_of
  start-no i e t g = let z : ranged loop far i ≡ false = sym e ∙ t in rw (z, g)

  pub start-most : (i : ℕ) → start_of loop far i ≤ mark i + 1
  unfolding start_of ranged
  start-most i = by (loop i) (leb (far i) (mark i)) refl
    where
      by : (b c : Bool) → leb (far i) (mark i) ≡ c → pick (b && c) (far i) (mark i + 1) ≤ mark i + 1
      by true true e = let l = leb-true (far i) (mark i) e in omega arith
      by true false e = omega arith
      by false c e = omega arith

  -- ---- from entry to entry

  pub entry_of : (ns : List ℕ) (n k i : ℕ) {u : ℕ} → Backs loop far ns n k → k ≤ i → i < n → u ≡ back_of ns i → Firstly (reach loop far (start_of loop far i)) (i + 1) n u
  entry_of ns n k i b g h e = rw e (b.entry i g h)

  pub passed_on : (k i n s u : ℕ) → Passed (reach loop far s) k i → k ≤ i → reach loop far s i ≡ false → s ≤ mark k + 1
      → Firstly (reach loop far (start_of loop far i)) (i + 1) n u → Passed (reach loop far s) k u
  passed_on k i n s u p g e h f = record { none = λ j a b. by (ltb j i) (eqb j i) refl refl a b }
    where
      least : s ≤ start_of loop far i
      least = start-least s i e (omega arith)

      behind : {j i : ℕ} → (j ≡ i → ⊥) → i ≤ j → i + 1 ≤ j
      behind d l = omega arith

      by : {j : ℕ} (a b : Bool) → ltb j i ≡ a → eqb j i ≡ b → k ≤ j → j < u → reach loop far s j ≡ false
      by {j} true b x y l m = p.none j l (ltb-true j i x)
      by {j} false true x y l m = subst (λ (q : ℕ). reach loop far s q ≡ false) (sym (eqb-true j i y)) e
      by {j} false false x y l m = reach-less s (start_of loop far i) j least (f.none j (behind (eqb-false j i y) (ltb-false j i x)) m)

  -- ---- overlaps

  module _ (p : ℕ) (o : loop p ≡ true) where
    over-so : overlaps loop far p ≡ some p (λ i. meets loop far i (far p))
    unfolding overlaps
    over-so = rw o

    -- a range that starts at its own place or behind overlaps none before it
    pub over_none : p ≤ far p - 32768 → overlaps loop far p ≡ false
    unfolding meets
    over_none h = over-so ∙ some-none p (λ i. meets loop far i (far p)) (λ i l. rw (lt-leb (far p) (mark i) (omega arith), and-false (loop i && ltb (far i) (far p))))

    pub over_first : (n r : ℕ) → p < n → Firstly (reach loop far (far p)) (far p - 32768) n r → ltb r p ≡ overlaps loop far p
    unfolding meets reach
    over_first n r l f = by (ltb r p) refl
      where
        none : p ≤ r → (i : ℕ) → i < p → (c : Bool) → leb (far p) (mark i) ≡ c → (loop i && ltb (far i) (far p)) && leb (far p) (mark i) ≡ false
        none h i g true e = let d = leb-true (far p) (mark i) e in rw (f.none i (omega arith) (omega arith))
        none h i g false e = rw (e, and-false (loop i && ltb (far i) (far p)))

        by : (t : Bool) → ltb r p ≡ t → t ≡ overlaps loop far p
        by true e =
            let h = ltb-true r p e in
            let g = f.from in
            sym (over-so ∙ some_one p r (λ i. meets loop far i (far p)) h (both (f.hit (omega arith)) (le-leb (far p) (mark r) (omega arith))))
        by false e = sym (over-so ∙ some-none p (λ i. meets loop far i (far p)) (λ i g. none (ltb-false r p e) i g (leb (far p) (mark i)) refl))

  over-not : (p : ℕ) → loop p ≡ false → overlaps loop far p ≡ false
  unfolding overlaps
  over-not p e = rw e

  -- as the code asks: b is whether place p is a loop, f the mark where it leads to, k the place of that mark
  module _ (p : ℕ) {b : Bool} (e : b ≡ loop p) where
    pub asked-off : b ≡ false → false ≡ overlaps loop far p
    asked-off t = sym (over-not p (sym e ∙ t))

    module _ {f k : ℕ} (t : b ≡ true) (g : f ≡ far p) (h : k ≡ f - 32768) where
      place : k ≡ far p - 32768
      place = h ∙ ap (λ (x : ℕ). x - 32768) g

      pub asked-late : p ≤ k → false ≡ overlaps loop far p
      asked-late l = sym (over_none p (sym e ∙ t) (rw (← place) l))

      pub asked-first : (n r : ℕ) → p < n → Firstly (reach loop far f) k n r → ltb r p ≡ overlaps loop far p
      asked-first n r l x = over_first p (sym e ∙ t) n r l (rw (← place, ← g) x)

  -- ---- what a range holds

  short-so : (i m : ℕ) → reach loop far (m + 1) i ≡ false → holds loop far i m ≡ false
  short-so i m e = holds-short loop far i m (λ d. let g = reach-not (m + 1) i e d in omega arith)

  holds-reach : (i m : ℕ) → reach loop far (m + 1) i ≡ true → m ≤ mark i → holds loop far i m ≡ true
  holds-reach i m e h = let d = reach-parts (m + 1) i e in let g = d.1 in holds-yes loop far i m d.0 (omega arith) h

  pub differ-so : {x y : Bool} (a b i : ℕ) → holds loop far i a ≡ x → holds loop far i b ≡ y → differ loop far a b i ≡ not (beq x y)
  unfolding differ
  differ-so a b i e f = rw (e, f)

  pub at_mark : {x y : ℕ} (k n r : ℕ) → x ≡ y → Firstly (reach loop far (x + 1)) k n r → Firstly (reach loop far (y + 1)) k n r
  at_mark k n r e f = rw (← e) f

  pub near-mark : {near : Bool} {x y : ℕ} (i : ℕ) → x ≡ y → near ≡ reach loop far (x + 1) i → near ≡ reach loop far (y + 1) i
  near-mark i e f = rw (← e) f

  -- ---- two places

  -- no range among those of the first k places parts them
  pub record Alike (n lo hi k : ℕ) : Type 0 where
    pub so_far : (i : ℕ) → i < k → i < n → differ loop far (mark lo) (mark hi) i ≡ false

  module _ (n lo hi : ℕ) (h : lo ≤ hi) where
    -- a range that holds the first and ends before the second
    pub part-first : (r : ℕ) → Firstly (reach loop far (mark lo + 1)) lo n r → r < hi → hi ≤ n → true ≡ some n (differ loop far (mark lo) (mark hi))
    part-first r f l m =
        let g = f.from in
        sym (some_one n r (differ loop far (mark lo) (mark hi)) (omega arith)
        (differ-so (mark lo) (mark hi) r (holds-reach r (mark lo) (f.hit (omega arith)) (omega arith)) (holds-late loop far r (mark hi) (omega arith))))

    pub alike-start : (r : ℕ) → Firstly (reach loop far (mark lo + 1)) lo n r → hi ≤ r → Alike n lo hi hi
    alike-start r f l = record { so_far = λ i a b. by (ltb i lo) i refl a }
      where
        by : (t : Bool) (i : ℕ) → ltb i lo ≡ t → i < hi → differ loop far (mark lo) (mark hi) i ≡ false
        by true i e a = let g = ltb-true i lo e in differ-so (mark lo) (mark hi) i (holds-late loop far i (mark lo) (omega arith)) (holds-late loop far i (mark hi) (omega arith))
        by false i e a =
            let g = ltb-false i lo e in
            differ-so (mark lo) (mark hi) i (short-so i (mark lo) (f.none i g (omega arith))) (holds-late loop far i (mark hi) (omega arith))

    module _ (k i : ℕ) (g : hi ≤ k) (f : Firstly (reach loop far (mark hi + 1)) k n i) {near : Bool} (e : near ≡ reach loop far (mark lo + 1) i) where
      -- a range that holds the second and starts behind the first
      pub part-hit : ltb i n && not near ≡ true → true ≡ some n (differ loop far (mark lo) (mark hi))
      part-hit t =
          let d = and_parts (ltb i n) (not near) t in
          let l = ltb-true i n d.0 in
          let c = f.from in
          let z : reach loop far (mark lo + 1) i ≡ false = sym e ∙ off near d.1 in
          sym (some_one n i (differ loop far (mark lo) (mark hi)) l (differ-so (mark lo) (mark hi) i (short-so i (mark lo) z) (holds-reach i (mark hi) (f.hit l) (omega arith))))
        where
          off : (x : Bool) → not x ≡ true → x ≡ false
          off true y = never y
          off false y = refl

      pub alike_next : ltb i n && not near ≡ false → Alike n lo hi k → Alike n lo hi (i + 1)
      alike_next t a = record { so_far = λ j b c. by (ltb j k) (ltb j i) j refl refl b c }
        where
          on : (x y : Bool) → x && not y ≡ false → x ≡ true → y ≡ true
          on x true z w = refl
          on true false z w = never (sym z)
          on false false z w = never w

          same : {j i : ℕ} → i ≤ j → j < i + 1 → j ≡ i
          same u v = omega arith

          here : i < n → differ loop far (mark lo) (mark hi) i ≡ false
          here l =
              let c = f.from in
              let y : reach loop far (mark lo + 1) i ≡ true = sym e ∙ on (ltb i n) near t (lt-ltb i n l) in
              differ-so (mark lo) (mark hi) i (holds-reach i (mark lo) y (omega arith)) (holds-reach i (mark hi) (f.hit l) (omega arith))

          by : (u v : Bool) (j : ℕ) → ltb j k ≡ u → ltb j i ≡ v → j < i + 1 → j < n → differ loop far (mark lo) (mark hi) j ≡ false
          by true v j x y b c = a.so_far j (ltb-true j k x) c
          by false true j x y b c =
              let z = f.none j (ltb-false j k x) (ltb-true j i y) in
              differ-so (mark lo) (mark hi) j (short-so j (mark lo) (reach-less (mark lo + 1) (mark hi + 1) j (omega arith) z)) (short-so j (mark hi) z)
          by false false j x y b c =
              let d = same (ltb-false j i y) b in
              subst (λ (q : ℕ). differ loop far (mark lo) (mark hi) q ≡ false) (sym d) (here (subst (λ (q : ℕ). q < n) d c))

    pub alike_end : (k : ℕ) → n ≤ k → Alike n lo hi k → false ≡ some n (differ loop far (mark lo) (mark hi))
    alike_end k l a = sym (some-none n (differ loop far (mark lo) (mark hi)) (λ i b. a.so_far i (omega arith) b))

-- ---- a jump or wait and its target

-- as the code asks: b is whether place p is one, f the mark where it leads to, k the place of that mark; that is a place of the field, or
-- the end place
module _ (turn : ℕ → Bool) (far : ℕ → ℕ) (n p : ℕ) {b : Bool} (e : b ≡ turn p) (t : b ≡ true) (o : outside turn far n p ≡ false) where
  pub target-in : {f k : ℕ} → f ≡ far p → k ≡ f - 32768 → (mark k ≡ far p) × (k ≤ n)
  target-in g h = let d = target-of turn far n p o (sym e ∙ t) in let a = d.0 in let c = d.1 in (omega arith, omega arith)

module _ (loop turn : ℕ → Bool) (far : ℕ → ℕ) (n p : ℕ) {b : Bool} (e : b ≡ turn p) where
  pub stray-off : b ≡ false → false ≡ strays loop turn far n p
  unfolding strays
  stray-off t = let z : turn p ≡ false = sym e ∙ t in rw z

  module _ (t : b ≡ true) (o : outside turn far n p ≡ false) {f k : ℕ} (g : f ≡ far p) (h : k ≡ f - 32768) where
    stray-so : strays loop turn far n p ≡ some n (differ loop far (mark p) (far p))
    unfolding strays differ
    stray-so = let z : turn p ≡ true = sym e ∙ t in rw z

    pub stray-high : {r : Bool} → r ≡ some n (differ loop far (mark p) (mark k)) → r ≡ strays loop turn far n p
    stray-high x = x ∙ ap (λ (m : ℕ). some n (differ loop far (mark p) m)) (target-in turn far n p e t o g h).0 ∙ sym stray-so

    turned : (x y : Bool) → not (beq x y) ≡ not (beq y x)
    turned true true = refl
    turned true false = refl
    turned false true = refl
    turned false false = refl

    pub stray-low : {r : Bool} → r ≡ some n (differ loop far (mark k) (mark p)) → r ≡ strays loop turn far n p
    unfolding differ
    stray-low x = stray-high (x ∙ ap (some n) (fun_ext (λ i. turned (holds loop far i (mark k)) (holds loop far i (mark p)))))
