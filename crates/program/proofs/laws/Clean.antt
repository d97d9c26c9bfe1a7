-- A check that finds nothing finds nothing at each place, in each of its conditions. Assumes nothing.
use Prim.Native.Nat.{ℕ, zero, suc, ◌+◌, ◌≤◌, ◌<◌}
use mathlib.Core.Bool.{Bool, true, false, cond, not, ◌&&◌, beq}
use mathlib.Core.Path.{◌≡◌, refl, sym, ◌∙◌, subst}
use native.Mathlib.Omega.{arith}
use native.Mathlib.Nat.{zero-add}
use borrow.Author.Tests.{ltb-false, leb-true, eqb-true, eqb-false, le-leb, lt-leb}
use lib.Dec.{ltb, leb, eqb}
use Rattle.count.specs.Pick.{pick}
use Rattle.count.proofs.laws.Truth.{never, or-false, and_parts, both}
use Rattle.count.proofs.laws.Truth.{and-false as and-off}
use Rattle.program.specs.Verdict.{Sound}
use Rattle.program.specs.work.Marks.{mark, holds, meets, overlaps, holders, strays, outside, early, letter, checked}
use Rattle.program.specs.Check.{some, tally}
use Rattle.program.proofs.laws.First.{Told, told}
use Rattle.program.proofs.laws.Flow.{Flow}
use Rattle.program.proofs.laws.Flow as flow

-- ---- tests
pub and-false : {a b : Bool} → a && b ≡ false → a ≡ true → b ≡ false
and-false {a = true} e t = e
and-false {a = false} e t = never t

none-go : {k i : ℕ} (f : ℕ → Bool) (q : Bool) → eqb i k ≡ q → f k ≡ false → (i < k → f i ≡ false) → i < suc k → f i ≡ false
none-go f true e z g h = subst (λ (j : ℕ). f j ≡ false) (sym (eqb-true _ _ e)) z
none-go f false e z g h = let n = eqb-false _ _ e in g (below h n)
  where
    below : {i n : ℕ} → i < suc n → (i ≡ n → ⊥) → i < n
    below h d = omega arith

-- nowhere among k places
pub none_of : (k : ℕ) (f : ℕ → Bool) → some k f ≡ false → (i : ℕ) → i < k → f i ≡ false
none_of zero f e i h = absurd (omega arith)
none_of (suc k) f e i h = let d = or-false e in none-go f (eqb i k) refl d.0 (none_of k f d.1 i) h

-- a target lies between place 0 and the end place
pub target-of : (turn : ℕ → Bool) (far : ℕ → ℕ) (n p : ℕ) → outside turn far n p ≡ false → turn p ≡ true → (32768 ≤ far p) × (far p ≤ mark n)
unfolding outside
target-of turn far n p e t = let d = or-false (and-false e t) in (ltb-false _ _ d.0, ltb-false _ _ d.1)

-- a range starts at place 0 or behind it
pub start-of : (loop : ℕ → Bool) (far : ℕ → ℕ) (p : ℕ) → early loop far p ≡ false → loop p ≡ true → 32768 ≤ far p
unfolding early
start-of loop far p e t = ltb-false _ _ (and-false e t)

-- ---- a check that finds nothing finds nothing at each place
module _ (loop turn : ℕ → Bool) (far : ℕ → ℕ) (n : ℕ) where
  pub record Clean (p : ℕ) : Type 0 where
    pub inside : outside turn far n p ≡ false
    pub late : early loop far p ≡ false
    pub apart : overlaps loop far p ≡ false
    pub seven : ltb 7 (holders loop far n p) ≡ false
    pub same : strays loop turn far n p ≡ false

  parts : (a b c d e : Bool) → pick {A = ℕ} a 97 (pick b 98 (pick c 99 (pick d 100 (pick e 101 0)))) ≡ 0 → (a ≡ false) × (b ≡ false) × (c ≡ false) × (d ≡ false) × (e ≡ false)
  parts true b c d e h = absurd (omega arith)
  parts false true c d e h = absurd (omega arith)
  parts false false true d e h = absurd (omega arith)
  parts false false false true e h = absurd (omega arith)
  parts false false false false true h = absurd (omega arith)
  parts false false false false false h = (refl, refl, refl, refl, refl)

  pub clean_of : (p : ℕ) → letter loop turn far n p ≡ 0 → Clean p
  unfolding letter
  clean_of p h =
      let d = parts (outside turn far n p) (early loop far p) (overlaps loop far p) (ltb 7 (holders loop far n p)) (strays loop turn far n p) h in
      record { inside = d.0; late = d.1; apart = d.2; seven = d.3; same = d.4 }

  -- EVERY PLACE IS CLEAN
  pub clean : checked loop turn far n ≡ Sound → (p : ℕ) → p < n → Clean p
  unfolding checked
  clean e p h = clean_of p (subst (Told (letter loop turn far n) n 0) e (told (letter loop turn far n) n 0) p (omega arith) (omega arith))

  -- and then its letter is 0
  pub letter-of : (p : ℕ) → Clean p → letter loop turn far n p ≡ 0
  unfolding letter
  letter-of p c = rw (c.inside, c.late, c.apart, c.seven, c.same)

-- ---- the counts agree: `holders` counts up, `tally` down
pub up : ℕ → ℕ → (ℕ → Bool) → ℕ
up zero i f = 0
up (suc m) i f = cond (f i) 1 0 + up m (suc i) f

up-last : (m i : ℕ) (f : ℕ → Bool) → up (suc m) i f ≡ cond (f (i + m)) 1 0 + up m i f
unfolding up
up-last zero i f = let e : i + 0 ≡ i = omega arith in rw e
up-last (suc m) i f =
    let h = up-last m (suc i) f in
    let e : i + suc m ≡ suc i + m = omega arith in
    rw e (omega arith)

pub up-tally : (n : ℕ) (f : ℕ → Bool) → up n 0 f ≡ tally n f
unfolding up
up-tally zero f = refl
up-tally (suc n) f = up-last n 0 f ∙ rw (zero-add n, up-tally n f)

one-le : (a b : Bool) → (a ≡ true → b ≡ true) → cond {A = ℕ} a 1 0 ≤ cond b 1 0
one-le true b h = rw (h refl) (omega arith)
one-le false b h = omega arith

pub holders-up : (fl : ℕ → Flow) (m i p : ℕ) (g : ℕ → Bool) → ((j : ℕ) → flow.holds fl j p ≡ true → g j ≡ true) → flow.holders fl m i p ≤ up m i g
unfolding up
holders-up fl zero i p g h = omega arith
holders-up fl (suc m) i p g h = omega (arith, one-le (flow.holds fl i p) (g i) (h i), holders-up fl m (suc i) p g h)

-- ---- ranges
module _ (loop : ℕ → Bool) (far : ℕ → ℕ) where
  pub holds-yes : (i m : ℕ) → loop i ≡ true → far i ≤ m → m ≤ mark i → holds loop far i m ≡ true
  unfolding holds
  holds-yes i m k g h = both (both k (le-leb _ _ g)) (le-leb _ _ h)

  -- a range that ends before mark m, or starts behind it, does not hold it
  pub holds-late : (i m : ℕ) → mark i < m → holds loop far i m ≡ false
  unfolding holds
  holds-late i m h = rw (lt-leb m (mark i) h, and-off (loop i && leb (far i) m))

  pub holds-short : (i m : ℕ) → (loop i ≡ true → m < far i) → holds loop far i m ≡ false
  unfolding holds
  holds-short i m f = go (loop i) refl
    where
      go : (b : Bool) → loop i ≡ b → (b && leb (far i) m) && leb m (mark i) ≡ false
      go true e = let h = f e in rw (lt-leb (far i) m h)
      go false e = refl

  pub holds_parts : (i m : ℕ) → holds loop far i m ≡ true → (far i ≤ m) × (m ≤ mark i)
  unfolding holds
  holds_parts i m e = let d = and_parts (loop i && leb (far i) m) (leb m (mark i)) e in (leb-true _ _ (and_parts (loop i) (leb (far i) m) d.0).1, leb-true _ _ d.1)

  pub meets-no : (i f : ℕ) → meets loop far i f ≡ false → loop i ≡ true → f ≤ mark i → f ≤ far i
  unfolding meets
  meets-no i f e k h = go (ltb (far i) f) refl
    where
      go : (q : Bool) → ltb (far i) f ≡ q → f ≤ far i
      go true q = never (sym (and-false e (both k q)) ∙ le-leb _ _ h)
      go false q = ltb-false _ _ q

pub level : {a b : Bool} → not (beq a b) ≡ false → a ≡ true → b ≡ true
level {a = true} {b = true} e t = refl
level {a = true} {b = false} e t = never (sym e)
level {a = false} e t = never t
