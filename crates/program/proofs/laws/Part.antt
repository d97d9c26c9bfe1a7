-- A part of a program that passes its check by itself has no fault among the other places: what stands before it ends before it, and the
-- ranges behind it start behind it. Assumes nothing.
use Prim.Native.Nat.{ℕ, zero, suc, ◌+◌, ◌-◌, ◌≤◌, ◌<◌}
use mathlib.Core.Bool.{Bool, true, false, ◌&&◌, ◌||◌}
use mathlib.Core.Path.{◌≡◌, refl, ◌∙◌, subst}
use native.Mathlib.Omega.{arith}
use borrow.Author.Tests.{ltb-true, ltb-false, eqb-true, eqb-false, le-ltb, lt-leb}
use lib.Dec.{ltb, eqb}
use Rattle.count.proofs.laws.Laws.{same_test}
use Rattle.count.proofs.laws.Truth.{and-false}
use Rattle.program.specs.Check.{some, tally}
use Rattle.program.specs.work.Marks.{mark, holds, meets, early, overlaps, holders, outside, strays}
use Rattle.program.specs.work.Ranges.{differ}
use Rattle.program.proofs.laws.Clean.{none_of, target-of, start-of, Clean, holds-late, holds-short}
use Rattle.program.proofs.laws.Backs.{differ-so}
use Rattle.program.proofs.laws.Clean as clean
use Rattle.program.proofs.laws.Ranges.{some-none, tally-none}

-- ---- n places, and k behind them

pub split : (P : ℕ → Type 0) (n k : ℕ) → ((i : ℕ) → i < n → P i) → ((j : ℕ) → j < k → P (n + j)) → (i : ℕ) → i < n + k → P i
split P n k f g i h = by (ltb i n) refl
  where
    by : (b : Bool) → ltb i n ≡ b → P i
    by true e = f i (ltb-true i n e)
    by false e =
        let l = ltb-false i n e in
        let d : n + (i - n) ≡ i = omega arith in
        subst P d (g (i - n) (omega arith))

tally-split : (n k : ℕ) (f : ℕ → Bool) → tally (n + k) f ≡ tally n f + tally k (λ j. f (n + j))
tally-split n zero f = let e : n + 0 ≡ n = omega arith in rw e (omega arith)
tally-split n (suc k) f = let e : n + suc k ≡ suc (n + k) = omega arith in let h = tally-split n k f in rw e (omega arith)

tally-same : (k : ℕ) (f g : ℕ → Bool) → ((i : ℕ) → i < k → f i ≡ g i) → tally k f ≡ tally k g
tally-same zero f g h = refl
tally-same (suc k) f g h = rw (h k (omega arith), tally-same k f g (λ i l. h i (omega arith)))

-- ---- n places from place d on are those of a program by itself

pub record Part (loop turn : ℕ → Bool) (far : ℕ → ℕ) (d n : ℕ) (loop1 turn1 : ℕ → Bool) (far1 : ℕ → ℕ) : Type 0 where
  pub loops : (i : ℕ) → i < n → loop (d + i) ≡ loop1 i
  pub turns : (i : ℕ) → i < n → turn (d + i) ≡ turn1 i
  pub fars : (i : ℕ) → i < n → far (d + i) ≡ d + far1 i

-- e places stand behind it: their ranges start at its end place or behind it
module _ (loop turn : ℕ → Bool) (far : ℕ → ℕ) (d n e : ℕ) (loop1 turn1 : ℕ → Bool) (far1 : ℕ → ℕ) (part : Part loop turn far d n loop1 turn1 far1) (alone : (p : ℕ) → p < n → Clean loop1 turn1 far1 n p) (behind : (j : ℕ) → j < e → loop (d + n + j) ≡ true → mark (d + n) ≤ far (d + n + j)) where
  -- ---- the ranges before, within and behind

  within_same : (i m k : ℕ) → i < n → k ≡ d + m → holds loop far (d + i) k ≡ holds loop1 far1 i m
  unfolding holds
  within_same i m k h g =
      rw (
        part.loops i h,
        part.fars i h,
        g,
        same_test (d + far1 i) (d + m) (far1 i) m (λ u. omega arith) (λ u. omega arith),
        same_test (d + m) (mark (d + i)) m (mark i) (λ u. omega arith) (λ u. omega arith),
      )

  behind-not : (j m : ℕ) → j < e → m < mark (d + n) → holds loop far (d + n + j) m ≡ false
  behind-not j m h g = holds-short loop far (d + n + j) m (λ z. let u = behind j h z in omega arith)

  -- ---- each condition, at place p of the part

  module _ (p : ℕ) (l : p < n) where
    abbrev own : Clean loop1 turn1 far1 n p
    own = alone p l

    inside-so : outside turn far (d + n + e) (d + p) ≡ false
    unfolding outside
    inside-so = rw (part.turns p l, part.fars p l) (by (turn1 p) refl)
      where
        by : (b : Bool) → turn1 p ≡ b → b && (ltb (d + far1 p) 32768 || ltb (mark (d + n + e)) (d + far1 p)) ≡ false
        by true z =
            let t = target-of turn1 far1 n p own.inside z in
            let u = t.0 in
            let v = t.1 in
            rw (le-ltb (d + far1 p) 32768 (omega arith), le-ltb (mark (d + n + e)) (d + far1 p) (omega arith))
        by false z = refl

    late-so : early loop far (d + p) ≡ false
    unfolding early
    late-so = rw (part.loops p l, part.fars p l) (by (loop1 p) refl)
      where
        by : (b : Bool) → loop1 p ≡ b → b && ltb (d + far1 p) 32768 ≡ false
        by true z = let u = start-of loop1 far1 p own.late z in rw (le-ltb (d + far1 p) 32768 (omega arith))
        by false z = refl

    meets-before : (i f : ℕ) → i < d → mark d ≤ f → meets loop far i f ≡ false
    unfolding meets
    meets-before i f h g = rw (lt-leb f (mark i) (omega arith)) (and-false (loop i && ltb (far i) f))

    meets-same : (i f : ℕ) → i < n → meets loop far (d + i) (d + f) ≡ meets loop1 far1 i f
    unfolding meets
    meets-same i f h =
        rw (
          part.loops i h,
          part.fars i h,
          same_test (suc (d + far1 i)) (d + f) (suc (far1 i)) f (λ u. omega arith) (λ u. omega arith),
          same_test (d + f) (mark (d + i)) f (mark i) (λ u. omega arith) (λ u. omega arith),
        )

    apart-so : overlaps loop far (d + p) ≡ false
    unfolding overlaps
    apart-so = rw (part.loops p l, part.fars p l) (by (loop1 p) refl)
      where
        by : (b : Bool) → loop1 p ≡ b → b && some (d + p) (λ i. meets loop far i (d + far1 p)) ≡ false
        by true z =
            let u = start-of loop1 far1 p own.late z in
            let a = none_of p (λ i. meets loop1 far1 i (far1 p)) (clean.and-false own.apart z) in
            some-none (d + p) (λ i. meets loop far i (d + far1 p))
            (split (λ (i : ℕ). meets loop far i (d + far1 p) ≡ false) d p (λ i h. meets-before i (d + far1 p) h (omega arith)) (λ i h. meets-same i (far1 p) (omega arith) ∙ a i h))
        by false z = refl

    -- as many ranges hold it as by itself
    held-so : holders loop far (d + n + e) (d + p) ≡ holders loop1 far1 n p
    unfolding holders
    held-so =
        let f : ℕ → Bool = λ i. holds loop far i (mark (d + p)) in
        let a : tally d f ≡ 0 = tally-none d f (λ i h. holds-late loop far i (mark (d + p)) (omega arith)) in
        let b : tally n (λ i. f (d + i)) ≡ tally n (λ i. holds loop1 far1 i (mark p)) =
        tally-same n (λ i. f (d + i)) (λ i. holds loop1 far1 i (mark p)) (λ i h. within_same i (mark p) (mark (d + p)) h (omega arith)) in
        let c : tally e (λ j. f (d + n + j)) ≡ 0 = tally-none e (λ j. f (d + n + j)) (λ j h. behind-not j (mark (d + p)) h (omega arith)) in
        omega (arith, tally-split (d + n) e f, tally-split d n f)

    -- no jump or wait of the part leads to its end place, or no range behind it starts there
    module _ (quiet : turn1 p ≡ true → far1 p ≡ mark n → (j : ℕ) → j < e → loop (d + n + j) ≡ true → far (d + n + j) ≡ mark (d + n) → ⊥) where
      ends-not : (j : ℕ) → j < e → turn1 p ≡ true → holds loop far (d + n + j) (d + far1 p) ≡ false
      ends-not j h z = holds-short loop far (d + n + j) (d + far1 p) (λ y. by y (ltb (far1 p) (mark n)) (eqb (far (d + n + j)) (mark (d + n))) refl refl)
        where
          beyond : {a b c : ℕ} → c ≤ a → a ≤ b → (b ≡ a → ⊥) → c < b
          beyond t u v = omega arith

          by : loop (d + n + j) ≡ true → (a b : Bool) → ltb (far1 p) (mark n) ≡ a → eqb (far (d + n + j)) (mark (d + n)) ≡ b → d + far1 p < far (d + n + j)
          by y true b x w = let u = ltb-true (far1 p) (mark n) x in let v = behind j h y in omega arith
          by y false true x w =
              let u = ltb-false (far1 p) (mark n) x in
              let v = (target-of turn1 far1 n p own.inside z).1 in
              absurd (quiet z (omega arith) j h y (eqb-true _ _ w))
          by y false false x w =
              let v = (target-of turn1 far1 n p own.inside z).1 in
              beyond (let u : d + far1 p ≤ mark (d + n) = omega arith in u) (behind j h y) (eqb-false _ _ w)

      same-so : strays loop turn far (d + n + e) (d + p) ≡ false
      unfolding strays differ
      same-so = rw (part.turns p l, part.fars p l) (by (turn1 p) refl)
        where
          by : (b : Bool) → turn1 p ≡ b → b && some (d + n + e) (differ loop far (mark (d + p)) (d + far1 p)) ≡ false
          by true z =
              let u = (target-of turn1 far1 n p own.inside z).0 in
              let a = none_of n (differ loop1 far1 (mark p) (far1 p)) (clean.and-false own.same z) in
              some-none (d + n + e) (differ loop far (mark (d + p)) (d + far1 p))
              (split (λ (i : ℕ). differ loop far (mark (d + p)) (d + far1 p) i ≡ false) (d + n) e
              (split (λ (i : ℕ). differ loop far (mark (d + p)) (d + far1 p) i ≡ false) d n
              (λ i h. differ-so loop far (mark (d + p)) (d + far1 p) i (holds-late loop far i (mark (d + p)) (omega arith)) (holds-late loop far i (d + far1 p) (omega arith)))
              (λ i h. rw (within_same i (mark p) (mark (d + p)) h (omega arith), within_same i (far1 p) (d + far1 p) h refl) (a i h)))
              (λ j h. differ-so loop far (mark (d + p)) (d + far1 p) (d + n + j) (behind-not j (mark (d + p)) h (omega arith)) (ends-not j h z)))
          by false z = refl

      -- NO FAULT
      pub clean-part : Clean loop turn far (d + n + e) (d + p)
      clean-part = record { inside = inside-so; late = late-so; apart = apart-so; seven = rw held-so own.seven; same = same-so }
