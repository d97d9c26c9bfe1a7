-- What a chain comes to (02, §2): the steps delivered sum to the conversion of the total, and those of every first part to that of its total; one distance alone is
-- 01's. Assumes nothing.
use mathlib.Core.Path.{◌≡◌, refl, sym, ap, ◌∙◌}
use mathlib.Core.Bool.{Bool, true, false, not, ◌&&◌, ◌||◌}
use mathlib.Core.List.{List, [], ◌∷◌}
use Prim.Native.Nat.{ℕ, zero, suc, ◌*◌, ◌<◌}
use native.Mathlib.Omega.{arith}
use lib.Dec.{T, eqb, ltb}
use lib.IntN.{ℤ, pos, neg_ℤ, ◌+ℤ◌, ◌-ℤ◌, +ℤ_assoc, +ℤ_comm, +ℤ_idl, +ℤ_idr, +ℤ_invl}
use lib.ListN.{length, take}
use lib.Seq.{take-length}
use lib.Ieee.{Float, nan, inf, fin, binary64, up, down, round, of_int, le, mul, div}
use lib.Ieee.Fits.{up_pos, down_pos}
use lib.Ieee.Positive.{positive, between as inbetween}
use native.Mathlib.Nat.{mul-pos}
use lib.Dec.{ltb→lt}
use borrow.Author.Tests.{ne_eqb, eq-eqb, eqb-true}
use Rattle.count.specs.Pick.{pick, every}
use Rattle.count.specs.Numbers.{within, in24}
use Rattle.count.proofs.laws.Truth.{and_left, and_right, and_parts}
use Rattle.sheet.specs.declared.Axis.{Axis}
use Rattle.sheet.specs.Sheet.{Converted, float, between, found, near, half_up, axis_right, distance_right, distance_float, distance_steps, distance_of, whole_steps, rounded}
use Rattle.sheet.specs.Chain.{total, sums, in_mm, result_of, results, differences, most_distances, sum_right, accepted, Chained, chained, chain_of}
use Rattle.sheet.proofs.laws.Floats.{zero-rounds}
use Rattle.sheet.proofs.laws.Thousandths.{sum-is-distance}
use Rattle.sheet.proofs.laws.Links.{Outcome, taken, out, result-outcome}

-- ---- a distance of 0 is 0 steps

low-positive : T (positive (float 1 1000))
unfolding float round
low-positive = tt

high-positive : T (positive (float 1000000 1))
unfolding float round
high-positive = tt

-- each of the three is finite and above zero
part-positive : (x : Float) → between (float 1 1000) x (float 1000000 1) ≡ true → T (positive x)
part-positive x h = inbetween (float 1 1000) x (float 1000000 1) low-positive high-positive (truly (and_left (le (float 1 1000) x) (le x (float 1000000 1)) h)) (truly (and_right (le (float 1 1000) x) (le x (float 1000000 1)) h))
  where
    truly : {b : Bool} → b ≡ true → T b
    truly e = rw e tt

nought : Float
nought = fin false 0 (pos 0)

zero-divided : (x : Float) → T (positive x) → div binary64 nought x ≡ nought
unfolding div nought
zero-divided nan h = absurd h
zero-divided (inf s) h = absurd h
zero-divided (fin true m e) h = absurd h
zero-divided (fin false m e) h =
    let k : 0 < m = ltb→lt 0 m h in
    let w : 0 < m * up e = mul-pos k (up_pos e) in
    rw (ne_eqb m 0 (some m k)) (zero-rounds false (0 * down e) (m * up e * 1) (omega arith) (omega arith))
  where
    some : (m : ℕ) → 0 < m → m ≡ 0 → ⊥
    some m k e = omega arith

zero-times : (x : Float) → T (positive x) → mul binary64 nought x ≡ nought
unfolding mul nought
zero-times nan h = absurd h
zero-times (inf s) h = absurd h
zero-times (fin true m e) h = absurd h
zero-times (fin false m e) h = zero-rounds false (0 * 1 * (m * up e)) (1 * down e) (omega (arith, down_pos e)) (omega arith)

zero-mm : in_mm (pos 0) ≡ nought
unfolding in_mm of_int round div float nought
zero-mm = refl

zero-steps : rounded whole_steps nought ≡ found (pos 0)
unfolding rounded whole_steps near half_up nought
zero-steps = refl

zero-float : (a : Axis) → axis_right a ≡ true → distance_float a nought ≡ nought
unfolding axis_right
zero-float a h =
    let t = and_parts (between (float 1 1000) a.lead (float 1000000 1) && between (float 1 1000) a.steps (float 1000000 1)) (between (float 1 1000) a.gear (float 1000000 1)) h in
    let u = and_parts (between (float 1 1000) a.lead (float 1000000 1)) (between (float 1 1000) a.steps (float 1000000 1)) t.0 in
    rw (zero-divided a.lead (part-positive a.lead u.0), zero-times a.steps (part-positive a.steps u.1), zero-times a.gear (part-positive a.gear t.1))

zero-result : (a : Axis) → axis_right a ≡ true → result_of a (pos 0) ≡ found (pos 0)
unfolding result_of distance_steps
zero-result a h = ap (λ (x : Float). rounded whole_steps (distance_float a x)) zero-mm ∙ ap (λ (x : Float). rounded whole_steps x) (zero-float a h) ∙ zero-steps

-- ---- every first part of a chain

-- one difference more
step-more : (before r x : ℤ) → before +ℤ ((r -ℤ before) +ℤ x) ≡ r +ℤ x
step-more before r x =
    sym (+ℤ_assoc before (r -ℤ before) x)
    ∙ ap (λ (z : ℤ). z +ℤ x) (+ℤ_comm before (r -ℤ before) ∙ +ℤ_assoc r (neg_ℤ before) before ∙ ap (λ (z : ℤ). r +ℤ z) (+ℤ_invl before) ∙ +ℤ_idr r)

-- what was accepted is its value
accepted-is : (a : Axis) (t : ℤ) → accepted (result_of a t) ≡ true → result_of a t ≡ found (result_of a t).value
accepted-is a t h = by (result-outcome a t)
  where
    by : Outcome (result_of a t) → result_of a t ≡ found (result_of a t).value
    by (taken z k e) = rw e
    by (out e) = let n : ◌≡◌ {A = ℕ} 203 0 = sym (ap (λ (c : Converted). c.refusal) e) ∙ eqb-true (result_of a t).refusal 0 h in absurd (omega arith)

-- from any sum whose result stands before: the sum of a first part is right, and its result is what stands before with the steps so far
module _ (a : Axis) where
  record Reached (sum before : ℤ) (l : List ℤ) (d : List ℤ) : Type 0 where
    right : sum_right (sum +ℤ total l) ≡ true
    result : result_of a (sum +ℤ total l) ≡ found (before +ℤ total d)

  none : (sum before : ℤ) → sum_right sum ≡ true → result_of a sum ≡ found before → Reached sum before [] []
  unfolding total
  none sum before r e = record { right = rw (+ℤ_idr sum) r; result = rw (+ℤ_idr sum, +ℤ_idr before) e }

  reached : (l : List ℤ) (k : ℕ) (sum before : ℤ) → sum_right sum ≡ true → result_of a sum ≡ found before
      → every sum_right (sums sum l) ≡ true → every accepted (results a (sums sum l)) ≡ true
      → Reached sum before (take k l) (take k (differences before (results a (sums sum l))))
  unfolding total every sums results differences
  reached [] zero sum before r e h g = none sum before r e
  reached [] (suc k) sum before r e h g = none sum before r e
  reached (t ∷ l) zero sum before r e h g = none sum before r e
  reached (t ∷ l) (suc k) sum before r e h g =
      let s = sum +ℤ t in
      let p = and_parts (sum_right s) (every sum_right (sums s l)) h in
      let q = and_parts (accepted (result_of a s)) (every accepted (results a (sums s l))) g in
      let c = (result_of a s).value in
      let x = total (take k (differences c (results a (sums s l)))) in
      let rest = reached l k s c p.0 (accepted-is a s q.0) p.1 q.1 in
      record {
        right = rw (← +ℤ_assoc sum t (total (take k l))) rest.right;
        result = rw (← +ℤ_assoc sum t (total (take k l)), step-more before c x) rest.result;
      }

-- ---- as many numbers as distances

same_count : (a : Axis) (l : List ℤ) (sum before : ℤ) → length (differences before (results a (sums sum l))) ≡ length l
unfolding sums results differences
same_count a [] sum before = refl
same_count a (t ∷ l) sum before = ap suc (same_count a l (sum +ℤ t) (result_of a (sum +ℤ t)).value)

-- ---- a chain that is delivered

module _ (a : Axis) (l output : List ℤ) where
  abbrev s : List ℤ
  s = sums (pos 0) l

  abbrev r : List Converted
  r = results a s

  abbrev d : List ℤ
  d = differences (pos 0) r

  record Delivered : Type 0 where
    axis : axis_right a ≡ true
    sums-right : every sum_right s ≡ true
    all-accepted : every accepted r ≡ true
    steps : (chain_of a l output).steps ≡ d

  -- no refusal: every test has passed
  delivered : (chain_of a l output).refusal ≡ 0 → Delivered
  unfolding chain_of
  delivered h = by (ltb most_distances (length l) || not (eqb (length output) (length l))) (axis_right a) (every sum_right s) (every accepted r) (every in24 d) refl refl refl refl refl h
    where
      by : (g x e k n : Bool) → (ltb most_distances (length l) || not (eqb (length output) (length l))) ≡ g → axis_right a ≡ x → every sum_right s ≡ e → every accepted r ≡ k → every in24 d ≡ n
          → (pick g (chained 105 output) (pick (not x) (chained 201 output) (pick (not e) (chained 202 output) (pick (not (k && n)) (chained 203 output) (chained 0 d))))).refusal ≡ 0
          → Delivered
      by true x e k n p1 p2 p3 p4 p5 z = absurd (omega arith)
      by false false e k n p1 p2 p3 p4 p5 z = absurd (omega arith)
      by false true false k n p1 p2 p3 p4 p5 z = absurd (omega arith)
      by false true true false n p1 p2 p3 p4 p5 z = absurd (omega arith)
      by false true true true false p1 p2 p3 p4 p5 z = absurd (omega arith)
      by false true true true true p1 p2 p3 p4 p5 z = record { axis = p2; sums-right = p3; all-accepted = p4; steps = rw (p1, p2, p3, p4, p5) }

  -- the steps of the first k distances sum to what 01 answers of the total of those distances
  pub every-prefix : (k : ℕ) → (chain_of a l output).refusal ≡ 0 → distance_of a (in_mm (total (take k l))) ≡ found (total (take k (chain_of a l output).steps))
  unfolding distance_of sum_right within result_of
  every-prefix k h =
      let w = delivered h in
      let t = total (take k l) in
      let x = reached a l k (pos 0) (pos 0) refl (zero-result a w.axis) w.sums-right w.all-accepted in
      let right : distance_right (in_mm t) ≡ true = sym (sum-is-distance t) ∙ rw (+ℤ_idl t) at x.right in
      let result : distance_steps a (in_mm t) ≡ found (total (take k d)) = rw (+ℤ_idl t, +ℤ_idl (total (take k d))) at x.result in
      rw (w.axis, right, w.steps) result

  -- and all of them to what it answers of the total
  pub whole-chain : (chain_of a l output).refusal ≡ 0 → distance_of a (in_mm (total l)) ≡ found (total (chain_of a l output).steps)
  whole-chain h =
      let w = delivered h in
      let n : length (chain_of a l output).steps ≡ length l = ap length w.steps ∙ same_count a l (pos 0) (pos 0) in
      let c : take (length l) (chain_of a l output).steps ≡ (chain_of a l output).steps = rw (← n) (take-length (chain_of a l output).steps) in
      rw (take-length l, c) at (every-prefix (length l) h)

  -- with a refusal the output is as found
  pub refused-keeps : ((chain_of a l output).refusal ≡ 0 → ⊥) → (chain_of a l output).steps ≡ output
  unfolding chain_of
  refused-keeps n = by (ltb most_distances (length l) || not (eqb (length output) (length l))) (axis_right a) (every sum_right s) (every accepted r && every in24 d) n
    where
      by : (g x e k : Bool) → ((pick g (chained 105 output) (pick (not x) (chained 201 output) (pick (not e) (chained 202 output) (pick (not k) (chained 203 output) (chained 0 d))))).refusal ≡ 0 → ⊥)
          → (pick g (chained 105 output) (pick (not x) (chained 201 output) (pick (not e) (chained 202 output) (pick (not k) (chained 203 output) (chained 0 d))))).steps ≡ output
      by true x e k n = refl
      by false false e k n = refl
      by false true false k n = refl
      by false true true false n = refl
      by false true true true n = absurd (n refl)

-- ---- one distance alone is `distance` of it, refusals too

-- what a conversion is to an output of one number
abbrev alone : ℤ → Converted → Chained
alone o c = chained c.refusal (pick (accepted c) (c.value ∷ []) (o ∷ []))

one-alone : (a : Axis) (t o : ℤ) → chain_of a (t ∷ []) (o ∷ []) ≡ alone o (distance_of a (in_mm t))
unfolding chain_of sums results differences every distance_of result_of
one-alone a t o = rw (+ℤ_idl t) (by (axis_right a) (sum_right t) refl refl (result-outcome a t))
  where
    by : (x e : Bool) → axis_right a ≡ x → sum_right t ≡ e → Outcome (result_of a t)
        → pick (not (axis_right a)) (chained 201 (o ∷ []))
        (pick (not (sum_right t && true)) (chained 202 (o ∷ []))
        (pick (not ((accepted (result_of a t) && true) && (in24 ((result_of a t).value -ℤ pos 0) && true))) (chained 203 (o ∷ []))
        (chained 0 (((result_of a t).value -ℤ pos 0) ∷ []))))
        ≡ alone o (distance_of a (in_mm t))
    by false e p q c = rw p
    by true false p q c = rw (p, q, sym (sum-is-distance t) ∙ q)
    by true true p q (taken z k h) = rw (p, q, sym (sum-is-distance t) ∙ q, h, +ℤ_idr z, k)
    by true true p q (out h) = rw (p, q, sym (sum-is-distance t) ∙ q, h)

-- it is refused alike, and where it is accepted the number is the same
pub record Alone (a : Axis) (t o : ℤ) : Type 0 where
  pub refused : (chain_of a (t ∷ []) (o ∷ [])).refusal ≡ (distance_of a (in_mm t)).refusal
  pub delivered : (chain_of a (t ∷ []) (o ∷ [])).refusal ≡ 0 → (chain_of a (t ∷ []) (o ∷ [])).steps ≡ (distance_of a (in_mm t)).value ∷ []

pub alone-is : (a : Axis) (t o : ℤ) → Alone a t o
alone-is a t o =
    let same : (chain_of a (t ∷ []) (o ∷ [])).refusal ≡ (distance_of a (in_mm t)).refusal = ap (λ (c : Chained). c.refusal) (one-alone a t o) in
    record {
      refused = same;
      delivered = λ z. ap (λ (c : Chained). c.steps) (one-alone a t o) ∙ rw (eq-eqb (distance_of a (in_mm t)).refusal 0 (sym same ∙ z));
    }
