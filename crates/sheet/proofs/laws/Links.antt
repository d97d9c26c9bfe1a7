-- The links of `Links.antt` in specs/work come to the chain of 02: what they note is the first refusal of 202 and 203, and their steps are the differences.
-- Assumes nothing.
use mathlib.Core.Path.{◌≡◌, refl, sym, ap, ◌∙◌}
use mathlib.Core.Bool.{Bool, true, false, not, ◌&&◌, ◌||◌}
use mathlib.Core.List.{List, [], ◌∷◌}
use Prim.Native.Nat.{ℕ}
use native.Mathlib.Omega.{arith}
use lib.Dec.{eqb, ltb}
use lib.ListN.{length}
use lib.IntN.{ℤ, pos, negsuc, ◌+ℤ◌, ◌-ℤ◌}
use lib.Signed.{le_z}
use lib.Ieee.{Float, nan, inf, fin}
use Rattle.count.specs.Pick.{pick, every}
use Rattle.count.specs.Numbers.{within, in24}
use Rattle.count.proofs.laws.Truth.{and_left, and_right}
use Rattle.sheet.specs.declared.Axis.{Axis}
use Rattle.sheet.specs.Sheet.{Converted, signed, near, found, refused, whole_steps, rounded, axis_right, distance_float, distance_steps}
use Rattle.sheet.specs.Chain.{sums, in_mm, result_of, results, differences, most_distances, sum_right, accepted, chained, chain_of}
use Rattle.sheet.specs.work.Links.{noted, link_of, fault_from, steps_from}

-- ---- a conversion is accepted, or it is refused 203 with the value 0

pub data Outcome (c : Converted) : Type 0 where
  taken : (z : ℤ) → in24 z ≡ true → c ≡ found z → Outcome c
  out : c ≡ refused 203 → Outcome c

pub whole-outcome : (z : ℤ) → Outcome (whole_steps z)
unfolding whole_steps in24 within
whole-outcome z = go (le_z (negsuc 8388607) z && le_z z (pos 8388607)) refl
  where
    go : (b : Bool) → (le_z (negsuc 8388607) z && le_z z (pos 8388607)) ≡ b → Outcome (pick b (found z) (refused 203))
    go true e = taken z e refl
    go false e = out refl

pub result-outcome : (a : Axis) (t : ℤ) → Outcome (result_of a t)
unfolding result_of distance_steps rounded
result-outcome a t = go (distance_float a (in_mm t))
  where
    go : (x : Float) → Outcome (rounded whole_steps x)
    go nan = out refl
    go (inf s) = out refl
    go (fin s m e) = whole-outcome (signed s (near m e))

-- a difference that has 24 bits is kept, any other refused
pub whole_in : (z : ℤ) → in24 z ≡ true → whole_steps z ≡ found z
unfolding whole_steps in24 within
whole_in z h = rw h

pub whole_out : (z : ℤ) → in24 z ≡ false → whole_steps z ≡ refused 203
unfolding whole_steps in24 within
whole_out z h = rw h

-- ---- one link

module _ (a : Axis) (before t : ℤ) where
  -- both of its tests
  abbrev right : Bool
  right = accepted (result_of a t) && in24 ((result_of a t).value -ℤ before)

  pub link-result : (link_of a before t).result ≡ (result_of a t).value
  unfolding link_of
  link-result = refl

  pub link-fault : (fault : ℕ) → noted fault (link_of a before t).refusal ≡ pick (not right) 203 fault
  unfolding link_of
  link-fault fault = by (result-outcome a t)
    where
      with : (d : ℤ) (b : Bool) → in24 d ≡ b → noted fault (noted (whole_steps d).refusal 0) ≡ pick (not b) 203 fault
      with d true e = rw (whole_in d e)
      with d false e = rw (whole_out d e)

      by : Outcome (result_of a t) → noted fault (noted (whole_steps ((result_of a t).value -ℤ before)).refusal (result_of a t).refusal) ≡ pick (not right) 203 fault
      by (taken z h e) = rw e (with (z -ℤ before) (in24 (z -ℤ before)) refl)
      by (out e) = rw e

  pub link-step : in24 ((result_of a t).value -ℤ before) ≡ true → (link_of a before t).step ≡ (result_of a t).value -ℤ before
  unfolding link_of
  link-step h = rw (whole_in ((result_of a t).value -ℤ before) h)

-- ---- all links

module _ (a : Axis) where
  -- 203's test of all results and differences
  abbrev pub all_right : ℤ → List Converted → Bool
  all_right before r = every accepted r && every in24 (differences before r)

  regroup : (p q r s : Bool) → (p && q) && (r && s) ≡ (p && r) && (q && s)
  regroup true true r s = refl
  regroup true false true s = refl
  regroup true false false s = refl
  regroup false q r s = refl

  -- one more link in front, of both tests
  all_more : (before : ℤ) (r : Converted) (l : List Converted) → all_right before (r ∷ l) ≡ (accepted r && in24 (r.value -ℤ before)) && all_right r.value l
  unfolding every differences
  all_more before r l = regroup (accepted r) (every accepted l) (in24 (r.value -ℤ before)) (every in24 (differences r.value l))

  choose : (s b k : Bool) (fault : ℕ) → pick (not s) 202 (pick (not k) 203 (pick (not b) 203 fault)) ≡ pick (not s) 202 (pick (not (b && k)) 203 fault)
  choose true true true fault = refl
  choose true true false fault = refl
  choose true false true fault = refl
  choose true false false fault = refl
  choose false b k fault = refl

  first : (s r : Bool) (x : ℕ) (y : ℕ) → x ≡ pick (not r) 202 y → pick (not s) 202 x ≡ pick (not (s && r)) 202 y
  first true r x y h = h
  first false true x y h = refl
  first false false x y h = refl

  pub fault-is : (l : List ℤ) (before sum : ℤ) (fault : ℕ)
      → fault_from a before sum fault l ≡ pick (not (every sum_right (sums sum l))) 202 (pick (not (all_right before (results a (sums sum l)))) 203 fault)
  unfolding fault_from every sums results differences
  fault-is [] before sum fault = refl
  fault-is (t ∷ l) before sum fault =
      let s = sum +ℤ t in
      let r = result_of a s in
      let rest = results a (sums s l) in
      let tests = every sum_right (sums s l) in
      first (sum_right s) tests (fault_from a (link_of a before s).result s (noted fault (link_of a before s).refusal) l) (pick (not (all_right before (r ∷ rest))) 203 fault)
      (fault-is l (link_of a before s).result s (noted fault (link_of a before s).refusal)
      ∙ ap (λ (z : ℤ). pick (not tests) 202 (pick (not (all_right z rest)) 203 (noted fault (link_of a before s).refusal))) (link-result a before s)
      ∙ ap (λ (n : ℕ). pick (not tests) 202 (pick (not (all_right r.value rest)) 203 n)) (link-fault a before s fault)
      ∙ choose tests (right a before s) (all_right r.value rest) fault
      ∙ ap (λ (b : Bool). pick (not tests) 202 (pick (not b) 203 fault)) (sym (all_more before r rest)))

  pub steps-is : (l : List ℤ) (before sum : ℤ) → every in24 (differences before (results a (sums sum l))) ≡ true
      → steps_from a before sum l ≡ differences before (results a (sums sum l))
  unfolding steps_from every sums results differences
  steps-is [] before sum h = refl
  steps-is (t ∷ l) before sum h =
      let s = sum +ℤ t in
      let d = (result_of a s).value -ℤ before in
      let rest = differences (result_of a s).value (results a (sums s l)) in
      ap (λ (z : ℤ). z ∷ steps_from a (link_of a before s).result s l) (link-step a before s (and_left (in24 d) (every in24 rest) h))
      ∙ ap (λ (z : ℤ). d ∷ steps_from a z s l) (link-result a before s)
      ∙ ap (λ (k : List ℤ). d ∷ k) (steps-is l (result_of a s).value s (and_right (in24 d) (every in24 rest) h))

-- ---- the whole chain, behind the tests of 105 and 201

module _ (a : Axis) (l out : List ℤ) where
  abbrev given : Bool
  given = ltb most_distances (length l) || not (eqb (length out) (length l))

  abbrev fault : ℕ
  fault = fault_from a (pos 0) (pos 0) 0 l

  pub chain-refuses : given ≡ false → axis_right a ≡ true → (fault ≡ 0 → ⊥) → chained fault out ≡ chain_of a l out
  unfolding chain_of
  chain-refuses g h n = rw (g, h) (ends (every sum_right (sums (pos 0) l)) (all_right a (pos 0) (results a (sums (pos 0) l))) fault (fault-is a l (pos 0) (pos 0) 0) n)
    where
      ends : (e k : Bool) (f : ℕ) → f ≡ pick (not e) 202 (pick (not k) 203 0) → (f ≡ 0 → ⊥)
          → chained f out ≡ pick (not e) (chained 202 out) (pick (not k) (chained 203 out) (chained 0 (differences (pos 0) (results a (sums (pos 0) l)))))
      ends true true f e n = absurd (n e)
      ends true false f e n = rw e
      ends false k f e n = rw e

  passes : (e k : Bool) (f : ℕ) → f ≡ pick (not e) 202 (pick (not k) 203 0) → f ≡ 0 → (e ≡ true) × (k ≡ true)
  passes true true f e z = (refl, refl)
  passes true false f e z = absurd (omega arith)
  passes false k f e z = absurd (omega arith)

  pub chain-passes : fault ≡ 0 → (every sum_right (sums (pos 0) l) ≡ true) × (all_right a (pos 0) (results a (sums (pos 0) l)) ≡ true)
  chain-passes z = passes (every sum_right (sums (pos 0) l)) (all_right a (pos 0) (results a (sums (pos 0) l))) fault (fault-is a l (pos 0) (pos 0) 0) z

  pub chain-delivers : given ≡ false → axis_right a ≡ true → fault ≡ 0 → chained 0 (steps_from a (pos 0) (pos 0) l) ≡ chain_of a l out
  unfolding chain_of
  chain-delivers g h z =
      let p = chain-passes z in
      let r = results a (sums (pos 0) l) in
      rw (g, h, p.0, p.1) (ap (λ (d : List ℤ). chained 0 d) (steps-is a l (pos 0) (pos 0) (and_right (every accepted r) (every in24 (differences (pos 0) r)) p.1)))
