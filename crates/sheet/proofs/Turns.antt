-- One link of a chain after the other, as the code goes: what a turn of either loop leaves for the next one. Assumes nothing.
use mathlib.Core.Path.{◌≡◌, refl, sym, ap, ◌∙◌}
use mathlib.Core.Bool.{Bool, true, false, not, ◌&&◌}
use mathlib.Core.Logic.{◌⊎◌, inl, inr}
use mathlib.Core.List.{List, [], ◌∷◌, ◌++◌, append_assoc}
use Prim.Native.Nat.{ℕ, ◌+◌, ◌<◌, ◌≤◌}
use lib.Dec.{eqb}
use native.Mathlib.Numerals.{add-one}
use native.Mathlib.Omega.{arith}
use lib.IntN.{ℤ, pos, negsuc, ◌+ℤ◌, ◌-ℤ◌}
use lib.Signed.{le_z}
use lib.ListN.{length, take, drop, get_or, set, drop_of_length-le}
use lib.Seq.{drop-cons, take-suc-set}
use lib.Ieee.{Float, nan, inf, fin}
use mir.Syntax.{w32}
use mir.Val.{SFits}
use borrow.Author.Tests.{eqb-true}
use Rattle.count.specs.Pick.{pick, every}
use Rattle.count.proofs.laws.Truth.{and_parts}
use Rattle.std.specs.Prelude.{Result, Ok, Err}
use Rattle.sheet.specs.declared.Axis.{Axis}
use Rattle.sheet.specs.declared.Refusal.{Refusal}
use Rattle.sheet.specs.Sheet.{signed, near, found, refused, whole_steps, rounded, distance_float, distance_steps}
use Rattle.sheet.specs.Refusal.{refusal_paper}
use Rattle.sheet.specs.Chain.{sums, in_mm, result_of, results, sum_right}
use Rattle.sheet.specs.work.Links.{noted, link_of, result_after, fault_from, steps_from}
use Rattle.sheet.proofs.Range.{steps-fit}
use Rattle.sheet.proofs.laws.Links.{Outcome, taken, out, whole-outcome, result-outcome, all_right, fault-is}

-- ---- what a conversion answers fits 32 bits

nought-fits : SFits w32 (pos 0)
nought-fits = record { sfits = omega arith }

pub whole-fits : (z : ℤ) → SFits w32 (whole_steps z).value
unfolding whole_steps
whole-fits z = go (le_z (negsuc 8388607) z && le_z z (pos 8388607)) refl
  where
    go : (b : Bool) → (le_z (negsuc 8388607) z && le_z z (pos 8388607)) ≡ b → SFits w32 (pick b (found z) (refused 203)).value
    go true e = steps-fit z e
    go false e = nought-fits

rounded-fits : (x : Float) → SFits w32 (rounded whole_steps x).value
unfolding rounded
rounded-fits nan = nought-fits
rounded-fits (inf s) = nought-fits
rounded-fits (fin s m e) = whole-fits (signed s (near m e))

pub result_fits : (a : Axis) (t : ℤ) → SFits w32 (result_of a t).value
unfolding result_of distance_steps
result_fits a t = rounded-fits (distance_float a (in_mm t))

module _ (a : Axis) (before t : ℤ) where
  pub link-result-fits : SFits w32 (link_of a before t).result
  unfolding link_of
  link-result-fits = result_fits a t

  pub link-step-fits : SFits w32 (link_of a before t).step
  unfolding link_of
  link-step-fits = whole-fits ((result_of a t).value -ℤ before)

-- ---- what is refused once the sums so far are right: nothing yet, with the result before in hand, or 203 already

abbrev pub fault-after : Axis → Result ℤ Refusal → ℤ → List ℤ → ℕ
fault-after a (Ok before) sum l = fault_from a before sum 0 l
fault-after a (Err e) sum l = pick (not (every sum_right (sums sum l))) 202 (refusal_paper e).number

-- at the end
abbrev pub told : Result ℤ Refusal → ℕ
told (Ok z) = 0
told (Err e) = (refusal_paper e).number

pub fault-end : (a : Axis) (r : Result ℤ Refusal) (sum : ℤ) (l : List ℤ) (i : ℕ) → length l ≤ i → fault-after a r sum (drop i l) ≡ told r
unfolding fault_from every sums
fault-end a (Ok z) sum l i h = rw (drop_of_length-le l h)
fault-end a (Err e) sum l i h = rw (drop_of_length-le l h)

module _ (a : Axis) (sum before : ℤ) (l : List ℤ) where
  -- nothing is noted in a chain that is refused nothing
  pub fault-free : (fault : ℕ) → fault_from a before sum fault l ≡ 0 → fault ≡ 0
  fault-free fault h = by (every sum_right (sums sum l)) (all_right a before (results a (sums sum l))) (sym (fault-is a l before sum fault) ∙ h)
    where
      by : (e k : Bool) → pick (not e) 202 (pick (not k) 203 fault) ≡ 0 → fault ≡ 0
      by true true h = h
      by true false h = absurd (omega arith)
      by false k h = absurd (omega arith)

  -- once 203 is noted, only the sums count
  pub fault-noted : fault_from a before sum 203 l ≡ pick (not (every sum_right (sums sum l))) 202 203
  fault-noted = fault-is a l before sum 203 ∙ once (every sum_right (sums sum l)) (all_right a before (results a (sums sum l)))
    where
      once : (e k : Bool) → ◌≡◌ {A = ℕ} (pick (not e) 202 (pick (not k) 203 203)) (pick (not e) 202 203)
      once true true = refl
      once true false = refl
      once false k = refl

-- a link is refused nothing, or 203
pub link-refusal : (a : Axis) (before t : ℤ) → ((link_of a before t).refusal ≡ 0) ⊎ ((link_of a before t).refusal ≡ 203)
unfolding link_of
link-refusal a before t = by (result-outcome a t)
  where
    far : (z : ℤ) → Outcome (whole_steps z) → ((whole_steps z).refusal ≡ 0) ⊎ ((whole_steps z).refusal ≡ 203)
    far z (taken y k e) = inl (rw e)
    far z (out e) = inr (rw e)

    by : Outcome (result_of a t)
        → (noted (whole_steps ((result_of a t).value -ℤ before)).refusal (result_of a t).refusal ≡ 0) ⊎ (noted (whole_steps ((result_of a t).value -ℤ before)).refusal (result_of a t).refusal ≡ 203)
    by (taken z k e) = rw e (far (z -ℤ before) (whole-outcome (z -ℤ before)))
    by (out e) = rw e (inr refl)

-- ---- the next distance of a chain

module _ (l : List ℤ) (i : ℕ) (h : i < length l) where
  next : drop i l ≡ get_or l i (pos 0) ∷ drop (i + 1) l
  next = rw (add-one, drop-cons l i (pos 0))

  module _ (a : Axis) (before sum : ℤ) where
    -- the sum and the link with it
    abbrev pub more : ℤ
    more = sum +ℤ get_or l i (pos 0)

    pub fault-stops : (fault : ℕ) → sum_right more ≡ false → fault_from a before sum fault (drop i l) ≡ 202
    unfolding fault_from
    fault-stops fault e = ap (λ (r : List ℤ). fault_from a before sum fault r) next ∙ rw e

    pub fault-goes : (fault : ℕ) → sum_right more ≡ true
        → fault_from a before sum fault (drop i l) ≡ fault_from a (link_of a before more).result more (noted fault (link_of a before more).refusal) (drop (i + 1) l)
    unfolding fault_from
    fault-goes fault e = ap (λ (r : List ℤ). fault_from a before sum fault r) next ∙ rw e

    -- a chain that is refused nothing
    pub record Goes : Type 0 where
      pub right : sum_right more ≡ true
      pub link : (link_of a before more).refusal ≡ 0
      pub sound : fault_from a (link_of a before more).result more 0 (drop (i + 1) l) ≡ 0

    nothing : (n : ℕ) → noted 0 n ≡ 0 → n ≡ 0
    nothing n h = by (eqb n 0) refl h
      where
        by : (b : Bool) → eqb n 0 ≡ b → pick b 0 n ≡ 0 → n ≡ 0
        by true e h = eqb-true n 0 e
        by false e h = h

    pub sound-goes : fault_from a before sum 0 (drop i l) ≡ 0 → Goes
    sound-goes h = by (sum_right more) refl
      where
        by : (b : Bool) → sum_right more ≡ b → Goes
        by true e =
            let k = link_of a before more in
            let f : fault_from a k.result more (noted 0 k.refusal) (drop (i + 1) l) ≡ 0 = sym (fault-goes 0 e) ∙ h in
            let z : noted 0 k.refusal ≡ 0 = fault-free a more k.result (drop (i + 1) l) (noted 0 k.refusal) f in
            record { right = e; link = nothing k.refusal z; sound = rw z at f }
        by false e = let z : ◌≡◌ {A = ℕ} 202 0 = sym (fault-stops 0 e) ∙ h in absurd (omega arith)

    -- sums that are all right are so one distance on
    pub sums-go : every sum_right (sums sum (drop i l)) ≡ true → (sum_right more ≡ true) × (every sum_right (sums more (drop (i + 1) l)) ≡ true)
    unfolding every sums
    sums-go e =
        let f : every sum_right (sums sum (get_or l i (pos 0) ∷ drop (i + 1) l)) ≡ true = ap (λ (r : List ℤ). every sum_right (sums sum r)) (sym next) ∙ e in
        and_parts (sum_right more) (every sum_right (sums more (drop (i + 1) l))) f

    -- one step more is written, and one fewer is left
    pub steps-go : (s : List ℤ) → i < length s
        → take (i + 1) (set s i (link_of a before more).step) ++ steps_from a (link_of a before more).result more (drop (i + 1) l) ≡ take i s ++ steps_from a before sum (drop i l)
    unfolding steps_from
    steps-go s g =
        let step = (link_of a before more).step in
        let rest = steps_from a (link_of a before more).result more (drop (i + 1) l) in
        let w : take (i + 1) (set s i step) ≡ take i s ++ (step ∷ []) = rw add-one (take-suc-set s i step g) in
        ap (λ (r : List ℤ). r ++ rest) w
        ∙ append_assoc (take i s) (step ∷ []) rest
        ∙ ap (λ (r : List ℤ). take i s ++ steps_from a before sum r) (sym next)

  module _ (a : Axis) (sum : ℤ) where
    abbrev on : ℤ
    on = sum +ℤ get_or l i (pos 0)

    pub after-stops : (r : Result ℤ Refusal) → sum_right on ≡ false → fault-after a r sum (drop i l) ≡ 202
    unfolding every sums
    after-stops (Ok b) e = fault-stops a b sum 0 e
    after-stops (Err n) e = ap (λ (x : List ℤ). pick (not (every sum_right (sums sum x))) 202 (refusal_paper n).number) next ∙ rw e

    pub after-goes : (r : Result ℤ Refusal) → sum_right on ≡ true → fault-after a r sum (drop i l) ≡ fault-after a (result_after a r on) on (drop (i + 1) l)
    unfolding every sums
    after-goes (Ok b) e = by (link-refusal a b on)
      where
        by : ((link_of a b on).refusal ≡ 0) ⊎ ((link_of a b on).refusal ≡ 203) → fault_from a b sum 0 (drop i l) ≡ fault-after a (result_after a (Ok b) on) on (drop (i + 1) l)
        by (inl z) = fault-goes a b sum 0 e ∙ rw z
        by (inr z) = fault-goes a b sum 0 e ∙ rw z (fault-noted a on (link_of a b on).result (drop (i + 1) l))
    after-goes (Err n) e = ap (λ (x : List ℤ). pick (not (every sum_right (sums sum x))) 202 (refusal_paper n).number) next ∙ rw e
