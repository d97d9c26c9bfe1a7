-- The edges of a program over places are those over marks, for every list of right records. Assumes nothing.
use Prim.Native.Nat.{ℕ, ◌<◌}
use mathlib.Core.Bool.{Bool, true, false, ◌&&◌}
use mathlib.Core.List.{List}
use mathlib.Core.Path.{◌≡◌, refl, sym, ◌∙◌, ap}
use native.Mathlib.Omega.{arith}
use borrow.Author.Tests.{leb-true, leb-false, eq-eqb, ne_eqb}
use lib.Dec.{leb, eqb}
use lib.IntN.{ℤ, pos, sub_ℕ}
use lib.ListN.{length}
use lib.Signed.{le_z}
use Rattle.count.specs.Numbers.{within}
use Rattle.record.specs.declared.Record.{Record}
use Rattle.record.specs.Bytes.{is_right}
use Rattle.program.specs.Check.{some}
use Rattle.program.specs.Program.{record_in, target_at}
use Rattle.program.specs.Edges.{is_place, leads_out, starts_first}
use Rattle.program.specs.work.Aims.{loop_at, turn_at, far_at}
use Rattle.program.specs.work.Edges.{leads}
use Rattle.program.specs.work.Marks.{mark}
use Rattle.program.proofs.laws.Marks.{le-by, mark-is, some_same, loops-same, turns_same, goes_back, leads-on}

-- neither is less
both_ways : (a b : ℕ) → leb a b && leb b a ≡ eqb b a
both_ways a b = by (leb a b) (leb b a) refl refl
  where
    by : (s t : Bool) → leb a b ≡ s → leb b a ≡ t → s && t ≡ eqb b a
    by true true p q = let g = leb-true a b p in let h = leb-true b a q in sym (eq-eqb b a (omega arith))
    by true false p q = let h = leb-false b a q in sym (ne_eqb b a (λ e. omega arith))
    by false t p q = let h = leb-false a b p in sym (ne_eqb b a (λ e. omega arith))

-- ---- of any places that a test finds, where each leads to the place of its mark

module _ (test : ℕ → Bool) (target : ℕ → ℤ) (far : ℕ → ℕ) (so : (i : ℕ) → test i ≡ true → target i ≡ sub_ℕ (far i) 32768) where
  place_same : (p i : ℕ) → test i && is_place p (target i) ≡ test i && eqb (far i) (mark p)
  unfolding within
  place_same p i = by (test i) refl
    where
      by : (b : Bool) → test i ≡ b → b && (le_z (pos p) (target i) && le_z (target i) (pos p)) ≡ b && eqb (far i) (mark p)
      by true e =
          rw (le-by (mark p) (far i) (pos p) (target i) (mark-is p) (so i e), le-by (far i) (mark p) (target i) (pos p) (so i e) (mark-is p))
          (both_ways (mark p) (far i))
      by false e = refl

  pub edge_same : (p n : ℕ) → some n (λ i. test i && is_place p (target i)) ≡ leads test far (mark p) n
  unfolding leads
  edge_same p n = some_same n (λ i. test i && is_place p (target i)) (λ i. test i && eqb (far i) (mark p)) (λ i h. place_same p i)

-- ---- of a list of right records

module _ (axes : ℕ) (l : List Record) (right : (i : ℕ) → i < length l → is_right axes (record_in l i) ≡ true) where
  pub out-same : leads_out l ≡ leads (turn_at l) (far_at l) (mark (length l)) (length l)
  unfolding leads_out
  out-same =
      ap (λ (f : ℕ → Bool). some (length l) (λ i. f i && is_place (length l) (target_at l i))) (turns_same l)
      ∙ edge_same (turn_at l) (target_at l) (far_at l) (leads-on l axes right) (length l) (length l)

  pub first-same : starts_first l ≡ leads (loop_at l) (far_at l) (mark 0) (length l)
  unfolding starts_first
  first-same =
      ap (λ (f : ℕ → Bool). some (length l) (λ i. f i && is_place 0 (target_at l i))) (loops-same l)
      ∙ edge_same (loop_at l) (target_at l) (far_at l) (λ i e. (goes_back l axes right i e).0) 0 (length l)
