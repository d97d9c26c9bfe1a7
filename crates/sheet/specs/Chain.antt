-- A chain of distances (02, §2), in the request's order: partial sums in whole thousandths of a mm, each divided by 1,000 as a float and converted, and the
-- differences of neighbouring results. Definitions only; what they come to is in `Chain.antt` of the laws.
use Rattle.std.specs.Prelude.{ℕ, Bool, not, ◌&&◌, ◌||◌, List, [], ◌∷◌, eqb, ltb, ℤ, pos, neg_ℤ, ◌+ℤ◌, ◌-ℤ◌, length, Float}
use Rattle.std.specs.Float.{binary64}
use Rattle.std.specs.Float.Ieee.{of_int, div}
use Rattle.count.specs.Pick.{pick, every}
use Rattle.count.specs.Numbers.{within, in24}
use Rattle.sheet.specs.declared.Axis.{Axis}
use Rattle.sheet.specs.Sheet.{Converted, float, axis_right, distance_steps}

-- ---- 02, §2, sentence 4: the chain is summed in whole thousandths of a mm

-- the partial sums: each distance is added to the sum before it
unfoldable pub sums : ℤ → List ℤ → List ℤ
sums before [] = []
sums before (t ∷ l) = (before +ℤ t) ∷ sums (before +ℤ t) l

-- a sum in mm: as a float, divided by 1,000
unfoldable pub in_mm : ℤ → Float
in_mm t = div binary64 (of_int binary64 t) (float 1000 1)

-- converted by 01's formula and rounding
unfoldable pub result_of : Axis → ℤ → Converted
result_of a t = distance_steps a (in_mm t)

unfoldable pub results : Axis → List ℤ → List Converted
results a [] = []
results a (t ∷ l) = result_of a t ∷ results a l

-- each relative distance is the difference of neighbouring results; before the first stands 0
unfoldable pub differences : ℤ → List Converted → List ℤ
differences before [] = []
differences before (r ∷ l) = (r.value -ℤ before) ∷ differences r.value l

-- ---- 02, §2, sentence 5 speaks of totals: of the distances in thousandths, and of the steps

unfoldable pub total : List ℤ → ℤ
total [] = pos 0
total (t ∷ l) = t +ℤ total l

-- ---- 02, §2, sentence 6: the refusals in their order

-- 105: a chain has at most so many distances
abbrev pub most_distances : ℕ
most_distances = 1000

-- 202: a sum is from -1,000,000 to 1,000,000 mm, in thousandths
unfoldable pub sum_right : ℤ → Bool
sum_right t = within (neg_ℤ (pos 1000000000)) (pos 1000000000) t

-- 203: a result has 24 bits; 01's conversion has refused it otherwise
abbrev pub accepted : Converted → Bool
accepted r = eqb r.refusal 0

-- the refusal, or 0, and the output afterwards
pub record Chained : Type 0 where
  pub refusal : ℕ
  pub steps : List ℤ

abbrev pub chained : ℕ → List ℤ → Chained
chained n s = record { refusal = n; steps = s }

-- with a refusal nothing is delivered: the output is as found
unfoldable pub chain_of : Axis → List ℤ → List ℤ → Chained
chain_of a l out =
    let s = sums (pos 0) l in
    let r = results a s in
    let d = differences (pos 0) r in
    pick (ltb most_distances (length l) || not (eqb (length out) (length l))) (chained 105 out)
    (pick (not (axis_right a)) (chained 201 out)
    (pick (not (every sum_right s)) (chained 202 out)
    (pick (not (every accepted r && every in24 d)) (chained 203 out)
    (chained 0 d))))
