-- 01, "Prove these", (9), (10) and (11), and the chain of 02, §2: antt computes each side. Assumes nothing.
use mathlib.Core.Path.{◌≡◌, refl}
use mathlib.Core.List.{[], ◌∷◌}
use lib.IntN.{pos, negsuc}
use lib.ListN.{replicate}
use lib.Ieee.{nan, binary64, round, of_int, le, mul, div}
use Rattle.count.specs.Numbers.{within, in24}
use Rattle.sheet.specs.declared.Rate.TheVariants.{PerSecond, PerMinute}
use Rattle.count.specs.Pick.{every}
use Rattle.sheet.specs.Chain.{sums, in_mm, result_of, results, differences, sum_right, chained, chain_of}
use Rattle.sheet.specs.Sheet.{axis, float, minus_float, found, refused, half_up, near, rounded, whole_steps, whole_speed, axis_right, distance_right, rate_right, distance_steps, speed_steps, distance_of, speed_of}

-- (9) lead 5, 400 steps, gear 1: 10 mm is 800
pub nine : distance_of (axis 5 400 1) (float 10 1) ≡ found (pos 800)
unfolding distance_of distance_steps distance_right axis_right rounded whole_steps near half_up float minus_float mul div le
nine = refl

-- (10) lead 4, 2 steps, gear 1: 1 mm is 1 and -1 mm is -1, so a half goes away from zero on either side
pub ten : (distance_of (axis 4 2 1) (float 1 1) ≡ found (pos 1)) × (distance_of (axis 4 2 1) (minus_float 1 1) ≡ found (negsuc 0))
unfolding distance_of distance_steps distance_right axis_right rounded whole_steps near half_up float minus_float mul div le
ten = (refl, refl)

-- (11) lead 4, 400 steps, gear 1: 600 mm per minute is 1,000
pub eleven : speed_of (axis 4 400 1) (PerMinute (float 600 1)) ≡ found (pos 1000)
unfolding speed_of speed_steps rate_right axis_right rounded whole_speed near half_up float mul div le
eleven = refl

-- the bounds of a speed are of the rounded number: 29.5 mm per second is 30 steps, and 10,000.5 is 203
pub edges : (speed_of (axis 1 1 1) (PerSecond (float 59 2)) ≡ found (pos 30)) × (speed_of (axis 1 1 1) (PerSecond (float 20001 2)) ≡ refused 203)
unfolding speed_of speed_steps rate_right axis_right rounded whole_speed near half_up float mul div le
edges = (refl, refl)

-- none of the three operations is exact here
pub inexact : distance_of (record { lead = float 1 1000; steps = float 1 10; gear = float 3 10 }) (float 1 10) ≡ found (pos 3)
unfolding distance_of distance_steps distance_right axis_right rounded whole_steps near half_up float minus_float mul div le
inexact = refl

-- minus zero is a distance of 0 steps, and a speed that passes its test and is below 30
pub minus-zero : (distance_of (axis 1 1 1) (minus_float 0 1) ≡ found (pos 0)) × (speed_of (axis 1 1 1) (PerSecond (minus_float 0 1)) ≡ refused 203)
unfolding distance_of distance_steps distance_right speed_of speed_steps rate_right axis_right rounded whole_steps whole_speed near half_up float minus_float mul div le
minus-zero = (refl, refl)

-- the tests in their order: not-a-number in the axis before one in the value
pub order : (distance_of (record { lead = nan; steps = float 1 1; gear = float 1 1 }) nan ≡ refused 201) × (distance_of (axis 1 1 1) nan ≡ refused 202)
unfolding distance_of distance_right axis_right float minus_float le round
order = (refl, refl)

-- ---- 02, §2

-- lead 1, 100 steps, gear 1: three times 0.333 mm are 33, 34 and 33 steps, 100 in all, as 0.999 mm is; each by itself is 33, which makes 99
pub rack : chain_of (axis 1 100 1) (pos 333 ∷ pos 333 ∷ pos 333 ∷ []) (pos 0 ∷ pos 0 ∷ pos 0 ∷ []) ≡ chained 0 (pos 33 ∷ pos 34 ∷ pos 33 ∷ [])
unfolding chain_of every sums results differences result_of in_mm sum_right in24 within of_int distance_steps axis_right rounded whole_steps near half_up float minus_float mul div le
rack = refl

pub apart : (distance_of (axis 1 100 1) (in_mm (pos 333)) ≡ found (pos 33)) × (distance_of (axis 1 100 1) (in_mm (pos 999)) ≡ found (pos 100))
unfolding in_mm of_int distance_of distance_steps distance_right axis_right rounded whole_steps near half_up float minus_float mul div le
apart = (refl, refl)

-- divided by 1,000 and not multiplied by 0.001: 1.005 mm are 100 steps; the product would be a half above, and make 101
pub divided : chain_of (axis 1 100 1) (pos 1005 ∷ []) (pos 0 ∷ []) ≡ chained 0 (pos 100 ∷ [])
unfolding chain_of every sums results differences result_of in_mm sum_right in24 within of_int distance_steps axis_right rounded whole_steps near half_up float minus_float mul div le
divided = refl

pub multiplied : distance_of (axis 1 100 1) (mul binary64 (float 1005 1) (float 1 1000)) ≡ found (pos 101)
unfolding distance_of distance_steps distance_right axis_right rounded whole_steps near half_up float minus_float mul div le
multiplied = refl

-- 202 for a sum that a later distance brings back, and before a 203 that stands earlier; just 1,000,000 mm pass
pub beyond : (chain_of (axis 1 1 1) (pos 1000000001 ∷ negsuc 0 ∷ []) (pos 7 ∷ pos 7 ∷ []) ≡ chained 202 (pos 7 ∷ pos 7 ∷ [])) × (chain_of (axis 1 1 1) (pos 1000000000 ∷ []) (pos 7 ∷ []) ≡ chained 0 (pos 1000000 ∷ [])) × (chain_of (axis 1 100 1) (pos 1000000000 ∷ pos 1 ∷ []) (pos 7 ∷ pos 7 ∷ []) ≡ chained 202 (pos 7 ∷ pos 7 ∷ []))
unfolding chain_of every sums results differences result_of in_mm sum_right in24 within of_int distance_steps axis_right rounded whole_steps near half_up float minus_float mul div le
beyond = (refl, refl, refl)

-- 203 for a difference outside 24 bits between two results that are inside
pub too_far : chain_of (axis 1 10 1) (pos 500000000 ∷ negsuc 999999999 ∷ []) (pos 7 ∷ pos 7 ∷ []) ≡ chained 203 (pos 7 ∷ pos 7 ∷ [])
unfolding chain_of every sums results differences result_of in_mm sum_right in24 within of_int distance_steps axis_right rounded whole_steps near half_up float minus_float mul div le
too_far = refl

-- 105 before 201, for another length and for more than 1,000; an empty chain is delivered, or its axis refused
pub lengths : (chain_of (axis 0 1 1) [] (pos 7 ∷ []) ≡ chained 105 (pos 7 ∷ [])) × (chain_of (axis 0 1 1) (replicate 1001 (pos 0)) (replicate 1001 (pos 7)) ≡ chained 105 (replicate 1001 (pos 7))) × (chain_of (axis 1 1 1) [] [] ≡ chained 0 []) × (chain_of (axis 0 1 1) [] [] ≡ chained 201 [])
unfolding chain_of every sums results differences axis_right float le round
lengths = (refl, refl, refl, refl)
