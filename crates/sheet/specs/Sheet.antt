-- 01, "The sheet", sentence by sentence in its order. Definitions only; what they come to is in `Laws.antt`.
use Rattle.std.specs.Prelude.{ℕ, ◌+◌, ◌*◌, ◌/◌, Bool, true, false, not, ◌&&◌, ℤ, pos, negsuc, neg_ℤ, Float}
use Rattle.std.specs.Int.Signed.{le_z}
use Rattle.std.specs.Float.{nan, inf, fin, binary64}
use Rattle.std.specs.Float.Ieee.{up, down, round, le, mul, div}
use Rattle.count.specs.Sizes.{slowest, fastest}
use Rattle.count.specs.Pick.{pick}
use Rattle.sheet.specs.declared.Axis.{Axis}
use Rattle.sheet.specs.declared.Rate.{Rate}
use Rattle.sheet.specs.declared.Rate.TheVariants.{PerSecond, PerMinute, Steps}

-- the 64-bit float nearest to n / d, and to -n / d
unfoldable pub float : ℕ → ℕ → Float
float n d = round binary64 false n d

unfoldable pub minus_float : ℕ → ℕ → Float
minus_float n d = round binary64 true n d

-- an axis of whole numbers
abbrev pub axis : ℕ → ℕ → ℕ → Axis
axis l s g = record { lead = float l 1; steps = float s 1; gear = float g 1 }

-- ---- 01, "The sheet", sentence 1: the lead, the steps per turn and the gear ratio are each from 0.001 to 1,000,000

-- from lo to hi, both included; not-a-number is on neither side of any float (sentence 4)
abbrev pub between : Float → Float → Float → Bool
between lo x hi = le lo x && le x hi

unfoldable pub axis_right : Axis → Bool
axis_right a =
    between (float 1 1000) a.lead (float 1000000 1) && between (float 1 1000) a.steps (float 1000000 1) && between (float 1 1000) a.gear (float 1000000 1)

-- ---- 01, "The sheet", sentences 2 and 3: a distance is from -1,000,000 to 1,000,000, a speed of any of the three kinds from 0 to 1,000,000

unfoldable pub distance_right : Float → Bool
distance_right mm = between (minus_float 1000000 1) mm (float 1000000 1)

unfoldable pub rate_right : Rate → Bool
rate_right (PerSecond v) = between (float 0 1) v (float 1000000 1)
rate_right (PerMinute v) = between (float 0 1) v (float 1000000 1)
rate_right (Steps n) = le_z (pos 0) n && le_z n (pos 1000000)

-- ---- 01, "The sheet", sentence 5: the formulas, each operation rounded once, in the order written

-- (mm / lead) × steps × gear
abbrev pub distance_float : Axis → Float → Float
distance_float a mm = mul binary64 (mul binary64 (div binary64 mm a.lead) a.steps) a.gear

-- v × steps × gear / lead
abbrev pub speed_float : Axis → Float → Float
speed_float a v = div binary64 (mul binary64 (mul binary64 v a.steps) a.gear) a.lead

-- ---- 01, "The sheet", sentence 8: the nearest whole number of a float's exact value, halves away from zero

-- of a / c: a half more, rounded down
unfoldable pub half_up : ℕ → ℕ → ℕ
half_up a c = (2 * a + c) / (2 * c)

-- of m × 2 ^ e, which is the fraction m × up e / down e
unfoldable pub near : ℕ → ℤ → ℕ
unfolding half_up
near m e = half_up (m * up e) (down e)

-- a size with a sign, true for minus
abbrev pub signed : Bool → ℕ → ℤ
signed false k = pos k
signed true k = neg_ℤ (pos k)

-- ---- 01, "The sheet", sentence 9: the whole number must be of 24 bits, or from 30 to 10,000 for a speed. An infinity and not-a-number have none

-- the refusal, or 0, and the value, which is 0 where there is a refusal
pub record Converted : Type 0 where
  pub refusal : ℕ
  pub value : ℤ

abbrev pub refused : ℕ → Converted
refused n = record { refusal = n; value = pos 0 }

abbrev pub found : ℤ → Converted
found z = record { refusal = 0; value = z }

abbrev pub in_range : ℤ → ℤ → ℤ → Converted
in_range low z high = pick (le_z low z && le_z z high) (found z) (refused 203)

-- from -8,388,608, which is `negsuc 8388607`, to 8,388,607
unfoldable pub whole_steps : ℤ → Converted
whole_steps z = in_range (negsuc 8388607) z (pos 8388607)

unfoldable pub whole_speed : ℤ → Converted
whole_speed z = in_range (pos slowest) z (pos fastest)

-- the float's whole number in such a range
unfoldable pub rounded : (ℤ → Converted) → Float → Converted
unfolding near
rounded range nan = refused 203
rounded range (inf s) = refused 203
rounded range (fin s m e) = range (signed s (near m e))

-- the formula with its rounding, apart from the tests of the axis and the value
unfoldable pub distance_steps : Axis → Float → Converted
distance_steps a mm = rounded whole_steps (distance_float a mm)

-- for minutes divided by 60; steps per second are whole already (sentence 7)
unfoldable pub speed_steps : Axis → Rate → Converted
speed_steps a (PerSecond v) = rounded whole_speed (speed_float a v)
speed_steps a (PerMinute v) = rounded whole_speed (div binary64 (speed_float a v) (float 60 1))
speed_steps a (Steps n) = whole_speed n

-- ---- 01, "The sheet", sentence 10: the tests in their order, and the value 0 with a refusal

unfoldable pub distance_of : Axis → Float → Converted
distance_of a mm = pick (not (axis_right a)) (refused 201) (pick (not (distance_right mm)) (refused 202) (distance_steps a mm))

unfoldable pub speed_of : Axis → Rate → Converted
speed_of a v = pick (not (axis_right a)) (refused 201) (pick (not (rate_right v)) (refused 202) (speed_steps a v))
