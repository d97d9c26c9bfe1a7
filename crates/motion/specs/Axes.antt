-- Points and pulses by the axis: what is the same for each of x, y, z and a is said once, over the axis.
use Rattle.std.specs.Prelude.{ℕ, List, ℤ}
use Rattle.count.specs.declared.Axis.{Axis}
use Rattle.count.specs.declared.Axis.TheVariants.{X, Y, Z, A}
use Rattle.count.specs.Numbers.{value}
use Rattle.count.specs.Axes.{each_then}
use Rattle.motion.specs.declared.Sign.{Sign}
use Rattle.motion.specs.declared.Signs.{Signs}
use Rattle.motion.specs.declared.Counters.{Counters}

-- the count of an axis, and a point from the count of each
abbrev pub on : Axis → Counters → ℕ
on X c = c.x
on Y c = c.y
on Z c = c.z
on A c = c.a

abbrev pub point : (Axis → ℕ) → Counters
point f = record { x = f X; y = f Y; z = f Z; a = f A }

-- what a pulse shows on an axis, and a pulse from what it shows on each
abbrev pub shows : Axis → Signs → Sign
shows X s = s.x
shows Y s = s.y
shows Z s = s.z
shows A s = s.a

abbrev pub pulse : (Axis → Sign) → Signs
pulse f = record { x = f X; y = f Y; z = f Z; a = f A }

-- a point's values, x, y, z and a, before others
abbrev pub point_then : Counters → List ℤ → List ℤ
point_then c l = each_then (λ i. value (on i c)) l
