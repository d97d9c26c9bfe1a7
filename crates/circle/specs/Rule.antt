-- Circles, the rule of a pulse (02, §3, sentences 3 to 6): which axis of the plane moves, and which way.
use Rattle.std.specs.Prelude.{ℕ, ◌+◌, ◌*◌, Bool, true, false, [], ◌∷◌, ltb, leb, ℤ, pos, negsuc}
use Rattle.count.specs.Pick.{pick}
use Rattle.count.specs.Paper.{Paper, says}
use Rattle.count.specs.Numbers.{far}
use Rattle.count.specs.declared.Axis.{Axis}
use Rattle.count.specs.declared.Axis.TheVariants.{X, Y, Z}
use Rattle.motion.specs.declared.Sign.{Sign}
use Rattle.motion.specs.declared.Sign.TheVariants.{Minus, Rest, Plus}
use Rattle.motion.specs.declared.Signs.{Signs}
use Rattle.motion.specs.declared.Counters.{Counters}
use Rattle.motion.specs.Axes.{on}
use Rattle.motion.specs.Phase.{moved}
use Rattle.circle.specs.declared.Plane.{Plane}
use Rattle.circle.specs.declared.Plane.TheVariants.{XY, XZ, YZ}
use Rattle.circle.specs.declared.Direction.{Direction}
use Rattle.circle.specs.declared.Direction.TheVariants.{Clockwise, Counter}
use Rattle.circle.specs.declared.Pair.{Pair}
use Rattle.circle.specs.declared.Ways.{Ways}

-- ---- the plane, with its first and its second axis

abbrev pub pair : ℕ → ℕ → Pair
pair first second = record { first = first; second = second }

abbrev pub ways : Sign → Sign → Ways
ways first second = record { first = first; second = second }

-- plane 0 is x and y, 1 is x and z, 2 is y and z
abbrev pub plane_number : Plane → ℕ
plane_number XY = 0
plane_number XZ = 1
plane_number YZ = 2

abbrev pub first_axis : Plane → Axis
first_axis XY = X
first_axis XZ = X
first_axis YZ = Y

abbrev pub second_axis : Plane → Axis
second_axis XY = Y
second_axis XZ = Z
second_axis YZ = Z

-- where the axes of a plane stand
abbrev pub on_plane : Plane → Counters → Pair
on_plane p c = pair (on (first_axis p) c) (on (second_axis p) c)

-- what the axes of a plane show: the others rest, and so does A always
abbrev pub on_axes : Plane → Ways → Signs
on_axes XY w = record { x = w.first; y = w.second; z = Rest; a = Rest }
on_axes XZ w = record { x = w.first; y = Rest; z = w.second; a = Rest }
on_axes YZ w = record { x = Rest; y = w.first; z = w.second; a = Rest }

-- ---- the point is counted from the centre

-- the sign of a coordinate
unfoldable pub side : ℕ → ℕ → Sign
side centre at = pick (ltb at centre) Minus (pick (ltb centre at) Plus Rest)

-- x² + y²
abbrev pub squares : ℕ → ℕ → ℕ
squares a b = a * a + b * b

unfoldable pub measure : Pair → Pair → ℕ
measure centre at = squares (far centre.first at.first) (far centre.second at.second)

-- ---- which way the axes go

-- direction 0 is clockwise, -1 counter-clockwise
abbrev pub direction_number : Direction → ℤ
direction_number Clockwise = pos 0
direction_number Counter = negsuc 0

abbrev pub against : Sign → Sign
against Minus = Plus
against Rest = Rest
against Plus = Minus

-- clockwise the first axis goes with the second coordinate's sign, and the second axis against the first one's; counter-clockwise both the
-- other way
abbrev pub turning : Direction → Sign → Sign → Ways
turning Clockwise first second = ways second (against first)
turning Counter first second = ways (against second) first

unfoldable pub ways_at : Direction → Pair → Pair → Ways
ways_at d centre at = turning d (side centre.first at.first) (side centre.second at.second)

-- ---- which of them moves

abbrev pub rests : Sign → Bool
rests Minus = false
rests Rest = true
rests Plus = false

-- the move of one axis alone
abbrev pub first_only : Ways → Ways
first_only w = ways w.first Rest

abbrev pub second_only : Ways → Ways
second_only w = ways Rest w.second

abbrev pub shifted : Pair → Ways → Pair
shifted at w = pair (moved at.first w.first) (moved at.second w.second)

-- how far x² + y² is from its start value
abbrev pub off : ℕ → Pair → Pair → ℕ
off value centre at = far value (measure centre at)

-- an axis without a direction stays, and the other moves; where both could, the one moves whose point lies nearer to the start value, and if
-- both lie equally near, the first
unfoldable pub move_of : ℕ → Pair → Pair → Ways → Ways
move_of value centre at w =
    pick (rests w.first) (second_only w)
    (pick (rests w.second) (first_only w)
    (pick (leb (off value centre (shifted at (first_only w))) (off value centre (shifted at (second_only w)))) (first_only w) (second_only w)))

-- a plane's and a direction's number on paper
abbrev pub plane_paper : Plane → Paper
plane_paper p = says (plane_number p) []

abbrev pub direction_paper : Direction → Paper
direction_paper d = says 0 (direction_number d ∷ [])
