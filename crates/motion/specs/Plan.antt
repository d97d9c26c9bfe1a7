-- How a movement is planned: its resting points and its speeds (01, "Movement", paragraph 1, and paragraph 2 on speed;
-- 02, §7 for the A axis).
use Rattle.std.specs.Prelude.{Bool, true, false, ◌&&◌, ◌||◌, not, List, [], ◌∷◌, ℕ, ltb, leb, eqb, pos, get_or, Option, Some, None}
use Rattle.count.specs.Chars.{ch}
use Rattle.count.specs.Pick.{pick}
use Rattle.count.specs.Paper.{Paper, says}
use Rattle.count.specs.Numbers.{far, added}
use Rattle.count.specs.declared.Axis.{Axis}
use Rattle.count.specs.declared.Axis.TheVariants.{X, Y, Z, A}
use Rattle.count.specs.Axes.{has, on_all}
use Rattle.count.specs.Ranges.{right_distances, right_speeds}
use Rattle.motion.specs.declared.Counters.{Counters}
use Rattle.motion.specs.declared.Move.{Move}
use Rattle.motion.specs.Axes.{on, point, point_then}

-- what a movement is planned from: the axes set, 3D or not, where the axes stand, their origins, absolute or relative, and the
-- numbers: a distance or target and a speed for each of x, y, z1, z2; with four axes of x, y, z, a; with A alone of a
pub record Asked : Type 0 where
  pub axes : ℕ
  pub three : Bool
  pub at : Counters
  pub origin : Counters
  pub absolute : Bool
  pub words : List ℕ

abbrev pub asked : ℕ → Bool → Counters → Counters → Bool → List ℕ → Asked
asked axes three at origin absolute words = record { axes = axes; three = three; at = at; origin = origin; absolute = absolute; words = words }

-- where an axis rests: an absolute target is counted from the origin, a relative distance from where the axis stands
unfoldable pub goal : Bool → ℕ → ℕ → ℕ → Option ℕ
goal absolute at origin w = pick absolute (added origin w) (added at w)

-- the place of an axis's distance or target among the numbers: x, y, z (or z1) and a in this order; A alone has the first
abbrev pub slot : ℕ → Axis → ℕ
slot axes X = 0
slot axes Y = 2
slot axes Z = 4
slot axes A = pick (has axes X) 6 0

-- an axis that is set goes to its goal, one that is not stays
unfoldable pub goal_of : Asked → Axis → Option ℕ
goal_of q i =
    pick (has q.axes i) (goal q.absolute (on i q.at) (on i q.origin) (get_or q.words (slot q.axes i) 0))
    (Some (on i q.at))

-- z2 moves with three axes in 2.5D and relative movement only, from where z1 rests
abbrev pub moves_z2 : Asked → Bool
moves_z2 q = eqb q.axes 7 && not q.three && not q.absolute

abbrev pub on_from : Option ℕ → ℕ → Option ℕ
on_from (Some c) w = added c w
on_from None w = None

unfoldable pub goal_z2 : Asked → Option ℕ
goal_z2 q = pick (moves_z2 q) (on_from (goal_of q Z) (get_or q.words 6 0)) (goal_of q Z)

-- speeds: in 3D the x speed; in 2.5D the longest axis's, x at a tie, and each phase of z, z2 or a its own. A phase that the axes do not have
-- keeps the first speed, which for A alone is its own.
unfoldable pub first_speed : Asked → Counters → ℕ
first_speed q goals =
    pick q.three (get_or q.words 1 0)
    (pick (ltb (far q.at.x goals.x) (far q.at.y goals.y)) (get_or q.words 3 0) (get_or q.words 1 0))

unfoldable pub later_speed : Asked → ℕ → ℕ
later_speed q i = pick (has q.axes Z && not q.three) (get_or q.words i 0) (get_or q.words 1 0)

-- the phase of an axis: x and y together, then z (or z1), then a
abbrev pub phase_of : Axis → ℕ
phase_of X = 0
phase_of Y = 0
phase_of Z = 1
phase_of A = 2

-- the resting point of a phase: in 2.5D the axes whose phase has come are at their goals; in 3D all are, since they move together
abbrev pub resting_at : Asked → Counters → ℕ → Counters
resting_at q goals p = point (λ i. pick (leb (phase_of i) p || q.three) (on i goals) (on i q.at))

-- the last resting point, with z where z2 leads
abbrev pub with_z : Counters → ℕ → Counters
with_z c z = record { x = c.x; y = c.y; z = z; a = c.a }

unfoldable pub route : Asked → Counters → ℕ → Move
route q goals z2 = record {
  start = q.at;
  first = resting_at q goals 0;
  second = resting_at q goals 1;
  third = with_z (resting_at q goals 2) z2;
  speed1 = first_speed q goals;
  speed2 = later_speed q 5;
  speed3 = later_speed q 7;
  phase = 0;
  made = 0;
}

-- a resting point lies in 24 bits; its count (of one outside, nothing asks)
abbrev pub lies : Option ℕ → Bool
lies (Some c) = true
lies None = false

abbrev pub count_of : Option ℕ → ℕ
count_of (Some c) = c
count_of None = 0

-- the movement to its goals; reply 9 exactly if one of the resting points lies outside 24 bits
unfoldable pub going_to : Asked → Option Move
going_to q =
    pick (on_all (λ i. lies (goal_of q i)) && lies (goal_z2 q)) (Some (route q (point (λ i. count_of (goal_of q i))) (count_of (goal_z2 q)))) None

-- numbers that are no movement's under these axes answer as a resting point outside does; no line or record reaches the plan with them
unfoldable pub plan_of : Asked → Option Move
plan_of q = pick (right_distances q.axes q.absolute q.words && right_speeds q.axes q.words) (going_to q) None

-- reply 9, or 0 with the three resting points and the three speeds
abbrev pub planned_paper : Option Move → Paper
planned_paper (Some m) =
    says (ch "0") (point_then m.first (point_then m.second (point_then m.third (pos m.speed1 ∷ pos m.speed2 ∷ pos m.speed3 ∷ []))))
planned_paper None = says (ch "9") []
