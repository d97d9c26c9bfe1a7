-- How a circle is planned from its line or record: its refusals in their order, and its arc (02, §3).
use Rattle.count.specs.declared.Fault.{Fault}
use Rattle.count.specs.declared.Fault.TheVariants as fault
use Rattle.std.specs.Prelude.{ℕ, zero, suc, ◌+◌, ◌-◌, ◌*◌, Bool, not, ◌&&◌, List, [], ◌∷◌, ltb, leb, eqb, pos, get_or, Result, Ok, Err}
use Rattle.count.specs.Chars.{ch}
use Rattle.count.specs.Pick.{pick}
use Rattle.count.specs.Paper.{Paper, says}
use Rattle.count.specs.Refusals.{fault_paper}
use Rattle.count.specs.Numbers.{half, full, value, count, word}
use Rattle.count.specs.Axes.{has}
use Rattle.count.specs.Ranges.{nth, in_speed, right_arc}
use Rattle.motion.specs.declared.Sign.{Sign}
use Rattle.motion.specs.declared.Sign.TheVariants.{Minus, Rest, Plus}
use Rattle.motion.specs.declared.Counters.{Counters}
use Rattle.motion.specs.Phase.{sign_value}
use Rattle.motion.specs.Sound.{counted}
use Rattle.circle.specs.declared.Plane.{Plane}
use Rattle.circle.specs.declared.Plane.TheVariants.{XY, XZ, YZ}
use Rattle.circle.specs.declared.Direction.{Direction}
use Rattle.circle.specs.declared.Direction.TheVariants.{Clockwise, Counter}
use Rattle.circle.specs.declared.Circling.{Circling}
use Rattle.circle.specs.declared.Pair.{Pair}
use Rattle.circle.specs.declared.Ways.{Ways}
use Rattle.circle.specs.declared.Arc.{Arc}
use Rattle.circle.specs.Rule.{pair, ways, first_axis, second_axis, plane_number, direction_number, on_plane, measure, ways_at, shifted}
use Rattle.circle.specs.Arc as arc

-- ---- plane and direction

-- by their numbers
unfoldable pub plane_of : ℕ → Plane
plane_of w = pick (eqb w 0) XY (pick (eqb w 1) XZ YZ)

unfoldable pub direction_of : ℕ → Direction
direction_of w = pick (eqb w 0) Clockwise Counter

abbrev pub circling : Plane → Direction → Circling
circling p d = record { plane = p; direction = d }

-- setting axes or reset: plane 0, clockwise
abbrev pub at_first : Circling
at_first = circling XY Clockwise

-- 3: a plane needs both its axes set
abbrev pub plane_set : ℕ → Plane → Bool
plane_set axes p = has axes (first_axis p) && has axes (second_axis p)

-- ---- 1: the two ways sent are those in which the rule sends the axes off; where it gives an axis none there, the one that it gives this axis
-- once the first pulse is made

-- the start, as counts from the centre
abbrev pub start_of : List ℕ → Pair
start_of l = pair (count (nth l 3)) (count (nth l 4))

abbrev pub or_else : Sign → Sign → Sign
or_else Minus later = Minus
or_else Rest later = later
or_else Plus later = Plus

-- where one way is zero, the first pulse is the other axis's
unfoldable pub first_ways : Direction → Pair → Ways
first_ways d start =
    let w = ways_at d arc.zero start in
    let later = ways_at d arc.zero (shifted start w) in
    ways (or_else w.first later.first) (or_else w.second later.second)

unfoldable pub ways_fit : Direction → List ℕ → Bool
ways_fit d l =
    let w = first_ways d (start_of l) in
    eqb (get_or l 5 0) (word (sign_value w.first)) && eqb (get_or l 6 0) (word (sign_value w.second))

-- ---- 9: the radius without its fraction, and one more, to both sides of the centre

-- the centre is the position minus the start. As counts; one below all counts is taken as 0, where no circle has room.
abbrev pub less : ℕ → ℕ → ℕ
less at start = at + half - start

unfoldable pub centre_of : Pair → Pair → Pair
centre_of at start = pair (less at.first start.first) (less at.second start.second)

-- the whole part of a root: the greatest number up to k whose square is at most n
unfoldable pub root_up_to : ℕ → ℕ → ℕ
root_up_to zero n = 0
root_up_to (suc k) n = pick (leb (suc k * suc k) n) (suc k) (root_up_to k n)

abbrev pub root : ℕ → ℕ
root n = root_up_to n n

-- a reach below and above a count lies within 24 bits
abbrev pub reaches : ℕ → ℕ → Bool
reaches reach c = leb reach c && ltb (c + reach) full

-- half the side of the square that an arc never leaves
unfoldable pub reach_of : Pair → ℕ
reach_of start = root (measure arc.zero start) + 1

unfoldable pub has_room : Pair → Pair → Bool
has_room centre start = reaches (reach_of start) centre.first && reaches (reach_of start) centre.second

-- ---- the plan

-- not yet begun: arc length and speed as sent
abbrev pub arc_from : Circling → Pair → Pair → List ℕ → Arc
arc_from c centre start l = record { circling = c; centre = centre; start = start; speed = get_or l 1 0; length = get_or l 0 0; made = 0 }

-- 9, or the arc. A position outside 24 bits, with which no call comes here, answers 9 too.
unfoldable pub going_by : Circling → Counters → Pair → List ℕ → Result Arc Fault
going_by c at start l =
    let centre = centre_of (on_plane c.plane at) start in
    pick (not (counted at)) (Err fault.Outside) (pick (has_room centre start) (Ok (arc_from c centre start l)) (Err fault.Outside))

-- 3, 1, D and 9 in this order. A line or record that comes here has passed some of them already.
unfoldable pub bend_of : ℕ → Circling → Counters → List ℕ → Result Arc Fault
bend_of axes c at l =
    pick (not (plane_set axes c.plane)) (Err fault.Axes)
    (pick (not (right_arc l)) (Err fault.Range)
    (pick (not (ways_fit c.direction l)) (Err fault.Range)
    (pick (not (in_speed (nth l 1))) (Err fault.Speed) (going_by c at (start_of l) l))))

-- the reply; of an accepted circle its plane, direction, centre, start, speed and length
abbrev pub bent_paper : Result Arc Fault → Paper
bent_paper (Err f) = fault_paper f
bent_paper (Ok a) =
    says (ch "0")
    (pos (plane_number a.circling.plane) ∷ direction_number a.circling.direction ∷ value a.centre.first ∷ value a.centre.second
    ∷ value a.start.first ∷ value a.start.second ∷ pos a.speed ∷ pos a.length ∷ [])
