-- Arcs as a reader wants them (02, §3): every pulse moves one axis of the plane by one while the third rests, the arc length counts the
-- pulses, and the example from (2,0). Assumes nothing.
use Rattle.std.specs.Prelude.{Option, Result, Some, None, Ok, Err}
use Rattle.count.specs.declared.Fault.{Fault}
use mathlib.Core.Path.{◌≡◌, refl, sym, ap, ◌∙◌}
use mathlib.Core.Bool.{true, not}
use mathlib.Core.List.{List, [], ◌∷◌, map}
use Prim.Native.Nat.{ℕ, zero, suc, ◌+◌, ◌≤◌}
use native.Mathlib.Omega.{arith}
use lib.IntN.{ℤ, pos, negsuc}
use lib.ListN.{length, get_or}
use Rattle.count.specs.Paper.{Paper, says}
use Rattle.count.specs.Numbers.{count, word, signed, within, in24}
use Rattle.count.specs.Ranges.{in_arc, in_start, in_zero, in_way, in_speed, right_arc}
use Rattle.count.specs.declared.Axis.{Axis}
use Rattle.count.specs.declared.Axis.TheVariants.{X, Y, Z, A}
use Rattle.motion.specs.Axes.{point, shows}
use Rattle.motion.specs.declared.Sign.TheVariants.{Rest}
use Rattle.motion.specs.declared.Counters.{Counters}
use Rattle.motion.specs.declared.Beat.{Beat}
use Rattle.motion.specs.Sound.{counted}
use Rattle.motion.specs.Pulse.{step_to}
use Rattle.circle.specs.declared.Plane.{Plane}
use Rattle.circle.specs.declared.Plane.TheVariants.{XY, XZ, YZ}
use Rattle.circle.specs.declared.Direction.TheVariants.{Counter}
use Rattle.circle.specs.declared.Circling.{Circling}
use Rattle.circle.specs.declared.Ways.{Ways}
use Rattle.circle.specs.declared.Arc.{Arc}
use Rattle.circle.specs.Rule.{first_axis, second_axis, on_axes, side, measure, ways_at, rests, move_of}
use Rattle.circle.specs.Arc.{arc_signs, arc_beat, with_made, arc_left}
use Rattle.circle.specs.Plan.{circling, first_ways, ways_fit, centre_of, root_up_to, reach_of, has_room, going_by, bend_of}
use Rattle.circle.specs.Sound.{arc_under_way}
use Rattle.circle.proofs.laws.Beats.{taken as arc-taken, moves, move_at, signs-are}
use Rattle.travel.specs.declared.Travel.{Travel}
use Rattle.travel.specs.declared.Travel.TheVariants as travel
use Rattle.travel.specs.Next.{Stepped, Next, arc_next, pulse_of, left_of, next_paper}
use Rattle.travel.specs.Next.Next.{Made, Over}
use Rattle.travel.specs.Plan.{circle_of, planned_paper}
use Rattle.travel.specs.Sound.{under_way}
use Rattle.travel.proofs.laws.Beats.{same, never}
use Rattle.travel.proofs.laws.Onward.{taken}
use Rattle.travel.proofs.laws.Plans.{circle-sound, circle-left}
use Rattle.travel.proofs.laws.Whole.{pulse_then, pulses_of, remains, over-left, count as count-all, no_more}

-- ---- every pulse

-- the axis of x, y and z that a plane has not
abbrev pub third_axis : Plane → Axis
third_axis XY = Z
third_axis XZ = Y
third_axis YZ = X

-- one axis of the plane moves and the other does not, the third and A rest, the speed is the arc's, and the arc has one pulse more made
pub record Moves (a : Arc) (s : Stepped) : Type 0 where
  pub one : rests (shows (first_axis a.circling.plane) s.signs) ≡ not (rests (shows (second_axis a.circling.plane) s.signs))
  pub third : shows (third_axis a.circling.plane) s.signs ≡ Rest
  pub turntable : shows A s.signs ≡ Rest
  pub speed : s.speed ≡ a.speed
  pub rest : s.rest ≡ travel.Round (with_made a (a.made + 1))

on-first : (q : Plane) (w : Ways) → shows (first_axis q) (on_axes q w) ≡ w.first
on-first XY w = refl
on-first XZ w = refl
on-first YZ w = refl

on-second : (q : Plane) (w : Ways) → shows (second_axis q) (on_axes q w) ≡ w.second
on-second XY w = refl
on-second XZ w = refl
on-second YZ w = refl

on-third : (q : Plane) (w : Ways) → shows (third_axis q) (on_axes q w) ≡ Rest
on-third XY w = refl
on-third XZ w = refl
on-third YZ w = refl

on-a : (q : Plane) (w : Ways) → shows A (on_axes q w) ≡ Rest
on-a XY w = refl
on-a XZ w = refl
on-a YZ w = refl

moves-by : (a : Arc) (at : Counters) {s : Stepped} → arc_under_way a at ≡ true → (n : Option Beat) → arc_beat a at ≡ n → arc_next a n ≡ Made s → Moves a s
moves-by a at u (Some b) e p =
    let q = a.circling.plane in
    let w = move_at a at in
    let t = arc-taken a at u e in
    let i = ap (λ (c : Beat). c.signs) t.is ∙ signs-are a at in
    rw (same p)
    (record {
      one = rw (i, on-first q w, on-second q w) (moves a at u).one;
      third = rw i (on-third q w);
      turntable = rw i (on-a q w);
      speed = ap (λ (c : Beat). c.speed) t.is;
      rest = ap (λ (c : Beat). travel.Round (with_made a c.mark.made)) t.is;
    })
moves-by a at u None e p = never p

-- A PULSE OF AN ARC that 103 lets pass; what its sign does to the axis's position is the law `sum_one`
pub arc-moves : (a : Arc) (at : Counters) {s : Stepped} → under_way (travel.Round a) at ≡ true → pulse_of (travel.Round a) at ≡ Made s → Moves a s
unfolding under_way pulse_of
arc-moves a at u p = moves-by a at u (arc_beat a at) refl p

-- ---- any number of pulses

-- one after another, each of the arc that the one before it left
abbrev pub EachMoves : Arc → List Stepped → Type 0
EachMoves a [] = Unit
EachMoves a (s ∷ l) = Moves a s × EachMoves (with_made a (a.made + 1)) l

abbrev on_from : Arc → ℕ → Arc
on_from a n = with_made a (a.made + n)

on_one : (a : Arc) (n : ℕ) → on_from (on_from a 1) n ≡ on_from a (suc n)
on_one a n = let e : a.made + 1 + n ≡ a.made + suc n = omega arith in ap (λ (k : ℕ). with_made a k) e

module _ (n : ℕ) (a : Arc) (at : Counters) (u : under_way (travel.Round a) at ≡ true) where
  each-by : ((b : Arc) (c : Counters) → under_way (travel.Round b) c ≡ true → EachMoves b (pulses_of n (travel.Round b) c))
      → (k : Next) → pulse_of (travel.Round a) at ≡ k → EachMoves a (pulse_then (pulses_of n) k)
  each-by rec (Made s) e =
      let v = arc-moves a at u e in
      let i = v.rest in
      let o = (taken (travel.Round a) at u e).sound in
      (v, rw i (rec (with_made a (a.made + 1)) s.at (rw i at o)))
  each-by rec Over e = tt

  grows-by : ((b : Arc) (c : Counters) → under_way (travel.Round b) c ≡ true → n ≤ left_of (travel.Round b)
      → remains (travel.Round b) (pulses_of n (travel.Round b) c) ≡ travel.Round (on_from b n)) → suc n ≤ left_of (travel.Round a)
      → (k : Next) → pulse_of (travel.Round a) at ≡ k → remains (travel.Round a) (pulse_then (pulses_of n) k) ≡ travel.Round (on_from a (suc n))
  grows-by rec h (Made s) e =
      let t = taken (travel.Round a) at u e in
      let i = (arc-moves a at u e).rest in
      let l : left_of (travel.Round a) ≡ left_of (travel.Round (on_from a 1)) + 1 = t.left ∙ ap (λ (m : Travel). left_of m + 1) i in
      rw i (rec (on_from a 1) s.at (ap (λ (m : Travel). under_way m s.at) (sym i) ∙ t.sound) (omega (arith, l)) ∙ ap travel.Round (on_one a n))
  grows-by rec h Over e = absurd (omega (arith, over-left (travel.Round a) at u e))

-- EVERY PULSE of any number moves one axis of the plane
pub each-moves : (n : ℕ) (a : Arc) (at : Counters) → under_way (travel.Round a) at ≡ true → EachMoves a (pulses_of n (travel.Round a) at)
unfolding pulses_of
each-moves zero a at u = tt
each-moves (suc n) a at u = each-by n a at u (each-moves n) (pulse_of (travel.Round a) at) refl

-- AFTER n PULSES, at most those left, n more are made, and nothing else of the arc has changed
pub made-grows : (n : ℕ) (a : Arc) (at : Counters) → under_way (travel.Round a) at ≡ true → n ≤ left_of (travel.Round a)
    → remains (travel.Round a) (pulses_of n (travel.Round a) at) ≡ travel.Round (with_made a (a.made + n))
unfolding pulses_of
made-grows zero a at u h = let e : a.made ≡ a.made + 0 = omega arith in ap (λ (k : ℕ). travel.Round (with_made a k)) e
made-grows (suc n) a at u h = grows-by n a at u (made-grows n) h (pulse_of (travel.Round a) at) refl

-- THE ARC LENGTH COUNTS THE PULSES of a planned circle: so many are made, and no more
pub arc-length : (axes : ℕ) (c : Circling) (at : Counters) (l : List ℕ) (m : Travel) → circle_of axes c at l ≡ Ok m
    → (length (pulses_of (get_or l 0 0) m at) ≡ get_or l 0 0) × ((j : ℕ) → pulses_of (get_or l 0 0 + j) m at ≡ pulses_of (get_or l 0 0) m at)
arc-length axes c at l m e =
    let u = circle-sound axes c at l m e in
    let n = circle-left axes c at l m e in (
      rw n at (count-all m at u),
      λ j. rw n at (no_more j m at u),
    )

-- ---- 02's example: from (2,0) counter-clockwise, four pulses are Y+, X-, Y+, X-

abbrev zero_point : Counters
zero_point = point (λ i. count (pos 0))

-- planned in plane 0 under axes 3 at the zero point, with arc length 4, speed 600, D 0, start 2,0 and directions -1,1
abbrev planned : Result Travel Fault
planned = circle_of 3 (circling XY Counter) zero_point (4 ∷ 600 ∷ 0 ∷ word (pos 2) ∷ word (pos 0) ∷ word (negsuc 0) ∷ word (pos 1) ∷ 0 ∷ [])

-- its pulses as the paper has them: the signs of x, y, z, a and the speed
abbrev shown : Result Travel Fault → List Paper
shown (Ok m) = map (λ (s : Stepped). next_paper (Made s)) (pulses_of (left_of m) m zero_point)
shown (Err b) = []

abbrev pulse : ℤ → ℤ → Paper
pulse x y = says 1 (x ∷ y ∷ pos 0 ∷ pos 0 ∷ pos 600 ∷ [])

pub record Example : Type 0 where
  pub pulses : shown planned ≡ pulse (pos 0) (pos 1) ∷ pulse (negsuc 0) (pos 0) ∷ pulse (pos 0) (pos 1) ∷ pulse (negsuc 0) (pos 0) ∷ []
  -- plane, direction, the centre, the start, speed and arc length
  pub plan : planned_paper planned ≡ says 48 (pos 0 ∷ negsuc 0 ∷ negsuc 1 ∷ pos 0 ∷ pos 2 ∷ pos 0 ∷ pos 600 ∷ pos 4 ∷ [])

pub example : Example
unfolding word signed within in24 in_arc in_start in_zero in_way in_speed right_arc counted step_to side measure ways_at move_of arc_signs arc_beat arc_left first_ways ways_fit centre_of root_up_to reach_of has_room going_by bend_of circle_of pulse_of left_of pulses_of
example = record { pulses = refl; plan = refl }
