-- The pulses of an arc that 103 lets pass: it makes every pulse that is left, each moves one axis of its plane by one, and it passes again
-- after it. Assumes nothing.
use Rattle.std.specs.Prelude.{Option, Some, None}
use mathlib.Core.Path.{◌≡◌, refl, sym, ap, ◌∙◌}
use mathlib.Core.Bool.{Bool, true, false, ◌&&◌}
use Prim.Native.Nat.{ℕ, ◌+◌, ◌≤◌, ◌<◌}
use native.Mathlib.Omega.{arith}
use lib.Dec.{ltb}
use borrow.Author.Tests.{lt-ltb, le-ltb, ltb-true, ltb-false}
use Rattle.count.specs.Pick.{pick}
use Rattle.count.proofs.laws.Truth.{both}
use Rattle.motion.specs.declared.Signs.{Signs}
use Rattle.motion.specs.declared.Counters.{Counters}
use Rattle.motion.specs.declared.Beat.{Beat}
use Rattle.motion.specs.Phase.{moved_all}
use Rattle.motion.specs.Sound.{speed_right, counted}
use Rattle.motion.specs.Pulse.{have_steps, step_to}
use Rattle.motion.specs.work.Room.{HasRoom}
use Rattle.motion.proofs.laws.Passed.{in24-of, counted_of}
use Rattle.motion.proofs.laws.Steps.{steps-room, steps-small, step-made}
use Rattle.circle.specs.declared.Pair.{Pair}
use Rattle.circle.specs.declared.Ways.{Ways}
use Rattle.circle.specs.declared.Arc.{Arc}
use Rattle.circle.specs.Rule.{on_plane, on_axes, shifted, ways_at, move_of}
use Rattle.circle.specs.Arc.{start_value, arc_signs, counted_pair, next_mark, beat_to, arc_beat, with_made, arc_left}
use Rattle.circle.specs.Plan.{reach_of}
use Rattle.circle.specs.Sound.{point_sound, arc_under_way}
use Rattle.circle.proofs.laws.Square.{Goes}
use Rattle.circle.proofs.laws.Rules.{goes}
use Rattle.circle.proofs.laws.Arcs.{Passed, passed, passes, Lays, lays, point-sound, plane-moved, plane-steps, reach-high, small-start, small-centre}

-- the pulse of the rule
abbrev pub the_beat : Arc → Counters → Beat
the_beat a at = record { signs = arc_signs a at; speed = a.speed; at = moved_all at (arc_signs a at); mark = next_mark a }

-- where the arc's plane stands, and the rule's move there
abbrev pub point_of : Arc → Counters → Pair
point_of a at = on_plane a.circling.plane at

abbrev pub move_at : Arc → Counters → Ways
move_at a at = move_of (start_value a) a.centre (point_of a at) (ways_at a.circling.direction a.centre (point_of a at))

pub signs-are : (a : Arc) (at : Counters) → arc_signs a at ≡ on_axes a.circling.plane (move_at a at)
unfolding arc_signs
signs-are a at = refl

module _ (a : Arc) (at : Counters) (u : arc_under_way a at ≡ true) where
  facts : Passed a at
  facts = passed a at u

  laid : Lays a.start a.centre (point_of a at)
  laid = lays a.start a.centre (point_of a at) facts.room facts.point

  -- one axis of the plane goes by one, within the square
  pub moves : Goes (reach_of a.start) a.centre (point_of a at) (move_at a at)
  moves =
      goes (start_value a) (reach_of a.start) a.centre (point_of a at) (reach-high a.start) laid.first laid.second laid.apart
      a.circling.direction

  steps : have_steps at (arc_signs a at) ≡ true
  steps = rw (signs-are a at) (plane-steps a.circling.plane (move_at a at) at moves.first moves.second)

  pub rooms : HasRoom at (arc_signs a at)
  rooms = steps-room at (arc_signs a at) steps

  pub small : counted (moved_all at (arc_signs a at)) ≡ true
  small = counted_of (moved_all at (arc_signs a at)) (steps-small at (arc_signs a at) steps (in24-of at facts.position))

  fits : counted at && counted_pair a.centre && counted_pair a.start ≡ true
  fits =
      both (both facts.position (small-centre (reach_of a.start) a.centre (point_of a at) laid.first laid.second))
      (small-start a.start facts.start)

  -- every pulse that is left is made: no guard is met
  pub makes : a.made < a.length → arc_beat a at ≡ Some (the_beat a at)
  unfolding arc_beat
  makes h = rw (lt-ltb a.made a.length h, fits, step-made at (arc_signs a at) steps)

  -- and the arc passes again after it
  lies : point_sound a.start a.centre (on_plane a.circling.plane (moved_all at (arc_signs a at))) ≡ true
  lies =
      rw (signs-are a at, plane-moved a.circling.plane (move_at a at) at)
      (point-sound a.start a.centre (shifted (point_of a at) (move_at a at)) moves.near_first moves.near-second moves.apart)

  pub goes_on : a.made < a.length → arc_under_way (with_made a (a.made + 1)) (moved_all at (arc_signs a at)) ≡ true
  goes_on h =
      passes (with_made a (a.made + 1)) (moved_all at (arc_signs a at))
      (record { position = small; speed = facts.speed; start = facts.start; room = facts.room; point = lies; made = omega arith })

-- ---- whether one is left

pub none_left : (a : Arc) (at : Counters) → arc_left a ≡ 0 → arc_beat a at ≡ None
unfolding arc_left arc_beat
none_left a at h = rw (le-ltb a.made a.length (omega arith))

left-none : (a : Arc) → a.length ≤ a.made → arc_left a ≡ 0
unfolding arc_left
left-none a h = omega arith

never : {A : Type 0} {b : Beat} → Some b ≡ None → A
never p = let z : ◌≡◌ {A = ℕ} 0 1 = cc in absurd (omega arith)

never' : {A : Type 0} {b : Beat} → None ≡ Some b → A
never' p = let z : ◌≡◌ {A = ℕ} 0 1 = cc in absurd (omega arith)

same : {b c : Beat} → Some b ≡ Some c → b ≡ c
same e = cc

marked_by : (t : Bool) (a : Arc) (s : Signs) (v : Option Counters) {b : Beat} → pick t (beat_to a s v) None ≡ Some b → b.mark ≡ next_mark a
marked_by true a s (Some there) {b} e = ap (λ (c : Beat). c.mark) (sym (same e))
marked_by true a s None e = never' e
marked_by false a s v e = never' e

-- any arc's pulse leaves it at the next mark, in its one phase
pub beat-marked : (a : Arc) (at : Counters) {b : Beat} → arc_beat a at ≡ Some b → b.mark ≡ next_mark a
unfolding arc_beat
beat-marked a at e =
    marked_by (ltb a.made a.length && (counted at && counted_pair a.centre && counted_pair a.start)) a (arc_signs a at)
    (step_to at (arc_signs a at)) e

-- what a pulse of such an arc leaves
pub record Taken (a : Arc) (at : Counters) (b : Beat) : Type 0 where
  pub is : b ≡ the_beat a at
  pub there : b.at ≡ moved_all at b.signs
  pub rooms : HasRoom at b.signs
  pub speed : speed_right b.speed ≡ true
  pub sound : arc_under_way (with_made a b.mark.made) b.at ≡ true
  pub small : counted b.at ≡ true
  pub left : arc_left a ≡ arc_left (with_made a b.mark.made) + 1

module _ (a : Arc) (at : Counters) (u : arc_under_way a at ≡ true) where
  taken-by : (b : Beat) → arc_beat a at ≡ Some b → (a.made < a.length) → Taken a at b
  unfolding arc_left
  taken-by b e h =
      let i : b ≡ the_beat a at = same (sym e ∙ makes a at u h) in
      rw i
      (record {
        is = refl;
        there = refl;
        rooms = rooms a at u;
        speed = (passed a at u).speed;
        sound = goes_on a at u h;
        small = small a at u;
        left = omega arith;
      })

  pub taken : {b : Beat} → arc_beat a at ≡ Some b → Taken a at b
  taken {b} e = by (ltb a.made a.length) refl
    where
      by : (t : Bool) → ltb a.made a.length ≡ t → Taken a at b
      by true f = taken-by b e (ltb-true a.made a.length f)
      by false f = never' (sym (none_left a at (left-none a (ltb-false a.made a.length f))) ∙ e)

  pub over-left : arc_beat a at ≡ None → arc_left a ≡ 0
  over-left e = by (ltb a.made a.length) refl
    where
      by : (t : Bool) → ltb a.made a.length ≡ t → arc_left a ≡ 0
      by true f = never (sym (makes a at u (ltb-true a.made a.length f)) ∙ e)
      by false f = left-none a (ltb-false a.made a.length f)
