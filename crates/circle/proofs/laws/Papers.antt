-- What the answers of circles say on paper: a plane and a direction are their numbers, and a circle's reply goes by its tests. Assumes nothing.
use Rattle.std.specs.Prelude.{Result, Ok, Err}
use Rattle.count.specs.declared.Fault.TheVariants as fault
use Rattle.count.specs.declared.Fault.{Fault}
use mathlib.Core.Path.{◌≡◌, refl, ap, ◌∙◌}
use mathlib.Core.Bool.{Bool, true, false, not, ◌&&◌, ◌||◌}
use mathlib.Core.List.{List, [], ◌∷◌}
use Prim.Native.Nat.{ℕ, zero, suc, ◌<◌}
use native.Mathlib.Omega.{arith}
use lib.Dec.{eqb}
use Rattle.count.specs.Chars.{ch}
use Rattle.count.specs.Pick.{pick}
use Rattle.count.specs.Paper.{says}
use Rattle.count.specs.Numbers.{word}
use Rattle.count.specs.Ranges.{nth, in_speed, right_arc}
use Rattle.motion.specs.declared.Counters.{Counters}
use Rattle.motion.specs.Sound.{counted}
use Rattle.circle.specs.declared.Direction.{Direction}
use Rattle.circle.specs.declared.Direction.TheVariants.{Clockwise, Counter}
use Rattle.circle.specs.declared.Circling.{Circling}
use Rattle.circle.specs.declared.Pair.{Pair}
use Rattle.circle.specs.declared.Arc.{Arc}
use Rattle.circle.specs.Rule.{on_plane, plane_paper, direction_number, direction_paper}
use Rattle.circle.specs.Plan.{plane_of, direction_of, plane_set, start_of, ways_fit, centre_of, has_room, arc_from, going_by, bend_of, bent_paper}

-- A PLANE is the number that was sent
pub plane-paper : (w : ℕ) → w < 3 → plane_paper (plane_of w) ≡ says w []
unfolding plane_of
plane-paper zero h = refl
plane-paper (suc zero) h = refl
plane-paper (suc (suc zero)) h = refl
plane-paper (suc (suc (suc w))) h = absurd (omega arith)

-- A DIRECTION too, as a word
pub direction-paper : (d : Direction) → direction_paper (direction_of (word (direction_number d))) ≡ says 0 (direction_number d ∷ [])
unfolding direction_of word
direction-paper Clockwise = refl
direction-paper Counter = refl

-- A CIRCLE'S REPLY, from the room on: 0 or 9
pub going-number : (c : Circling) (at : Counters) (start : Pair) (l : List ℕ)
    → (bent_paper (going_by c at start l)).number
    ≡ pick (counted at && has_room (centre_of (on_plane c.plane at) start) start) (ch "0") (ch "9")
unfolding going_by
going-number c at start l =
    by (counted at) (has_room (centre_of (on_plane c.plane at) start) start) (arc_from c (centre_of (on_plane c.plane at) start) start l)
  where
    by : (b d : Bool) (a : Arc) → (bent_paper (pick (not b) (Err fault.Outside) (pick d (Ok a) (Err fault.Outside)))).number ≡ pick (b && d) 48 57
    by true true a = refl
    by true false a = refl
    by false d a = refl

-- what the tests give, in their order
abbrev pub replied : Bool → Bool → Bool → Bool → Bool → ℕ
replied plane arc ways rate room =
    pick (not plane) (ch "3") (pick (not arc) (ch "1") (pick (not ways) (ch "1") (pick (not rate) (ch "D") (pick room (ch "0") (ch "9")))))

bent-number : (p r w s : Bool) (b : Result Arc Fault) (room : Bool) → (bent_paper b).number ≡ pick room 48 57
    → (bent_paper (pick (not p) (Err fault.Axes) (pick (not r) (Err fault.Range) (pick (not w) (Err fault.Range) (pick (not s) (Err fault.Speed) b))))).number
    ≡ replied p r w s room
bent-number false r w s b room e = refl
bent-number true false w s b room e = refl
bent-number true true false s b room e = refl
bent-number true true true false b room e = refl
bent-number true true true true b room e = e

-- AND AS A WHOLE: 3, 1, D, 9 or 0, by the tests in this order
pub bend-number : (axes : ℕ) (c : Circling) (at : Counters) (l : List ℕ)
    → (bent_paper (bend_of axes c at l)).number
    ≡ replied (plane_set axes c.plane) (right_arc l) (ways_fit c.direction l) (in_speed (nth l 1))
    (counted at && has_room (centre_of (on_plane c.plane at) (start_of l)) (start_of l))
unfolding bend_of
bend-number axes c at l =
    bent-number (plane_set axes c.plane) (right_arc l) (ways_fit c.direction l) (in_speed (nth l 1)) (going_by c at (start_of l) l)
    (counted at && has_room (centre_of (on_plane c.plane at) (start_of l)) (start_of l)) (going-number c at (start_of l) l)

-- so it is one of these five
abbrev pub is_reply : ℕ → Bool
is_reply n = eqb n (ch "0") || eqb n (ch "3") || eqb n (ch "1") || eqb n (ch "D") || eqb n (ch "9")

replied-one : (p r w s room : Bool) → is_reply (replied p r w s room) ≡ true
replied-one false r w s room = refl
replied-one true false w s room = refl
replied-one true true false s room = refl
replied-one true true true false room = refl
replied-one true true true true false = refl
replied-one true true true true true = refl

pub bend-replies : (axes : ℕ) (c : Circling) (at : Counters) (l : List ℕ) → is_reply (bent_paper (bend_of axes c at l)).number ≡ true
bend-replies axes c at l =
    ap is_reply (bend-number axes c at l)
    ∙ replied-one (plane_set axes c.plane) (right_arc l) (ways_fit c.direction l) (in_speed (nth l 1))
    (counted at && has_room (centre_of (on_plane c.plane at) (start_of l)) (start_of l))
