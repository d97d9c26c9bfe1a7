-- The laws of the next pulse of what 103 lets pass: the code's is the rule's, it keeps that it passes, and it lowers the number of pulses
-- left by one. Assumes nothing.
use Rattle.motion.specs.declared.Stepped.{Stepped as StraightStepped}
use Rattle.std.specs.Prelude.{Option, Some, None}
use Rattle.motion.specs.declared.Beat.{Beat}
use mathlib.Core.Path.{◌≡◌, refl, sym, ap, ◌∙◌}
use mathlib.Core.Bool.{true}
use Prim.Native.Nat.{◌+◌}
use Rattle.motion.specs.declared.Counters.{Counters}
use Rattle.motion.specs.declared.Move.{Move}
use Rattle.motion.specs.Phase.{moved_all}
use Rattle.motion.specs.Next.{pulse_of as straight_pulse}
use Rattle.motion.specs.Sound.{speed_right, counted, under_way as straight_under_way}
use Rattle.motion.specs.work.Room.{HasRoom}
use Rattle.motion.proofs.laws.Onward.{next-is-pulse as straight-is-pulse, taken as straight-taken}
use Rattle.motion.proofs.laws.Passed.{position_in as straight-position}
use Rattle.circle.specs.declared.Arc.{Arc}
use Rattle.circle.specs.Arc.{arc_beat}
use Rattle.circle.specs.Sound.{arc_under_way}
use Rattle.circle.proofs.laws.Arcs.{passed}
use Rattle.circle.proofs.laws.Beats.{taken as arc-taken}
use Rattle.travel.specs.declared.Travel.{Travel}
use Rattle.travel.specs.declared.Travel.TheVariants as travel
use Rattle.travel.specs.Next.{Stepped, straight_next, arc_next, pulse_of, left_of}
use Rattle.travel.specs.Next.Next.{Made}
use Rattle.travel.specs.Sound.{under_way}
use Rattle.travel.specs.work.Beat.{next_of}
use Rattle.travel.proofs.laws.Beats.{same, never}

-- the code's pulse is the rule's
pub next-is-pulse : (m : Travel) (at : Counters) → under_way m at ≡ true → next_of m at ≡ pulse_of m at
unfolding under_way next_of pulse_of
next-is-pulse (travel.Straight m) at u = ap straight_next (straight-is-pulse m at u)
next-is-pulse (travel.Round a) at u = refl

-- what a pulse leaves
pub record Taken (m : Travel) (at : Counters) (s : Stepped) : Type 0 where
  pub there : s.at ≡ moved_all at s.signs
  pub rooms : HasRoom at s.signs
  pub speed : speed_right s.speed ≡ true
  pub sound : under_way s.rest s.at ≡ true
  pub small : counted s.at ≡ true
  pub left : left_of m ≡ left_of s.rest + 1

straight-by : (m : Move) (at : Counters) {s : Stepped} → straight_under_way m at ≡ true → (n : Option StraightStepped) → straight_pulse m at ≡ n
    → straight_next n ≡ Made s → Taken (travel.Straight m) at s
unfolding under_way left_of
straight-by m at u (Some t) e p =
    let k = straight-taken m at u e in
    rw (same p) (record { there = k.there; rooms = k.rooms; speed = k.speed; sound = k.sound; small = k.small; left = k.left })
straight-by m at u None e p = never p

arc-by : (a : Arc) (at : Counters) {s : Stepped} → arc_under_way a at ≡ true → (n : Option Beat) → arc_beat a at ≡ n → arc_next a n ≡ Made s
    → Taken (travel.Round a) at s
unfolding under_way left_of
arc-by a at u (Some b) e p =
    let k = arc-taken a at u e in
    rw (same p) (record { there = k.there; rooms = k.rooms; speed = k.speed; sound = k.sound; small = k.small; left = k.left })
arc-by a at u None e p = never p

pub taken : (m : Travel) (at : Counters) {s : Stepped} → under_way m at ≡ true → pulse_of m at ≡ Made s → Taken m at s
unfolding under_way pulse_of
taken (travel.Straight m) at u p = straight-by m at u (straight_pulse m at) refl p
taken (travel.Round a) at u p = arc-by a at u (arc_beat a at) refl p

-- the next pulse keeps that it passes, and the counters of 24 bits
pub next-keeps : (m : Travel) (at : Counters) {s : Stepped} → under_way m at ≡ true → next_of m at ≡ Made s
    → (under_way s.rest s.at ≡ true) × (counted s.at ≡ true)
next-keeps m at u e = let t = taken m at u (sym (next-is-pulse m at u) ∙ e) in (t.sound, t.small)

-- the counters of what passes are of 24 bits
pub position_in : (m : Travel) (at : Counters) → under_way m at ≡ true → counted at ≡ true
unfolding under_way
position_in (travel.Straight m) at u = straight-position m at u
position_in (travel.Round a) at u = (passed a at u).position
