-- What the functions of a kind rest on: a look at it from the straight movement's or the arc's. Assumes nothing.
use Rattle.std.specs.Prelude.{Option, Some, None}
use Rattle.motion.specs.declared.Beat.{Beat}
use Rattle.motion.specs.declared.Stepped.{Stepped as StraightStepped}
use mathlib.Core.Path.{◌≡◌, refl, ap, ◌∙◌}
use Rattle.count.specs.Pick.{pick}
use Rattle.motion.specs.declared.Counters.{Counters}
use Rattle.motion.specs.declared.Move.{Move}
use Rattle.motion.specs.declared.Look.{Look}
use Rattle.motion.specs.declared.Look.TheVariants as look
use Rattle.motion.specs.Sound.{under_way as straight_under_way}
use Rattle.motion.specs.work.Here.{next_of as straight_of}
use Rattle.motion.specs.work.Beat.{looked_by as straight_looked, look_of as straight_look}
use Rattle.circle.specs.declared.Arc.{Arc}
use Rattle.circle.specs.Arc.{arc_beat}
use Rattle.circle.specs.Sound.{arc_under_way, looked_arc, arc_look}
use Rattle.travel.specs.declared.Travel.TheVariants as travel
use Rattle.travel.specs.Next.{Next, straight_next, arc_next}
use Rattle.travel.specs.Next.Next.{Made, Over}
use Rattle.travel.specs.Sound.{under_way}
use Rattle.travel.specs.work.Beat.{next_of, beaten, looked_by, look_of}
use Rattle.travel.proofs.laws.Beats.{arc-beaten}

straight-looked : (n : Option StraightStepped) → straight_looked n ≡ looked_by (straight_next n)
straight-looked (Some s) = refl
straight-looked None = refl

pub straight-look : (m : Move) (at : Counters) → straight_look m at ≡ look_of (travel.Straight m) at
unfolding straight_look look_of under_way next_of
straight-look m at = ap (λ (l : Look). pick (straight_under_way m at) l look.Wrong) (straight-looked (straight_of m at))

arc-looked : (n : Next) → looked_arc (beaten n) ≡ looked_by n
arc-looked (Made s) = refl
arc-looked Over = refl

pub arc-look : (a : Arc) (at : Counters) → arc_look a at ≡ look_of (travel.Round a) at
unfolding arc_look look_of under_way next_of
arc-look a at =
    ap (λ (l : Look). pick (arc_under_way a at) l look.Wrong)
    (ap (λ (b : Option Beat). looked_arc b) (arc-beaten a at) ∙ arc-looked (arc_next a (arc_beat a at)))
