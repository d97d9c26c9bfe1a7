-- What 103 asks of an arc under way (02, §3, last sentence; 01, "Calls", row 103, on speeds).
use Rattle.motion.specs.declared.Beat.{Beat}
use Rattle.std.specs.Prelude.{Bool, not, ◌&&◌, leb, eqb, Option, Some, None}
use Rattle.count.specs.Pick.{pick}
use Rattle.count.specs.Numbers.{half, far}
use Rattle.motion.specs.declared.Counters.{Counters}
use Rattle.motion.specs.declared.Look.{Look}
use Rattle.motion.specs.declared.Look.TheVariants as look
use Rattle.motion.specs.Sound.{speed_right, counted}
use Rattle.circle.specs.declared.Pair.{Pair}
use Rattle.circle.specs.declared.Arc.{Arc}
use Rattle.circle.specs.Rule.{on_plane}
use Rattle.circle.specs.Arc.{arc_beat}
use Rattle.circle.specs.Plan.{reach_of, has_room}

-- a point is at another
abbrev pub at_point : Pair → Pair → Bool
at_point c p = eqb c.first p.first && eqb c.second p.second

-- a start that a line can send: within ±4,000,000 and not at the centre
unfoldable pub start_sound : Pair → Bool
start_sound s = (leb (far half s.first) 4000000 && leb (far half s.second) 4000000) && not (eqb s.first half && eqb s.second half)

-- a point that is not the centre and within 9's bounds
unfoldable pub point_sound : Pair → Pair → Pair → Bool
point_sound start centre p =
    (leb (far centre.first p.first) (reach_of start) && leb (far centre.second p.second) (reach_of start)) && not (at_point centre p)

-- positions of 24 bits, as of every board; the speed, the start, 9's bounds within 24 bits, the point, and no pulse past its arc
unfoldable pub arc_under_way : Arc → Counters → Bool
arc_under_way a at =
    counted at && speed_right a.speed && start_sound a.start && has_room a.centre a.start
    && point_sound a.start a.centre (on_plane a.circling.plane at) && leb a.made a.length

-- together with the next pulse
abbrev pub looked_arc : Option Beat → Look
looked_arc (Some b) = look.Made b
looked_arc None = look.Over

unfoldable pub arc_look : Arc → Counters → Look
arc_look a at = pick (arc_under_way a at) (looked_arc (arc_beat a at)) look.Wrong
