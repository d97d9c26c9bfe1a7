-- An arc: its pulses one by one (02, §3, sentences 3, 6 and 7).
use Rattle.motion.specs.declared.Beat.{Beat}
use Rattle.std.specs.Prelude.{ℕ, ◌+◌, ◌-◌, Bool, ◌&&◌, ltb, Option, Some, None}
use Rattle.count.specs.Pick.{pick}
use Rattle.count.specs.Numbers.{half, full}
use Rattle.motion.specs.declared.Signs.{Signs}
use Rattle.motion.specs.declared.Counters.{Counters}
use Rattle.motion.specs.declared.Mark.{Mark}
use Rattle.motion.specs.Sound.{counted}
use Rattle.motion.specs.Pulse.{step_to}
use Rattle.circle.specs.declared.Pair.{Pair}
use Rattle.circle.specs.declared.Arc.{Arc}
use Rattle.circle.specs.Rule.{pair, on_plane, on_axes, measure, ways_at, move_of}

-- the start is counted from the centre: as counts, from 0
abbrev pub zero : Pair
zero = pair half half

-- x² + y² at the start: the value that every pulse is measured by, also after a stop
abbrev pub start_value : Arc → ℕ
start_value a = measure zero a.start

-- what the next pulse shows
unfoldable pub arc_signs : Arc → Counters → Signs
arc_signs a at =
    let p = on_plane a.circling.plane at in
    on_axes a.circling.plane (move_of (start_value a) a.centre p (ways_at a.circling.direction a.centre p))

-- two counts of 24 bits
abbrev pub counted_pair : Pair → Bool
counted_pair p = ltb p.first full && ltb p.second full

-- one pulse more is made; an arc has one phase
abbrev pub next_mark : Arc → Mark
next_mark a = record { phase = 0; made = a.made + 1 }

abbrev pub beat_to : Arc → Signs → Option Counters → Option Beat
beat_to a s (Some there) = Some (record { signs = s; speed = a.speed; at = there; mark = next_mark a })
beat_to a s None = None

-- the next pulse, at the speed sent, or that none is left: the arc length counts them. An arc with a number beyond 24 bits, or whose next
-- pulse would lead there, has none: no arc that 103 lets pass is one.
unfoldable pub arc_beat : Arc → Counters → Option Beat
arc_beat a at =
    pick (ltb a.made a.length && (counted at && counted_pair a.centre && counted_pair a.start))
    (beat_to a (arc_signs a at) (step_to at (arc_signs a at))) None

-- the same arc with so many pulses made
abbrev pub with_made : Arc → ℕ → Arc
with_made a k = record { circling = a.circling; centre = a.centre; start = a.start; speed = a.speed; length = a.length; made = k }

-- the pulses still to make
unfoldable pub arc_left : Arc → ℕ
arc_left a = a.length - a.made
