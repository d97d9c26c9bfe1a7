-- The fakes of an arc's move fail what is asked of circles, on states that they come to from their first one. Assumes nothing.
use mathlib.Core.Path.{refl, ap}
use mathlib.Core.List.{List, []}
use borrow.Author.Tests.{eqb-false, ltb-true}
use lib.ListN.{get_or}
use lib.IntN.{pos}
use Rattle.count.specs.Chars.{codes}
use Rattle.count.specs.Paper.{Paper, says}
use Rattle.count.specs.Numbers.{within, in24, signed, word}
use Rattle.count.specs.Ranges.{in_speed, in_zero, in_direction, in_arc, in_start, in_way, right_arc}
use Rattle.motion.specs.Pulse.{step_to}
use Rattle.motion.specs.Sound.{counted}
use Rattle.circle.specs.declared.Arc.{Arc}
use Rattle.circle.specs.declared.Plane.TheVariants.{XY}
use Rattle.circle.specs.declared.Direction.TheVariants.{Counter}
use Rattle.circle.specs.Rule.{pair, side, measure, ways_at, move_of}
use Rattle.circle.specs.Arc.{arc_left}
use Rattle.circle.specs.Plan.{circling, direction_of, first_ways, ways_fit, centre_of, root_up_to, reach_of, has_room, going_by, bend_of}
use Rattle.circle.specs.Sound.{start_sound, point_sound, arc_under_way}
use Rattle.travel.specs.Next.{left_of}
use Rattle.travel.specs.Plan.{circle_of}
use Rattle.travel.specs.Sound.{under_way}
use Rattle.line.specs.Lines.{behind, letter_of, after_address, direct_of}
use Rattle.line.specs.Numbers.{digits_behind, digits_of, number_of, parted, items_of, numbers_of}
use Rattle.record.specs.Fault.{count_right, axes_right, ranges_right, speeds_right}
use Rattle.engine.specs.Sound.{sound_of}
use Rattle.engine.specs.State.{circle_begun}
use Rattle.engine.specs.Tick.{ticked}
use Rattle.board.specs.Calls.{receiving}
use Rattle.board.specs.Direct.{first, reply_of, direct_said}
use Rattle.board.specs.Receive.{ear_of, returned, gathering, hearing}
use Rattle.board.specs.State.{gathered, sound}
use Rattle.course.specs.Walk.{no_memory}
use Rattle.promise.specs.Circles.{line, typed, answers_of, from}
use Rattle.promise.specs.Demanded.{Requested}
use Rattle.promise.specs.FakesCircles.{second_at_tie, measures_here}
use Rattle.promise.proofs.laws.FakesTyped.{number}

-- an arc of one pulse from (2,1) counter-clockwise: x² + y² is 5 there, and 2 or 8 after the one or the other move
abbrev tied : Arc
tied = record { circling = circling XY Counter; centre = pair 8388606 8388607; start = pair 8388610 8388609; speed = 600; length = 1; made = 0 }

pub second_at_tie-fails : Requested second_at_tie → ⊥
unfolding number typed within in24 signed word in_speed in_zero in_direction in_arc in_start in_way right_arc step_to counted side measure ways_at move_of arc_left direction_of first_ways ways_fit centre_of root_up_to reach_of has_room going_by bend_of start_sound point_sound arc_under_way left_of circle_of under_way behind letter_of after_address direct_of digits_behind digits_of number_of parted items_of numbers_of count_right axes_right ranges_right speeds_right sound_of circle_begun ticked receiving first reply_of direct_said ear_of returned gathering hearing gathered sound
second_at_tie-fails d =
    let s = (from second_at_tie (codes "@03\r@0f-1\r@0y1,600,0,2,1,-1,1\r")).0 in
    let p = d.circles.pulse line tied no_memory s (record { sound = refl; standing = refl; job = refl }) (refl, refl) (ltb-true 0 1 refl) in
    eqb-false 1 0 refl (ap (λ (a : Paper). number (get_or a.values 1 (pos 0))) p.answer)

-- the third pulse from (2,0) is Y+, and it makes X-
pub measures_here-fails : Requested measures_here → ⊥
unfolding number typed answers_of within in24 signed word in_speed in_zero in_direction in_arc in_start in_way right_arc step_to counted side measure ways_at move_of arc_left direction_of first_ways ways_fit centre_of root_up_to reach_of has_room going_by bend_of start_sound point_sound arc_under_way left_of circle_of under_way behind letter_of after_address direct_of digits_behind digits_of number_of parted items_of numbers_of count_right axes_right ranges_right speeds_right sound_of circle_begun ticked receiving first reply_of direct_said ear_of returned gathering hearing gathered sound
measures_here-fails d = eqb-false 0 1 refl (ap (λ (l : List Paper). number (get_or (get_or l 2 (says 5 [])).values 1 (pos 0))) d.circles.direct-example)
