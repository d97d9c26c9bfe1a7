-- THE THEOREM of 02 §3: our machine has what is asked of circles. The two examples are computed. Assumes nothing.
use mathlib.Core.Path.{◌≡◌, refl}
use mathlib.Core.List.{[], ◌∷◌}
use lib.IntN.{pos, negsuc}
use Rattle.count.specs.Chars.{codes}
use Rattle.count.specs.Numbers.{within, in24, signed, word}
use Rattle.count.specs.Ranges.{in_speed, in_zero, in_plane, in_direction, in_arc, in_start, in_way, right_arc}
use Rattle.motion.specs.Pulse.{step_to}
use Rattle.motion.specs.Sound.{counted}
use Rattle.circle.specs.Rule.{side, measure, ways_at, move_of}
use Rattle.circle.specs.Arc.{arc_signs, arc_beat, arc_left}
use Rattle.circle.specs.Plan.{plane_of, direction_of, first_ways, ways_fit, centre_of, root_up_to, reach_of, has_room as has_square, going_by, bend_of}
use Rattle.circle.specs.Sound.{start_sound, point_sound, arc_under_way}
use Rattle.travel.specs.Next.{pulse_of, left_of}
use Rattle.travel.specs.Plan.{circle_of}
use Rattle.travel.specs.Sound.{under_way}
use Rattle.line.specs.Lines.{behind, letter_of, after_address, direct_of, code_of, stored_of}
use Rattle.line.specs.Numbers.{digits_behind, digits_of, number_of, parted, items_of, numbers_of}
use Rattle.record.specs.Bytes.{bytes4, num_bytes, encode, word_at, words_of, front}
use Rattle.record.specs.Fault.{is_code, count_right, axes_right, ranges_right, speeds_right, fault_of}
use Rattle.record.specs.Keep.{has_room, store_of}
use Rattle.record.specs.Places.{record_at, records_from, records_of}
use Rattle.record.specs.Table.{spot_of, fetch_of}
use Rattle.program.specs.Check.{holds, share, around, crosses, early, overlaps, holders, outside, strays, letter, checked}
use Rattle.program.specs.Program.{check_of, verdict_of}
use Rattle.engine.specs.Sound.{sound_of}
use Rattle.engine.specs.State.{circle_begun}
use Rattle.engine.specs.Tick.{performed, ticked}
use Rattle.board.specs.Calls.{receiving, clocking}
use Rattle.board.specs.Direct.{first, reply_of, direct_said}
use Rattle.board.specs.Receive.{ear_of, returned, gathering, hearing}
use Rattle.board.specs.State.{gathered, sound}
use Rattle.board.specs.Storing.{record_reply, stored_said}
use Rattle.promise.specs.Machine.{ours}
use Rattle.promise.specs.Twelve.{done, send0}
use Rattle.promise.specs.Circles.{shows, typed, answers_of, from, CirclesRequested}
use Rattle.promise.proofs.laws.KeepsArcs.{pulsed, goes, ended_so}
use Rattle.promise.proofs.laws.KeepsCircling.{plane-set, direction-set, axes-set, circle-begins, reset-first, ended-keeps, byte-keeps}

-- from (2,0) counter-clockwise
computed : (answers_of ours 5 (from ours (codes "@03\r@0f-1\r@0y4,600,0,2,0,-1,1\r"))
    ≡ shows (pos 0) (pos 1) (pos 0) ∷ shows (negsuc 0) (pos 0) (pos 0) ∷ shows (pos 0) (pos 1) (pos 0) ∷ shows (negsuc 0) (pos 0) (pos 0) ∷ send0 ∷ [])
    × (answers_of ours 7 (from ours (codes "@07\r@0i\re1\rf-1\ry4,600,0,2,0,-1,1\r9\r@0S\r"))
    ≡ done ∷ done ∷ shows (pos 0) (pos 0) (pos 1) ∷ shows (negsuc 0) (pos 0) (pos 0) ∷ shows (pos 0) (pos 0) (pos 1) ∷ shows (negsuc 0) (pos 0) (pos 0)
    ∷ send0 ∷ [])
unfolding typed answers_of within in24 signed word in_speed in_zero in_plane in_direction in_arc in_start in_way right_arc step_to counted side measure ways_at move_of arc_signs arc_beat arc_left plane_of direction_of first_ways ways_fit centre_of root_up_to reach_of has_square going_by bend_of start_sound point_sound arc_under_way pulse_of left_of circle_of under_way behind letter_of after_address direct_of code_of stored_of digits_behind digits_of number_of parted items_of numbers_of bytes4 num_bytes encode word_at words_of front is_code count_right axes_right ranges_right speeds_right fault_of has_room store_of record_at records_from records_of spot_of fetch_of holds share around crosses early overlaps holders outside strays letter checked check_of verdict_of sound_of circle_begun performed ticked receiving clocking first reply_of direct_said ear_of returned gathering hearing gathered sound record_reply stored_said
computed = (refl, refl)

pub ours-circles : CirclesRequested ours
ours-circles = record {
  pulse = λ w a mem s t r h. pulsed w a s mem t r h;
  goes_on = λ w a mem s t r n h. goes w mem r n a s t h;
  ends = λ a mem s t r h. ended_so a s mem t r h;
  begins = λ ports l s t f n. circle-begins ports s l f t n;
  plane = λ ports l s t f n. plane-set ports s l f t n;
  direction = λ ports l s t f n. direction-set ports s l f t n;
  axes = λ ports l s t other f n. axes-set ports s l f t other n;
  reset = λ ports l s f. reset-first ports s l f;
  ended = λ mem s h. ended-keeps s mem h;
  stays = λ v ports l s h g. byte-keeps v ports s l h g;
  direct-example = computed.0;
  stored-example = computed.1;
}
