-- 02 §7's examples, computed on the definitions: what our machine answers and what `walk` prints. Assumes nothing.
use mathlib.Core.Path.{◌≡◌, refl}
use mathlib.Core.List.{[], ◌∷◌}
use lib.IntN.{pos, negsuc}
use Rattle.count.specs.Chars.{codes}
use Rattle.count.specs.Numbers.{within, in24, signed, word, placed, added}
use Rattle.count.specs.Ranges.{in_speed, in_offset, in_back, in_loop, in_delay, in_character, in_switch, in_port, in_byte, in_zero, right_count, right_z2, right_distances, right_speeds}
use Rattle.count.specs.Text.{hex_digit, hexes, twos24, report, two_hex, decimal, digits, shown, decimals, four_digits}
use Rattle.motion.specs.Next.{from_of, to_of, speed_at, skipped, next_by, pulse_of as straight_pulse, after_of, left_of as straight_left}
use Rattle.motion.specs.Phase.{pulses, steps, sign_at, count_after}
use Rattle.motion.specs.Plan.{goal, goal_of, goal_z2, first_speed, later_speed, route, going_to, plan_of as straight_plan}
use Rattle.motion.specs.Sound.{counted, in_range, under_way as straight_under_way}
use Rattle.travel.specs.Next.{pulse_of, left_of}
use Rattle.travel.specs.Plan.{plan_of}
use Rattle.travel.specs.Sound.{under_way}
use Rattle.line.specs.Lines.{behind, letter_of, after_address, direct_of, code_of, stored_of}
use Rattle.line.specs.Numbers.{digits_behind, digits_of, number_of, parted, items_of, numbers_of}
use Rattle.record.specs.Bytes.{bytes4, num_bytes, encode, word_at, words_of, front}
use Rattle.record.specs.Fault.{is_code, count_right, axes_right, loop_right, ranges_right, speeds_right, fault_of}
use Rattle.record.specs.Keep.{has_room, store_of}
use Rattle.record.specs.Places.{record_at, records_from, records_of}
use Rattle.record.specs.Table.{spot_of, fetch_of}
use Rattle.program.specs.Check.{holds, share, around, crosses, early, overlaps, holders, outside, strays, letter, checked}
use Rattle.program.specs.Onward.{inside, again, opens, looped, aimed, onward_of}
use Rattle.program.specs.Program.{check_of, verdict_of}
use Rattle.engine.specs.Sound.{sound_of}
use Rattle.engine.specs.State.{mixed, reset_of, heard, begin_of}
use Rattle.engine.specs.Tick.{performed, ticked, runs_of}
use Rattle.board.specs.Calls.{receiving, clocking}
use Rattle.board.specs.Direct.{first, reply_of, direct_said}
use Rattle.board.specs.Receive.{ear_of, returned, gathering, stopped, broken, reset_said, hearing}
use Rattle.board.specs.State.{gathered, sound}
use Rattle.board.specs.Storing.{record_reply, stored_said}
use Rattle.course.specs.Run.{runs_now, course}
use Rattle.course.specs.Text.{pulse_text, positions_text}
use Rattle.course.specs.Walk.{walked_from, walked}
use Rattle.promise.specs.Machine.{ours}
use Rattle.promise.specs.Circles.{typed, answers_of, from}
use Rattle.promise.specs.Twelve.{send0}
use Rattle.promise.specs.Turntable.{pulse, TurntablePrinted}

abbrev Phases : Type 0
Phases = answers_of ours 5 (from ours (codes "@07\r@08\r@0A1,600,1,500,-1,400,2,300\r"))
    ≡ pulse (pos 1) (pos 1) (pos 0) (pos 0) 600 ∷ pulse (pos 0) (pos 0) (negsuc 0) (pos 0) 400
    ∷ pulse (pos 0) (pos 0) (pos 0) (pos 1) 300 ∷ pulse (pos 0) (pos 0) (pos 0) (pos 1) 300 ∷ send0 ∷ []

abbrev Together : Type 0
Together = answers_of ours 3 (from ours (codes "@07\r@08\r@0z1\r@0A1,600,0,500,-1,400,2,300\r"))
    ≡ pulse (pos 1) (pos 0) (negsuc 0) (pos 1) 600 ∷ pulse (pos 0) (pos 0) (pos 0) (pos 1) 600 ∷ send0 ∷ []

abbrev Alone : Type 0
Alone = answers_of ours 2 (from ours (codes "@08\r@0A-1,700\r")) ≡ pulse (pos 0) (pos 0) (pos 0) (negsuc 0) 700 ∷ send0 ∷ []

abbrev Stored : Type 0
Stored = answers_of ours 2 (from ours (codes "@08\r@0i\r0 1,700\r9\r@0S\r")) ≡ pulse (pos 0) (pos 0) (pos 0) (pos 1) 700 ∷ send0 ∷ []

computed : Phases × Together × Alone × Stored
unfolding typed answers_of within in24 signed word placed added in_speed in_offset in_back in_loop in_delay in_character in_switch in_port in_byte in_zero right_count right_z2 right_distances right_speeds hex_digit hexes twos24 report two_hex decimal digits shown decimals four_digits from_of to_of speed_at skipped next_by pulse_of straight_pulse after_of left_of straight_left pulses steps sign_at count_after goal goal_of goal_z2 first_speed later_speed route going_to plan_of straight_plan counted in_range under_way straight_under_way behind letter_of after_address direct_of code_of stored_of digits_behind digits_of number_of parted items_of numbers_of bytes4 num_bytes encode word_at words_of front is_code count_right axes_right loop_right ranges_right speeds_right fault_of has_room store_of record_at spot_of fetch_of records_from records_of holds share around crosses early overlaps holders outside strays letter checked inside again opens looped aimed onward_of check_of verdict_of sound_of mixed reset_of heard begin_of performed ticked runs_of receiving clocking first reply_of direct_said ear_of returned gathering stopped broken reset_said hearing gathered sound record_reply stored_said runs_now course pulse_text positions_text walked_from walked
computed = (refl, refl, refl, refl)

pub turned-phases : Phases
turned-phases = computed.0

pub turned-together : Together
turned-together = computed.1

pub turned-alone : Alone
turned-alone = computed.2

pub turned-stored : Stored
turned-stored = computed.3

pub turned-printed : TurntablePrinted
unfolding within in24 signed word placed added in_speed in_offset in_back in_loop in_delay in_character in_switch in_port in_byte in_zero right_count right_z2 right_distances right_speeds hex_digit hexes twos24 report two_hex decimal digits shown decimals four_digits from_of to_of speed_at skipped next_by pulse_of straight_pulse after_of left_of straight_left pulses steps sign_at count_after goal goal_of goal_z2 first_speed later_speed route going_to plan_of straight_plan counted in_range under_way straight_under_way behind letter_of after_address direct_of code_of stored_of digits_behind digits_of number_of parted items_of numbers_of bytes4 num_bytes encode word_at words_of front is_code count_right axes_right loop_right ranges_right speeds_right fault_of has_room store_of record_at spot_of fetch_of records_from records_of holds share around crosses early overlaps holders outside strays letter checked inside again opens looped aimed onward_of check_of verdict_of sound_of mixed reset_of heard begin_of performed ticked runs_of receiving clocking first reply_of direct_said ear_of returned gathering stopped broken reset_said hearing gathered sound record_reply stored_said runs_now course pulse_text positions_text walked_from walked
turned-printed = record { four = refl; alone = refl; dropped = refl }
