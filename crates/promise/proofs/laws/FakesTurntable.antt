-- The machines of FakesTurntable fail 02 §7: one sets x to 0 with A, the other takes `@08` after `@03`. Assumes nothing.
use Prim.Native.Nat.{ℕ}
use mathlib.Core.Path.{refl, ap}
use mathlib.Core.List.{List, []}
use lib.ListN.{get_or}
use Rattle.count.specs.Chars.{codes}
use Rattle.count.specs.Numbers.{within, in24, signed, word, placed, added}
use Rattle.count.specs.Ranges.{in_speed, in_offset, in_back, in_loop, in_delay, in_character, in_switch, in_port, in_byte, in_zero, right_count, right_z2, right_distances, right_speeds}
use Rattle.count.specs.Text.{hex_digit, hexes, twos24, report, two_hex, decimal, digits, shown, decimals, four_digits}
use Rattle.motion.specs.Next.{from_of, to_of, speed_at, skipped, next_by, pulse_of as straight_pulse, after_of, left_of as straight_left}
use Rattle.motion.specs.Phase.{pulses, steps, sign_at, count_after}
use Rattle.motion.specs.Plan.{goal, goal_of, goal_z2, first_speed, later_speed, route, going_to, plan_of as straight_plan}
use Rattle.motion.specs.Sound.{counted, in_range, under_way as straight_under_way}
use Rattle.travel.specs.Next.{pulse_of, left_of}
use Rattle.travel.specs.Plan.{plan_of}
use Rattle.travel.specs.Sound.{under_way}
use Rattle.line.specs.Lines.{behind, letter_of, after_address, direct_of, code_of, stored_of}
use Rattle.line.specs.Numbers.{digits_behind, digits_of, number_of, parted, items_of, numbers_of}
use Rattle.record.specs.Bytes.{bytes4, num_bytes, encode, word_at, words_of, front}
use Rattle.record.specs.Fault.{is_code, count_right, axes_right, loop_right, ranges_right, speeds_right, fault_of}
use Rattle.record.specs.Keep.{has_room, store_of}
use Rattle.record.specs.Places.{record_at, records_from, records_of}
use Rattle.record.specs.Table.{spot_of, fetch_of}
use Rattle.program.specs.Check.{holds, share, around, crosses, early, overlaps, holders, outside, strays, letter, checked}
use Rattle.program.specs.Onward.{inside, again, opens, looped, aimed, onward_of}
use Rattle.program.specs.Program.{check_of, verdict_of}
use Rattle.engine.specs.Sound.{sound_of}
use Rattle.engine.specs.State.{mixed, reset_of, heard, begin_of}
use Rattle.engine.specs.Tick.{performed, ticked, runs_of}
use Rattle.board.specs.Calls.{receiving, clocking}
use Rattle.board.specs.Direct.{first, reply_of, direct_said}
use Rattle.board.specs.Receive.{ear_of, returned, gathering, stopped, broken, reset_said, hearing}
use Rattle.board.specs.State.{gathered, sound}
use Rattle.board.specs.Storing.{record_reply, stored_said}
use Rattle.course.specs.Run.{runs_now, course}
use Rattle.course.specs.Text.{pulse_text, positions_text}
use Rattle.course.specs.Walk.{walked_from, walked}
use borrow.Author.Tests.{eqb-false}
use Rattle.record.specs.Memory.{Memory}
use Rattle.board.specs.declared.Board.{Board}
use Rattle.promise.specs.Circles.{typed, answers_of, from}
use Rattle.promise.specs.Demanded.{Requested}
use Rattle.promise.specs.FakesTurntable.{zeroes_all, adds_always}
use Rattle.promise.proofs.laws.FakesTyped.{lent0}

-- x one step on, by a movement with its pulse and its 0, and the line `@08` before its return
abbrev moved : Board × Memory
moved =
    let p = from zeroes_all (codes "@07\r@0A1,600,0,600,0,600,0,600\r") in
    let s = (zeroes_all.tick p.1 (zeroes_all.tick p.1 p.0).0).0 in
    typed zeroes_all (codes "@08") (s, p.1)

pub zeroes_all-fails : Requested zeroes_all → ⊥
unfolding typed answers_of within in24 signed word placed added in_speed in_offset in_back in_loop in_delay in_character in_switch in_port in_byte in_zero right_count right_z2 right_distances right_speeds hex_digit hexes twos24 report two_hex decimal digits shown decimals four_digits from_of to_of speed_at skipped next_by pulse_of straight_pulse after_of left_of straight_left pulses steps sign_at count_after goal goal_of goal_z2 first_speed later_speed route going_to plan_of straight_plan counted in_range under_way straight_under_way behind letter_of after_address direct_of code_of stored_of digits_behind digits_of number_of parted items_of numbers_of bytes4 num_bytes encode word_at words_of front is_code count_right axes_right loop_right ranges_right speeds_right fault_of has_room store_of record_at spot_of fetch_of records_from records_of holds share around crosses early overlaps holders outside strays letter checked inside again opens looped aimed onward_of check_of verdict_of sound_of mixed reset_of heard begin_of performed ticked runs_of receiving clocking first reply_of direct_said ear_of returned gathering stopped broken reset_said hearing gathered sound record_reply stored_said runs_now course pulse_text positions_text walked_from walked
zeroes_all-fails d =
    let p = (d.turntable.adds [] lent0 moved.0 (record { typed = record { idle = refl; letter = refl }; count = refl; number = refl; whole = refl }) refl refl).1.board in
    eqb-false 8388608 8388609 refl (ap (λ (b : Board). b.engine.at.x) p)

-- axes 3, and the line `@08` before its return
abbrev few : Board × Memory
few = from adds_always (codes "@03\r@08")

pub adds_always-fails : Requested adds_always → ⊥
unfolding typed answers_of within in24 signed word placed added in_speed in_offset in_back in_loop in_delay in_character in_switch in_port in_byte in_zero right_count right_z2 right_distances right_speeds hex_digit hexes twos24 report two_hex decimal digits shown decimals four_digits from_of to_of speed_at skipped next_by pulse_of straight_pulse after_of left_of straight_left pulses steps sign_at count_after goal goal_of goal_z2 first_speed later_speed route going_to plan_of straight_plan counted in_range under_way straight_under_way behind letter_of after_address direct_of code_of stored_of digits_behind digits_of number_of parted items_of numbers_of bytes4 num_bytes encode word_at words_of front is_code count_right axes_right loop_right ranges_right speeds_right fault_of has_room store_of record_at spot_of fetch_of records_from records_of holds share around crosses early overlaps holders outside strays letter checked inside again opens looped aimed onward_of check_of verdict_of sound_of mixed reset_of heard begin_of performed ticked runs_of receiving clocking first reply_of direct_said ear_of returned gathering stopped broken reset_said hearing gathered sound record_reply stored_said runs_now course pulse_text positions_text walked_from walked
adds_always-fails d =
    let p = (d.turntable.refuses [] lent0 few.0 (record { typed = record { idle = refl; letter = refl }; count = refl; number = refl; whole = refl }) refl refl).0 in
    eqb-false 48 51 refl (ap (λ (l : List ℕ). get_or l 0 0) p)
