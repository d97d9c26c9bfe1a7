-- The client's fault and its like: a machine whose loops go back one record short, and one that passes over a record after a movement, come
-- by another route through a program than demand 2 says. Each program is typed in from the machine's first state. Assumes nothing.
use Rattle.std.specs.Prelude.{Some}
use Prim.Native.Nat.{ℕ, zero, suc, ◌<◌, ◌≤◌}
use native.Mathlib.Omega.{arith}
use mathlib.Core.Bool.{true}
use mathlib.Core.List.{List, [], ◌∷◌}
use mathlib.Core.Path.{◌≡◌, refl}
use borrow.Author.Tests.{eqb-false, leb-true}
use lib.ListN.{length, get_or}
use Rattle.count.specs.Chars.{codes}
use Rattle.count.specs.Numbers.{within, in24, signed, word, placed, added}
use Rattle.count.specs.Ranges.{in_speed, in_offset, in_back, in_loop, in_delay, in_character, in_switch, in_port, in_byte, in_zero, right_count, right_z2, right_distances, right_speeds}
use Rattle.count.specs.Text.{hex_digit, hexes, twos24, report, two_hex, decimal, digits, shown}
use Rattle.motion.specs.Next.{from_of, to_of, speed_at, skipped, next_by, pulse_of as straight_pulse, after_of, left_of as straight_left}
use Rattle.motion.specs.Phase.{pulses, steps, sign_at, count_after}
use Rattle.motion.specs.Plan.{goal, goal_of, goal_z2, first_speed, later_speed, route, going_to, plan_of as straight_plan}
use Rattle.motion.specs.Sound.{counted, in_range, under_way as straight_under_way}
use Rattle.travel.specs.Next.{pulse_of, left_of}
use Rattle.travel.specs.Plan.{plan_of}
use Rattle.travel.specs.Sound.{under_way}
use Rattle.line.specs.Lines.{behind, letter_of, after_address, direct_of, code_of, stored_of}
use Rattle.line.specs.Numbers.{digits_behind, digits_of, number_of, parted, items_of, numbers_of}
use Rattle.record.specs.Bytes.{bytes4, num_bytes, encode, word_at, words_of, front}
use Rattle.record.specs.Fault.{is_code, count_right, axes_right, loop_right, ranges_right, speeds_right, fault_of}
use Rattle.record.specs.Keep.{has_room, store_of}
use Rattle.record.specs.Places.{record_at, spot_from, walk_to, records_from, records_of}
use Rattle.record.specs.Table.{spot_of, fetch_of, TableTrue}
use Rattle.program.specs.Check.{holds, share, around, crosses, early, overlaps, holders, outside, strays, letter, checked}
use Rattle.program.specs.Onward.{inside, again, opens, looped, aimed, onward_of}
use Rattle.program.specs.Program.{check_of, verdict_of}
use Rattle.engine.specs.Sound.{sound_of}
use Rattle.engine.specs.State.{mixed, reset_of, heard, begin_of}
use Rattle.engine.specs.Tick.{performed, ticked, runs_of}
use Rattle.board.specs.Calls.{receiving, clocking}
use Rattle.board.specs.Direct.{first, reply_of, direct_said}
use Rattle.board.specs.Receive.{ear_of, returned, gathering, stopped, broken, reset_said, hearing}
use Rattle.board.specs.State.{gathered, sound}
use Rattle.board.specs.Storing.{record_reply, stored_said}
use Rattle.record.specs.declared.Held.{Held}
use Rattle.record.specs.declared.Record.{Record}
use Rattle.record.specs.Memory.{Memory}
use Rattle.record.specs.Bytes.{made}
use Rattle.record.specs.Places.Records.{are}
use Rattle.program.specs.Program.{passes, sized, accepted}
use Rattle.course.specs.Walk.{no_memory}
use Rattle.promise.specs.Machine.{Machine}
use Rattle.promise.specs.Steps.{reached}
use Rattle.promise.specs.Stop.{Step, call, own, Place, board_at, last}
use Rattle.promise.specs.Route.{visits, after, Route, Started}
use Rattle.promise.specs.Demanded.{Demanded}
use Rattle.promise.specs.Fakes.{shorts, overleaps}
use Rattle.promise.proofs.laws.FakesTyped.{steps_of}

-- where a machine comes to by a text, and what its store then holds
abbrev sends : (m : Machine) → List ℕ → Place m
sends m t = last m (m.first, no_memory) (steps_of t)

abbrev in_store : (m : Machine) → Place m → Held
in_store m p = (board_at m p).engine.held

-- a table that is true of three records, entry by entry
three-true : (h : Held) (m : Memory) → h.records ≡ 3 → 3 ≤ length m.table → walk_to h m.store 0 ≡ Some (get_or m.table 0 0)
    → walk_to h m.store 1 ≡ Some (get_or m.table 1 0) → walk_to h m.store 2 ≡ Some (get_or m.table 2 0) → TableTrue h m
three-true h m n long a b c = record { long = omega arith; starts = λ i p. by i (omega arith) }
  where
    by : (i : ℕ) → i < 3 → walk_to h m.store i ≡ Some (get_or m.table i 0)
    by zero p = a
    by (suc zero) p = b
    by (suc (suc zero)) p = c
    by (suc (suc (suc i))) p = absurd (omega arith)

-- ---- two characters and a loop over both: it goes back to 1, not to 0

abbrev pattern : List Record
pattern = made 49 (65 ∷ []) ∷ made 49 (66 ∷ []) ∷ made 51 (1 ∷ 4294967294 ∷ []) ∷ []

abbrev looping : Place shorts
looping = sends shorts (codes "@01\r@0i\r1 65\r1 66\r3 1,-2\r9\r@0S\r")

looping-started : Started shorts (in_store shorts looping) looping
unfolding reached within in24 signed word placed added in_speed in_offset in_back in_loop in_delay in_character in_switch in_port in_byte in_zero right_count right_z2 right_distances right_speeds hex_digit hexes twos24 report two_hex decimal digits shown from_of to_of speed_at skipped next_by pulse_of straight_pulse after_of left_of straight_left pulses steps sign_at count_after goal goal_of goal_z2 first_speed later_speed route going_to plan_of straight_plan counted in_range under_way straight_under_way behind letter_of after_address direct_of code_of stored_of digits_behind digits_of number_of parted items_of numbers_of bytes4 num_bytes encode word_at words_of front is_code count_right axes_right loop_right ranges_right speeds_right fault_of has_room store_of record_at spot_of fetch_of records_from records_of holds share around crosses early overlaps holders outside strays letter checked inside again opens looped aimed onward_of check_of verdict_of sound_of mixed reset_of heard begin_of performed ticked runs_of receiving clocking first reply_of direct_said ear_of returned gathering stopped broken reset_said hearing gathered sound record_reply stored_said
looping-started = record { sound = refl; standing = refl; held = refl; run = refl; memory = (refl, refl) }

looping-table : TableTrue (in_store shorts looping) looping.1
unfolding spot_from walk_to reached within in24 signed word placed added in_speed in_offset in_back in_loop in_delay in_character in_switch in_port in_byte in_zero right_count right_z2 right_distances right_speeds hex_digit hexes twos24 report two_hex decimal digits shown from_of to_of speed_at skipped next_by pulse_of straight_pulse after_of left_of straight_left pulses steps sign_at count_after goal goal_of goal_z2 first_speed later_speed route going_to plan_of straight_plan counted in_range under_way straight_under_way behind letter_of after_address direct_of code_of stored_of digits_behind digits_of number_of parted items_of numbers_of bytes4 num_bytes encode word_at words_of front is_code count_right axes_right loop_right ranges_right speeds_right fault_of has_room store_of record_at spot_of fetch_of records_from records_of holds share around crosses early overlaps holders outside strays letter checked inside again opens looped aimed onward_of check_of verdict_of sound_of mixed reset_of heard begin_of performed ticked runs_of receiving clocking first reply_of direct_said ear_of returned gathering stopped broken reset_said hearing gathered sound record_reply stored_said
looping-table = three-true (in_store shorts looping) looping.1 refl (leb-true 3 (length looping.1.table) refl) refl refl refl

looping-program : (accepted (in_store shorts looping) looping.1.store ≡ true) × (records_of (in_store shorts looping) looping.1.store ≡ are pattern)
unfolding passes accepted sized reached within in24 signed word placed added in_speed in_offset in_back in_loop in_delay in_character in_switch in_port in_byte in_zero right_count right_z2 right_distances right_speeds hex_digit hexes twos24 report two_hex decimal digits shown from_of to_of speed_at skipped next_by pulse_of straight_pulse after_of left_of straight_left pulses steps sign_at count_after goal goal_of goal_z2 first_speed later_speed route going_to plan_of straight_plan counted in_range under_way straight_under_way behind letter_of after_address direct_of code_of stored_of digits_behind digits_of number_of parted items_of numbers_of bytes4 num_bytes encode word_at words_of front is_code count_right axes_right loop_right ranges_right speeds_right fault_of has_room store_of record_at spot_of fetch_of records_from records_of holds share around crosses early overlaps holders outside strays letter checked inside again opens looped aimed onward_of check_of verdict_of sound_of mixed reset_of heard begin_of performed ticked runs_of receiving clocking first reply_of direct_said ear_of returned gathering stopped broken reset_said hearing gathered sound record_reply stored_said
looping-program = (refl, refl)

abbrev four : List Step
four = call own ∷ call own ∷ call own ∷ call own ∷ []

pub shorts-fails : Demanded shorts → ⊥
unfolding visits after reached within in24 signed word placed added in_speed in_offset in_back in_loop in_delay in_character in_switch in_port in_byte in_zero right_count right_z2 right_distances right_speeds hex_digit hexes twos24 report two_hex decimal digits shown from_of to_of speed_at skipped next_by pulse_of straight_pulse after_of left_of straight_left pulses steps sign_at count_after goal goal_of goal_z2 first_speed later_speed route going_to plan_of straight_plan counted in_range under_way straight_under_way behind letter_of after_address direct_of code_of stored_of digits_behind digits_of number_of parted items_of numbers_of bytes4 num_bytes encode word_at words_of front is_code count_right axes_right loop_right ranges_right speeds_right fault_of has_room store_of record_at spot_of fetch_of records_from records_of holds share around crosses early overlaps holders outside strays letter checked inside again opens looped aimed onward_of check_of verdict_of sound_of mixed reset_of heard begin_of performed ticked runs_of receiving clocking first reply_of direct_said ear_of returned gathering stopped broken reset_said hearing gathered sound record_reply stored_said
shorts-fails d =
    let r : Route pattern (visits shorts looping four) =
    d.demand-2.routes (in_store shorts looping) pattern looping four looping-started looping-program.0 looping-program.1 looping-table (tt, (tt, (tt, (tt, tt)))) in
    eqb-false 1 0 refl (r.loops 2 1 1 (omega arith) refl refl (omega arith) refl).0

-- ---- a movement and two characters: behind the movement it comes to 2, not to 1

abbrev course : List Record
course = made 48 (1 ∷ 600 ∷ []) ∷ made 49 (65 ∷ []) ∷ made 49 (66 ∷ []) ∷ []

abbrev milling : Place overleaps
milling = sends overleaps (codes "@01\r@0i\r01,600\r1 65\r1 66\r9\r@0S\r")

milling-started : Started overleaps (in_store overleaps milling) milling
unfolding reached within in24 signed word placed added in_speed in_offset in_back in_loop in_delay in_character in_switch in_port in_byte in_zero right_count right_z2 right_distances right_speeds hex_digit hexes twos24 report two_hex decimal digits shown from_of to_of speed_at skipped next_by pulse_of straight_pulse after_of left_of straight_left pulses steps sign_at count_after goal goal_of goal_z2 first_speed later_speed route going_to plan_of straight_plan counted in_range under_way straight_under_way behind letter_of after_address direct_of code_of stored_of digits_behind digits_of number_of parted items_of numbers_of bytes4 num_bytes encode word_at words_of front is_code count_right axes_right loop_right ranges_right speeds_right fault_of has_room store_of record_at spot_of fetch_of records_from records_of holds share around crosses early overlaps holders outside strays letter checked inside again opens looped aimed onward_of check_of verdict_of sound_of mixed reset_of heard begin_of performed ticked runs_of receiving clocking first reply_of direct_said ear_of returned gathering stopped broken reset_said hearing gathered sound record_reply stored_said
milling-started = record { sound = refl; standing = refl; held = refl; run = refl; memory = (refl, refl) }

milling-table : TableTrue (in_store overleaps milling) milling.1
unfolding spot_from walk_to reached within in24 signed word placed added in_speed in_offset in_back in_loop in_delay in_character in_switch in_port in_byte in_zero right_count right_z2 right_distances right_speeds hex_digit hexes twos24 report two_hex decimal digits shown from_of to_of speed_at skipped next_by pulse_of straight_pulse after_of left_of straight_left pulses steps sign_at count_after goal goal_of goal_z2 first_speed later_speed route going_to plan_of straight_plan counted in_range under_way straight_under_way behind letter_of after_address direct_of code_of stored_of digits_behind digits_of number_of parted items_of numbers_of bytes4 num_bytes encode word_at words_of front is_code count_right axes_right loop_right ranges_right speeds_right fault_of has_room store_of record_at spot_of fetch_of records_from records_of holds share around crosses early overlaps holders outside strays letter checked inside again opens looped aimed onward_of check_of verdict_of sound_of mixed reset_of heard begin_of performed ticked runs_of receiving clocking first reply_of direct_said ear_of returned gathering stopped broken reset_said hearing gathered sound record_reply stored_said
milling-table = three-true (in_store overleaps milling) milling.1 refl (leb-true 3 (length milling.1.table) refl) refl refl refl

milling-program : (accepted (in_store overleaps milling) milling.1.store ≡ true) × (records_of (in_store overleaps milling) milling.1.store ≡ are course)
unfolding passes accepted sized reached within in24 signed word placed added in_speed in_offset in_back in_loop in_delay in_character in_switch in_port in_byte in_zero right_count right_z2 right_distances right_speeds hex_digit hexes twos24 report two_hex decimal digits shown from_of to_of speed_at skipped next_by pulse_of straight_pulse after_of left_of straight_left pulses steps sign_at count_after goal goal_of goal_z2 first_speed later_speed route going_to plan_of straight_plan counted in_range under_way straight_under_way behind letter_of after_address direct_of code_of stored_of digits_behind digits_of number_of parted items_of numbers_of bytes4 num_bytes encode word_at words_of front is_code count_right axes_right loop_right ranges_right speeds_right fault_of has_room store_of record_at spot_of fetch_of records_from records_of holds share around crosses early overlaps holders outside strays letter checked inside again opens looped aimed onward_of check_of verdict_of sound_of mixed reset_of heard begin_of performed ticked runs_of receiving clocking first reply_of direct_said ear_of returned gathering stopped broken reset_said hearing gathered sound record_reply stored_said
milling-program = (refl, refl)

abbrev two : List Step
two = call own ∷ call own ∷ []

pub overleaps-fails : Demanded overleaps → ⊥
unfolding visits after reached within in24 signed word placed added in_speed in_offset in_back in_loop in_delay in_character in_switch in_port in_byte in_zero right_count right_z2 right_distances right_speeds hex_digit hexes twos24 report two_hex decimal digits shown from_of to_of speed_at skipped next_by pulse_of straight_pulse after_of left_of straight_left pulses steps sign_at count_after goal goal_of goal_z2 first_speed later_speed route going_to plan_of straight_plan counted in_range under_way straight_under_way behind letter_of after_address direct_of code_of stored_of digits_behind digits_of number_of parted items_of numbers_of bytes4 num_bytes encode word_at words_of front is_code count_right axes_right loop_right ranges_right speeds_right fault_of has_room store_of record_at spot_of fetch_of records_from records_of holds share around crosses early overlaps holders outside strays letter checked inside again opens looped aimed onward_of check_of verdict_of sound_of mixed reset_of heard begin_of performed ticked runs_of receiving clocking first reply_of direct_said ear_of returned gathering stopped broken reset_said hearing gathered sound record_reply stored_said
overleaps-fails d =
    let r : Route course (visits overleaps milling two) =
    d.demand-2.routes (in_store overleaps milling) course milling two milling-started milling-program.0 milling-program.1 milling-table (tt, (tt, tt)) in
    eqb-false 2 1 refl (r.others 0 (omega arith) (eqb-false 48 51 refl) (eqb-false 48 50 refl)).0
