-- A board that answers every line as ours does and loses the bytes at the end line fails the round trip. Assumes nothing.
use Prim.Native.Nat.{ℕ, zero, suc, ◌<◌, ◌≤◌}
use native.Mathlib.Omega.{arith}
use mathlib.Core.Bool.{true}
use mathlib.Core.List.{List, ◌∷◌}
use mathlib.Core.Path.{◌≡◌, refl, ap}
use borrow.Author.Tests.{eqb-false, leb-true}
use lib.ListN.{get_or, length, replicate}
use Rattle.count.specs.Chars.{codes}
use Rattle.count.specs.Numbers.{within, in24, signed, word, placed, added}
use Rattle.count.specs.Ranges.{in_speed, in_offset, in_back, in_loop, in_delay, in_character, in_switch, in_port, in_byte, in_zero, right_count, right_z2, right_distances, right_speeds}
use Rattle.count.specs.Text.{hex_digit, hexes, twos24, report, two_hex, decimal, digits, shown}
use Rattle.motion.specs.Next.{from_of, to_of, speed_at, skipped, next_by, pulse_of as straight_pulse, after_of, left_of as straight_left}
use Rattle.motion.specs.Phase.{pulses, steps, sign_at, count_after}
use Rattle.motion.specs.Plan.{goal, goal_of, goal_z2, first_speed, later_speed, route, going_to, plan_of as straight_plan}
use Rattle.motion.specs.Sound.{counted, in_range, under_way as straight_under_way}
use Rattle.travel.specs.Next.{pulse_of, left_of}
use Rattle.travel.specs.Plan.{plan_of}
use Rattle.travel.specs.Sound.{under_way}
use Rattle.line.specs.Lines.{behind, letter_of, after_address, direct_of, code_of, stored_of}
use Rattle.line.specs.Numbers.{digits_behind, digits_of, number_of, parted, items_of, numbers_of}
use Rattle.record.specs.Bytes.{bytes4, num_bytes, encode, word_at, words_of, front}
use Rattle.record.specs.Fault.{is_code, count_right, axes_right, loop_right, ranges_right, speeds_right, fault_of}
use Rattle.record.specs.Keep.{has_room, store_of}
use Rattle.record.specs.Places.{record_at, records_from, records_of}
use Rattle.record.specs.Table.{spot_of, fetch_of}
use Rattle.program.specs.Check.{holds, share, around, crosses, early, overlaps, holders, outside, strays, letter, checked}
use Rattle.program.specs.Onward.{inside, again, opens, looped, aimed, onward_of}
use Rattle.program.specs.Program.{check_of, verdict_of}
use Rattle.engine.specs.Sound.{sound_of}
use Rattle.engine.specs.State.{mixed, reset_of, heard, begin_of}
use Rattle.engine.specs.Tick.{performed, ticked, runs_of}
use Rattle.board.specs.Calls.{receiving, clocking}
use Rattle.board.specs.Direct.{first, reply_of, direct_said}
use Rattle.board.specs.Receive.{ear_of, returned, gathering, stopped, broken, reset_said, hearing}
use Rattle.board.specs.State.{gathered, sound}
use Rattle.board.specs.Storing.{record_reply, stored_said}
use Rattle.record.specs.Bytes.{Below}
use Rattle.record.proofs.laws.Below.{below-cons}
use Rattle.record.specs.Listing.{more, numbers_text, line_text, list_text, list_of}
use Rattle.program.specs.Program.{passes, sized, accepted}
use Rattle.board.specs.Calls.{listing}
use Rattle.course.specs.Walk.{no_ports, no_memory}
use Rattle.promise.specs.Machine.{Event, after_all}
use Rattle.promise.specs.Demands.{ticks, Host, sent, ListedAgain}
use Rattle.promise.specs.Demanded.{Demanded}
use Rattle.promise.specs.Fakes.{loses_bytes}
use Rattle.promise.proofs.laws.FakesTyped.{with_store, typed_on}

-- ---- a program of one delay, typed in with a store that has its bytes

abbrev written : List ℕ
written = 0xD7 ∷ 0x2B ∷ 53 ∷ 1 ∷ 1 ∷ 0 ∷ 0 ∷ 0 ∷ replicate 16376 0

abbrev events : List Event
events = typed_on (with_store written) (codes "@01\r@0i\r5 1\r9\r")

abbrev page : List ℕ
page = replicate 32768 0

abbrev host : Host
host = record { ports = λ i. no_ports; reply = λ i. replicate 32 0; calls = λ i. 0; room = λ i. omega arith }

zeros : (k j : ℕ) → get_or (replicate k 0) j 0 < 256
zeros zero j = omega arith
zeros (suc k) zero = omega arith
zeros (suc k) (suc j) = zeros k j

pub zeros-below : (k : ℕ) → Below 256 (replicate k 0)
zeros-below k = record { at = zeros k }

written_below : Below 256 written
written_below =
    let c : (x : ℕ) (l : List ℕ) → x < 256 → Below 256 l → Below 256 (x ∷ l) = below-cons 256 (omega arith) in
    c 0xD7 _ (omega arith) (c 0x2B _ (omega arith) (c 53 _ (omega arith) (c 1 _ (omega arith) (c 1 _ (omega arith)
    (c 0 _ (omega arith) (c 0 _ (omega arith) (c 0 _ (omega arith) (zeros-below 16376))))))))

accepts : accepted (loses_bytes.board (after_all loses_bytes events loses_bytes.first)).engine.held written ≡ true
unfolding after_all passes accepted sized within in24 signed word placed added in_speed in_offset in_back in_loop in_delay in_character in_switch in_port in_byte in_zero right_count right_z2 right_distances right_speeds hex_digit hexes twos24 report two_hex decimal digits shown from_of to_of speed_at skipped next_by pulse_of straight_pulse after_of left_of straight_left pulses steps sign_at count_after goal goal_of goal_z2 first_speed later_speed route going_to plan_of straight_plan counted in_range under_way straight_under_way behind letter_of after_address direct_of code_of stored_of digits_behind digits_of number_of parted items_of numbers_of bytes4 num_bytes encode word_at words_of front is_code count_right axes_right loop_right ranges_right speeds_right fault_of has_room store_of record_at spot_of fetch_of records_from records_of holds share around crosses early overlaps holders outside strays letter checked inside again opens looped aimed onward_of check_of verdict_of sound_of mixed reset_of heard begin_of performed ticked runs_of receiving clocking first reply_of direct_said ear_of returned gathering stopped broken reset_said hearing gathered sound record_reply stored_said
accepts = refl

room : 32768 ≤ length page
room = leb-true 32768 (length page) refl

pub loses_bytes-fails : Demanded loses_bytes → ⊥
unfolding after_all sent ticks listing list_of more numbers_text line_text list_text within in24 signed word placed added in_speed in_offset in_back in_loop in_delay in_character in_switch in_port in_byte in_zero right_count right_z2 right_distances right_speeds hex_digit hexes twos24 report two_hex decimal digits shown from_of to_of speed_at skipped next_by pulse_of straight_pulse after_of left_of straight_left pulses steps sign_at count_after goal goal_of goal_z2 first_speed later_speed route going_to plan_of straight_plan counted in_range under_way straight_under_way behind letter_of after_address direct_of code_of stored_of digits_behind digits_of number_of parted items_of numbers_of bytes4 num_bytes encode word_at words_of front is_code count_right axes_right loop_right ranges_right speeds_right fault_of has_room store_of record_at spot_of fetch_of records_from records_of holds share around crosses early overlaps holders outside strays letter checked inside again opens looped aimed onward_of check_of verdict_of sound_of mixed reset_of heard begin_of performed ticked runs_of receiving clocking first reply_of direct_said ear_of returned gathering stopped broken reset_said hearing gathered sound record_reply stored_said
loses_bytes-fails d =
    let r : ListedAgain loses_bytes written page no_memory host (after_all loses_bytes events loses_bytes.first) =
    d.demand-2.round_trip events written page no_memory host refl written_below accepts room (refl, refl) (zeros-below 16384) in
    eqb-false 0 0xD7 refl (ap (λ (s : List ℕ). get_or s 0 0) r.restored.bytes)
