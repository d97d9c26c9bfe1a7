-- The fakes of 02 §1, on a state that they come to from their first one: the board before, which answers a failed check with the single G,
-- fails demand 1 and the request; one that names the largest faulty place, and one that names the later letter of a place, fail the request.
-- Assumes nothing.
use Prim.Native.Nat.{ℕ, suc}
use native.Mathlib.Omega.{arith}
use mathlib.Core.List.{List, [], ◌∷◌, ◌++◌}
use mathlib.Core.Path.{◌≡◌, refl, sym, ap, subst}
use borrow.Author.Tests.{eqb-false}
use lib.ListN.{get_or, length, drop, replicate}
use Rattle.count.specs.Chars.{codes}
use Rattle.count.specs.Numbers.{within, in24, signed, word, placed, added}
use Rattle.count.specs.Ranges.{in_speed, in_offset, in_back, in_loop, in_delay, in_character, in_switch, in_port, in_byte, in_zero, right_count, right_z2, right_distances, right_speeds}
use Rattle.count.specs.Text.{hex_digit, hexes, twos24, report, two_hex, decimal, digits, shown, decimals, four_digits}
use Rattle.motion.specs.Next.{from_of, to_of, speed_at, skipped, next_by, pulse_of as straight_pulse, after_of, left_of as straight_left}
use Rattle.motion.specs.Phase.{pulses, steps, sign_at, count_after}
use Rattle.motion.specs.Plan.{goal, goal_of, goal_z2, first_speed, later_speed, route, going_to, plan_of as straight_plan}
use Rattle.motion.specs.Sound.{counted, in_range, under_way as straight_under_way}
use Rattle.travel.specs.Next.{pulse_of, left_of}
use Rattle.travel.specs.Plan.{plan_of}
use Rattle.travel.specs.Sound.{under_way}
use Rattle.line.specs.Lines.{behind, letter_of, after_address, direct_of, code_of, stored_of}
use Rattle.line.specs.Numbers.{digits_behind, digits_of, number_of, parted, items_of, numbers_of}
use Rattle.record.specs.Bytes.{made, bytes4, num_bytes, encode, word_at, words_of, front}
use Rattle.record.specs.Fault.{is_code, count_right, axes_right, loop_right, ranges_right, speeds_right, fault_of}
use Rattle.record.specs.Keep.{has_room, store_of}
use Rattle.record.specs.Places.{record_at, records_from, records_of}
use Rattle.record.specs.Table.{spot_of, fetch_of}
use Rattle.program.specs.Check.{holds, share, around, crosses, early, overlaps, holders, outside, strays, letter, checked}
use Rattle.program.specs.Onward.{inside, again, opens, looped, aimed, onward_of}
use Rattle.program.specs.Program.{check_of, verdict_of}
use Rattle.engine.specs.Sound.{sound_of}
use Rattle.engine.specs.State.{mixed, reset_of, heard, begin_of}
use Rattle.engine.specs.Tick.{performed, ticked, runs_of}
use Rattle.board.specs.Calls.{lent, receiving, clocking}
use Rattle.board.specs.Direct.{first, reply_of, direct_said}
use Rattle.board.specs.Receive.{ear_of, returned, gathering, stopped, broken, reset_said, hearing}
use Rattle.board.specs.State.{gathered, sound}
use Rattle.board.specs.Storing.{record_reply, stored_said}
use Rattle.count.proofs.laws.Truth.{never}
use Rattle.count.proofs.laws.Digits.{four-one}
use Rattle.record.specs.declared.Held.{Held}
use Rattle.record.specs.declared.Record.{Record}
use Rattle.record.specs.Places.Records.{are}
use Rattle.promise.specs.Machine.{Machine, Event, after_all}
use Rattle.promise.specs.Demands.{end_line}
use Rattle.promise.specs.Named.{faulty, Named, EndReply, passed, failed, unreadable}
use Rattle.promise.specs.Demanded.{Demanded, Requested}
use Rattle.promise.specs.Fakes.{bare, largest, later}
use Rattle.promise.proofs.laws.FakesTyped.{reply0, with_store, typed_on}

-- ---- a program of two jumps behind its end and a loop around them, typed in with a store that has its bytes: a and e hold at places 0 and 1

abbrev jump : List ℕ
jump = 0xD7 ∷ 0x2B ∷ 51 ∷ 2 ∷ 0 ∷ 0 ∷ 0 ∷ 0 ∷ 9 ∷ 0 ∷ 0 ∷ 0 ∷ []

abbrev loop : List ℕ
loop = 0xD7 ∷ 0x2B ∷ 51 ∷ 2 ∷ 1 ∷ 0 ∷ 0 ∷ 0 ∷ 254 ∷ 255 ∷ 255 ∷ 255 ∷ []

abbrev stored : List ℕ
stored = jump ++ jump ++ loop ++ replicate 16348 0

abbrev events : List Event
events = typed_on (with_store stored) (codes "@01\r@0i\r3 0,9\r3 0,9\r3 1,-2\r9")

abbrev reached : (m : Machine) → m.State
reached m = after_all m events m.first

abbrev held3 : Held
held3 = record { used = 36; records = 3; axes = 1 }

abbrev items : List Record
items = made 51 (0 ∷ 9 ∷ []) ∷ made 51 (0 ∷ 9 ∷ []) ∷ made 51 (1 ∷ 4294967294 ∷ []) ∷ []

reads : records_of held3 stored ≡ are items
unfolding within in24 signed word placed added in_speed in_offset in_back in_loop in_delay in_character in_switch in_port in_byte in_zero right_count right_z2 right_distances right_speeds hex_digit hexes twos24 report two_hex decimal digits shown decimals four_digits from_of to_of speed_at skipped next_by pulse_of straight_pulse after_of left_of straight_left pulses steps sign_at count_after goal goal_of goal_z2 first_speed later_speed route going_to plan_of straight_plan counted in_range under_way straight_under_way behind letter_of after_address direct_of code_of stored_of digits_behind digits_of number_of parted items_of numbers_of bytes4 num_bytes encode word_at words_of front is_code count_right axes_right loop_right ranges_right speeds_right fault_of has_room store_of record_at spot_of fetch_of records_from records_of holds share around crosses early overlaps holders outside strays letter checked inside again opens looped aimed onward_of check_of verdict_of sound_of mixed reset_of heard begin_of performed ticked runs_of receiving clocking first reply_of direct_said ear_of returned gathering stopped broken reset_said hearing gathered sound record_reply stored_said
reads = refl

-- ---- what a reply of G says of a store that is readable

-- with five characters behind it: their fault
record Six (l : List Record) (a : ℕ) (d : List ℕ) : Type 0 where
  place : ℕ
  digits : d ≡ four_digits place
  named : Named l a place

module _ (h : Held) (store : List ℕ) (l : List Record) (r : records_of h store ≡ are l) where
  six : (a : ℕ) (d : List ℕ) → EndReply h store (71 ∷ a ∷ d) → Six l a d
  six a d (passed m q f e) = absurd (eqb-false 71 48 refl (ap (λ (x : List ℕ). get_or x 0 0) e))
  six a d (failed m b p q n e) =
      let k : l ≡ m = cc in
      let i : a ≡ b = ap (λ (x : List ℕ). get_or x 1 0) e in
      record { place = p; digits = ap (λ (x : List ℕ). drop 2 x) e; named = rw (k, i) n }
  six a d (unreadable q e) = let z : ◌≡◌ {A = ℕ} 0 1 = cc in absurd (omega arith)

  -- alone: nothing
  alone : EndReply h store (71 ∷ []) → ⊥
  alone (passed m q f e) = eqb-false 71 48 refl (ap (λ (x : List ℕ). get_or x 0 0) e)
  alone (failed m b p q n e) = let z : 1 ≡ suc (suc (length (four_digits p))) = ap length e in omega arith
  alone (unreadable q e) = let z : ◌≡◌ {A = ℕ} 0 1 = cc in omega arith

-- ---- the single G

-- demand 1: at the end line the fault is named
pub bare-fails : Demanded bare → ⊥
unfolding after_all end_line within in24 signed word placed added in_speed in_offset in_back in_loop in_delay in_character in_switch in_port in_byte in_zero right_count right_z2 right_distances right_speeds hex_digit hexes twos24 report two_hex decimal digits shown decimals four_digits from_of to_of speed_at skipped next_by pulse_of straight_pulse after_of left_of straight_left pulses steps sign_at count_after goal goal_of goal_z2 first_speed later_speed route going_to plan_of straight_plan counted in_range under_way straight_under_way behind letter_of after_address direct_of code_of stored_of digits_behind digits_of number_of parted items_of numbers_of bytes4 num_bytes encode word_at words_of front is_code count_right axes_right loop_right ranges_right speeds_right fault_of has_room store_of record_at spot_of fetch_of records_from records_of holds share around crosses early overlaps holders outside strays letter checked inside again opens looped aimed onward_of check_of verdict_of sound_of mixed reset_of heard begin_of performed ticked runs_of receiving clocking first reply_of direct_said ear_of returned gathering stopped broken reset_said hearing gathered sound record_reply stored_said
bare-fails d =
    let u = d.demand-1.refused-line [] (lent reply0 (with_store stored)) (reached bare) 71 [] refl refl (eqb-false 71 48 refl) in
    eqb-false 0 5 refl (ap length (u.named refl))

-- 02 §1: a single G is an unreadable store's
pub bare-requested-fails : Requested bare → ⊥
unfolding after_all end_line within in24 signed word placed added in_speed in_offset in_back in_loop in_delay in_character in_switch in_port in_byte in_zero right_count right_z2 right_distances right_speeds hex_digit hexes twos24 report two_hex decimal digits shown decimals four_digits from_of to_of speed_at skipped next_by pulse_of straight_pulse after_of left_of straight_left pulses steps sign_at count_after goal goal_of goal_z2 first_speed later_speed route going_to plan_of straight_plan counted in_range under_way straight_under_way behind letter_of after_address direct_of code_of stored_of digits_behind digits_of number_of parted items_of numbers_of bytes4 num_bytes encode word_at words_of front is_code count_right axes_right loop_right ranges_right speeds_right fault_of has_room store_of record_at spot_of fetch_of records_from records_of holds share around crosses early overlaps holders outside strays letter checked inside again opens looped aimed onward_of check_of verdict_of sound_of mixed reset_of heard begin_of performed ticked runs_of receiving clocking first reply_of direct_said ear_of returned gathering stopped broken reset_said hearing gathered sound record_reply stored_said
bare-requested-fails d = alone held3 stored items reads (d.end-names [] (lent reply0 (with_store stored)) (reached bare) refl refl)

-- ---- a at place 1: place 0 has it too

not-largest : Six items 97 (codes "0001") → ⊥
unfolding faulty outside within signed decimals four_digits
not-largest s =
    let e : 1 ≡ s.place = four-one 1 s.place (omega arith) (omega (arith, s.named.place)) s.digits in
    never (sym (s.named.smallest 0 97 (omega arith)))

pub largest-fails : Requested largest → ⊥
unfolding after_all end_line within in24 signed word placed added in_speed in_offset in_back in_loop in_delay in_character in_switch in_port in_byte in_zero right_count right_z2 right_distances right_speeds hex_digit hexes twos24 report two_hex decimal digits shown decimals four_digits from_of to_of speed_at skipped next_by pulse_of straight_pulse after_of left_of straight_left pulses steps sign_at count_after goal goal_of goal_z2 first_speed later_speed route going_to plan_of straight_plan counted in_range under_way straight_under_way behind letter_of after_address direct_of code_of stored_of digits_behind digits_of number_of parted items_of numbers_of bytes4 num_bytes encode word_at words_of front is_code count_right axes_right loop_right ranges_right speeds_right fault_of has_room store_of record_at spot_of fetch_of records_from records_of holds share around crosses early overlaps holders outside strays letter checked inside again opens looped aimed onward_of check_of verdict_of sound_of mixed reset_of heard begin_of performed ticked runs_of receiving clocking first reply_of direct_said ear_of returned gathering stopped broken reset_said hearing gathered sound record_reply stored_said
largest-fails d = not-largest (six held3 stored items reads 97 (codes "0001") (d.end-names [] (lent reply0 (with_store stored)) (reached largest) refl refl))

-- ---- e at place 0: it has a too

not-later : Six items 101 (codes "0000") → ⊥
unfolding faulty outside within signed decimals four_digits
not-later s =
    let e : 0 ≡ s.place = four-one 0 s.place (omega arith) (omega (arith, s.named.place)) s.digits in
    let n : Named items 101 0 = subst (λ (p : ℕ). Named items 101 p) (sym e) s.named in
    never (sym (n.earliest 97 (omega arith)))

pub later-fails : Requested later → ⊥
unfolding after_all end_line faulty within in24 signed word placed added in_speed in_offset in_back in_loop in_delay in_character in_switch in_port in_byte in_zero right_count right_z2 right_distances right_speeds hex_digit hexes twos24 report two_hex decimal digits shown decimals four_digits from_of to_of speed_at skipped next_by pulse_of straight_pulse after_of left_of straight_left pulses steps sign_at count_after goal goal_of goal_z2 first_speed later_speed route going_to plan_of straight_plan counted in_range under_way straight_under_way behind letter_of after_address direct_of code_of stored_of digits_behind digits_of number_of parted items_of numbers_of bytes4 num_bytes encode word_at words_of front is_code count_right axes_right loop_right ranges_right speeds_right fault_of has_room store_of record_at spot_of fetch_of records_from records_of holds share around crosses early overlaps holders outside strays letter checked inside again opens looped aimed onward_of check_of verdict_of sound_of mixed reset_of heard begin_of performed ticked runs_of receiving clocking first reply_of direct_said ear_of returned gathering stopped broken reset_said hearing gathered sound record_reply stored_said
later-fails d = not-later (six held3 stored items reads 101 (codes "0000") (d.end-names [] (lent reply0 (with_store stored)) (reached later) refl refl))
