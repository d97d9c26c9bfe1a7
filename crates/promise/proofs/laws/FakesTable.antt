-- Two tables that are not true (02 §6): a machine that enters the start of the next record, and a way to join that leaves the table as it
-- was, fail the history theorem, each by one record. The second fails the request to join (02 §4) too. Assumes nothing.
use Rattle.std.specs.Prelude.{Option, Some, None}
use Prim.Native.Nat.{ℕ}
use mathlib.Core.List.{List, [], ◌∷◌}
use mathlib.Core.Path.{refl, ap}
use borrow.Author.Tests.{eqb-false, ltb-true}
use lib.ListN.{replicate}
use Rattle.count.specs.Chars.{codes}
use Rattle.count.specs.Numbers.{within, signed, word}
use Rattle.count.specs.Ranges.{in_delay, in_character}
use Rattle.motion.specs.Sound.{counted}
use Rattle.line.specs.Lines.{behind, letter_of, after_address, direct_of, code_of, stored_of}
use Rattle.line.specs.Numbers.{digits_behind, digits_of, number_of, parted, items_of, numbers_of}
use Rattle.record.specs.declared.Held.{Held}
use Rattle.record.specs.Memory.{Memory, memory}
use Rattle.record.specs.Bytes.{bytes4, num_bytes, encode, word_at, words_of, front}
use Rattle.record.specs.Fault.{is_code, count_right, axes_right, loop_right, ranges_right, speeds_right, fault_of}
use Rattle.record.specs.Keep.{has_room, store_of}
use Rattle.record.specs.Places.{spot_from, walk_to, records_from, records_of}
use Rattle.program.specs.Check.{holds, early, overlaps, holders, outside, strays, letter, checked}
use Rattle.program.specs.Program.{check_of, passes, sized, accepted}
use Rattle.program.specs.Edges.{leads_out, starts_first}
use Rattle.join.specs.Join.{axes_beside, counted as counted_beside, stores_right, both_accepted, enters_range, room_right, refusal_of, both, end_to_end, joined_memory, join_of}
use Rattle.join.specs.Join as join
use Rattle.engine.specs.Sound.{sound_of}
use Rattle.board.specs.Calls.{receiving}
use Rattle.board.specs.Direct.{first, reply_of, direct_said}
use Rattle.board.specs.Receive.{ear_of, returned, gathering, hearing}
use Rattle.board.specs.State.{gathered, sound}
use Rattle.board.specs.Storing.{record_reply, stored_said}
use Rattle.course.specs.Walk.{no_memory}
use Rattle.promise.specs.Machine.{ours}
use Rattle.promise.specs.Steps.{Each, reached}
use Rattle.promise.specs.Stop.{Place, board_at, last}
use Rattle.promise.specs.Route.{Alone}
use Rattle.promise.specs.Join.{Joiner, JoinRequested}
use Rattle.promise.specs.Table.{Part, part, Kept, joins, TableRequested}
use Rattle.promise.specs.FakesStore.{enters_after, leaves_table}
use Rattle.promise.proofs.laws.KeepsStored.{none_kept}
use Rattle.promise.proofs.laws.FakesTyped.{steps_of}
use Rattle.promise.proofs.laws.FakesBytes.{zeros-below}
use Rattle.promise.proofs.laws.FakesJoin.{in_store, letter_a, holding, stored-below}

-- the byte of a spot
abbrev byte_of : Option ℕ → ℕ
byte_of (Some n) = n
byte_of None = 0

-- ---- one that enters the next start: the first record's entry is 8, whatever the way to join

alone-all : (t : List ℕ) → Each Alone (steps_of t)
alone-all [] = tt
alone-all (v ∷ t) = (tt, alone-all t)

abbrev delay : List ℕ
delay = codes "@01\r@0i\r5 1\r"

abbrev typed : Place enters_after
typed = last enters_after (enters_after.first, no_memory) (steps_of delay)

pub enters_after-fails : (way : Joiner) → TableRequested enters_after way → ⊥
unfolding reached within signed word in_delay counted behind letter_of after_address direct_of code_of stored_of digits_behind digits_of number_of parted items_of numbers_of bytes4 num_bytes encode is_code count_right axes_right ranges_right speeds_right has_room store_of spot_from walk_to sound_of receiving first reply_of direct_said ear_of returned gathering hearing gathered sound record_reply stored_said
enters_after-fails way d =
    let k = d.steps no_memory (steps_of delay) (refl, refl) (zeros-below 16384) (alone-all delay) in
    eqb-false 0 8 refl (ap byte_of (k.table.starts 0 (ltb-true 0 (board_at enters_after typed).engine.held.records refl)))

-- ---- one that leaves the table: behind an empty part whose entries are 9, a character's entry is 9

abbrev nines : Memory
nines = memory (in_store []) (replicate 1000 9)

abbrev nothing : Part
nothing = part (holding 0 0) nines

nothing-kept : Kept nothing
nothing-kept = none_kept (holding 0 0) nines refl refl (refl, refl) (stored-below [] refl)

abbrev joined : Held
joined = (leaves_table (holding 0 0) nines (holding 8 1) (in_store letter_a)).joined.held

pub leaves_table-fails : TableRequested ours leaves_table → ⊥
unfolding reached within signed in_character word_at words_of front is_code count_right axes_right loop_right ranges_right speeds_right fault_of spot_from walk_to records_from records_of holds early overlaps holders outside strays letter checked check_of passes sized accepted leads_out starts_first axes_beside counted_beside stores_right join.axes_right both_accepted enters_range room_right refusal_of both end_to_end joined_memory join_of
leaves_table-fails d =
    let k = d.history nothing (joins (holding 8 1) (in_store letter_a) ∷ []) nothing-kept (stored-below letter_a refl, tt) in
    eqb-false 0 9 refl (ap byte_of (k.table.starts 0 (ltb-true 0 joined.records refl)))

pub leaves_table-joins-wrong : JoinRequested leaves_table → ⊥
unfolding within signed in_character word_at words_of front is_code count_right axes_right loop_right ranges_right speeds_right fault_of spot_from walk_to records_from records_of holds early overlaps holders outside strays letter checked check_of passes sized accepted leads_out starts_first axes_beside counted_beside stores_right join.axes_right both_accepted enters_range room_right refusal_of both end_to_end joined_memory join_of
leaves_table-joins-wrong d =
    let k = (d (holding 0 0) nines (holding 8 1) (in_store letter_a)).becomes (stored-below [] refl) (stored-below letter_a refl) refl in
    eqb-false 0 9 refl (ap byte_of (k.table.starts 0 (ltb-true 0 joined.records refl)))
