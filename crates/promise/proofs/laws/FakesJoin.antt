-- The fakes of 02 §4: a way to join that refuses what would be accepted, one that writes though it refuses, and one that rewrites offsets
-- fail the request, each in another sentence of it. Assumes nothing.
use Prim.Native.Nat.{ℕ}
use mathlib.Core.Bool.{Bool, true, ◌&&◌}
use mathlib.Core.List.{List, [], ◌∷◌}
use mathlib.Core.Path.{◌≡◌, refl, sym, ap}
use native.Mathlib.Omega.{arith}
use borrow.Author.Tests.{ltb-true, eqb-false}
use lib.Dec.{ltb}
use lib.ListN.{get_or, replicate}
use Rattle.count.specs.Numbers.{within, signed, word}
use Rattle.count.specs.Ranges.{in_offset, in_loop, in_character, in_zero}
use Rattle.count.specs.Words.{pad}
use Rattle.count.proofs.laws.Truth.{never, and_parts}
use Rattle.record.specs.declared.Held.{Held}
use Rattle.record.specs.declared.Record.{Record}
use Rattle.record.specs.Memory.{Memory, memory}
use Rattle.record.specs.Bytes.{made, bytes4, num_bytes, encode, word_at, words_of, front, Below}
use Rattle.record.specs.Fault.{is_code, count_right, axes_right, loop_right, ranges_right, speeds_right, fault_of}
use Rattle.record.specs.Places.{Records, records_from, records_of, encode_all}
use Rattle.record.specs.Places.Records.{are, none-are}
use Rattle.record.proofs.laws.Below.{below_none, below-cons, below-pad}
use Rattle.program.specs.Check.{holds, early, overlaps, holders, outside, strays, letter, checked}
use Rattle.program.specs.Program.{record_in, check_of, passes, sized, accepted}
use Rattle.program.specs.Edges.{leads_out, starts_first}
use Rattle.join.specs.Join.{axes_beside, counted, stores_right, both_accepted, enters_range, room_right, refusal_of, both, end_to_end, joined_memory, join_of}
use Rattle.join.specs.Join as join
use Rattle.promise.specs.Join.{JoinRequested}
use Rattle.promise.specs.FakesStore.{any_end, writes_first, moves_offsets}

-- ---- programs of one record, under axes 1, each in a store of 16,384 bytes, a first one with a table of 1,000 entries beside it

abbrev pub in_store : List ℕ → List ℕ
in_store l = pad 16384 l

abbrev in_memory : List ℕ → Memory
in_memory l = memory (in_store l) (replicate 1000 0)

-- 3 0,1: a jump to its own end place
abbrev jump : List ℕ
jump = 0xD7 ∷ 0x2B ∷ 51 ∷ 2 ∷ 0 ∷ 0 ∷ 0 ∷ 0 ∷ 1 ∷ 0 ∷ 0 ∷ 0 ∷ []

-- 1 65: a character
abbrev pub letter_a : List ℕ
letter_a = 0xD7 ∷ 0x2B ∷ 49 ∷ 1 ∷ 65 ∷ 0 ∷ 0 ∷ 0 ∷ []

abbrev pub holding : ℕ → ℕ → Held
holding used records = record { used = used; records = records; axes = 1 }

abbrev jumps : List Record
jumps = made 51 (0 ∷ 1 ∷ []) ∷ []

abbrev sends_a : List Record
sends_a = made 49 (65 ∷ []) ∷ []

-- ---- one that refuses every jump to the end place: that jump alone is an accepted program, and so it is with nothing behind it

pub any_end-fails : JoinRequested any_end → ⊥
unfolding within signed in_offset in_loop in_zero word_at words_of front is_code count_right axes_right loop_right ranges_right speeds_right fault_of records_from records_of holds early overlaps holders outside strays letter checked check_of passes sized accepted leads_out starts_first axes_beside counted stores_right join.axes_right both_accepted enters_range room_right refusal_of
any_end-fails d =
    let x = (d (holding 12 1) (in_memory jump) (holding 0 0) (in_store [])).exact refl refl refl jumps [] refl refl (holding 12 1) (in_store jump) refl in
    never (sym x)

-- ---- one that writes first: axes 3 behind axes 1 are refused, and the byte behind the first's part in use is no longer 0

pub writes_first-fails : JoinRequested writes_first → ⊥
unfolding axes_beside stores_right join.axes_right refusal_of end_to_end joined_memory join_of
writes_first-fails d =
    let x = ((d (holding 12 1) (in_memory jump) (record { used = 12; records = 1; axes = 3 }) (in_store jump)).kept (eqb-false 51 0 refl)).0 in
    eqb-false 0xD7 0 refl (ap (λ (m : Memory). get_or m.store 12 0) x)

-- ---- one that moves offsets: the jump behind the character has the offset 2

-- bytes, all of them
abbrev all_bytes : List ℕ → Bool
all_bytes [] = true
all_bytes (x ∷ l) = ltb x 256 && all_bytes l

bytes_below : (l : List ℕ) → all_bytes l ≡ true → Below 256 l
bytes_below [] e = below_none 256 (omega arith)
bytes_below (x ∷ l) e =
    let d = and_parts (ltb x 256) (all_bytes l) e in
    below-cons 256 (omega arith) x l (ltb-true _ _ d.0) (bytes_below l d.1)

pub stored-below : (l : List ℕ) → all_bytes l ≡ true → Below 256 (in_store l)
stored-below l e = below-pad 256 (omega arith) 16384 l (bytes_below l e)

-- the offset at place 1
abbrev offset_there : Records → ℕ
offset_there (are l) = get_or (record_in l 1).words 1 0
offset_there none-are = 0

pub moves_offsets-fails : JoinRequested moves_offsets → ⊥
unfolding within signed word in_offset in_loop in_character in_zero bytes4 num_bytes encode word_at words_of front is_code count_right axes_right loop_right ranges_right speeds_right fault_of records_from records_of encode_all holds early overlaps holders outside strays letter checked check_of passes sized accepted leads_out starts_first axes_beside counted stores_right join.axes_right both_accepted enters_range room_right refusal_of both
moves_offsets-fails d =
    let x = ((d (holding 8 1) (in_memory letter_a) (holding 12 1) (in_store jump)).becomes (stored-below letter_a refl) (stored-below jump refl) refl).list sends_a jumps refl refl in
    eqb-false 2 1 refl (ap offset_there x)
