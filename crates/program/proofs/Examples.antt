-- (3) to (6) of 01's list, what 02 §1 names and what 02 §4 refuses, computed on the definitions. Assumes nothing.
use Prim.Native.Nat.{ℕ}
use mathlib.Core.Bool.{true, false}
use mathlib.Core.List.{List, [], ◌∷◌, ◌++◌}
use mathlib.Core.Path.{◌≡◌, refl}
use lib.IntN.{pos}
use lib.ListN.{length, replicate}
use Rattle.count.specs.Paper.{Paper, says}
use Rattle.count.specs.Numbers.{signed, within}
use Rattle.record.specs.declared.Record.{Record}
use Rattle.record.specs.Bytes.{made, encode, num_bytes, bytes4, word_at, words_of, front}
use Rattle.record.specs.Places.{encode_all, records_from, records_of}
use Rattle.record.specs.Fault.{is_code, count_right, axes_right, ranges_right, speeds_right, loop_right, fault_of}
use Rattle.count.specs.Ranges.{in_offset, in_back, in_loop, in_zero, in_switch, in_character}
use Rattle.program.specs.Check.{outside, early, share, around, crosses, overlaps, holds, holders, strays, letter, checked, verdict_paper}
use Rattle.program.specs.Program.{check_of, verdict_of}
use Rattle.program.specs.Edges.{leads_out, starts_first}
use Rattle.program.specs.Onward.{no_loops, inside, again, opens, looped, aimed, onward_of, going_paper}
use Rattle.program.proofs.laws.Run.{Stands, begin, run_of, turns_of}

-- `z1`, `3 number,offset` with the offset as a word: -1 is 4,294,967,295
abbrev pub other : Record
other = made 122 (1 ∷ [])

abbrev pub three : ℕ → ℕ → Record
three number offset = made 51 (number ∷ offset ∷ [])

-- the reply at `9` on a store of these records, written under axes 7
abbrev pub reply : List Record → Paper
reply l = verdict_paper (verdict_of (record { used = length (encode_all l); records = length l; axes = 7 }) (encode_all l))

-- ---- (3) `3 25,-1` runs its record 26 times

abbrev pub spin : List Record
spin = other ∷ three 25 4294967295 ∷ []

-- the check passes; 52 records are run up to the end place, with no loop open there; the record looped over is run 26 times, the loop's
-- sends the run back to place 0 25 times and then on
pub runs-26 :
    (reply spin ≡ says 48 [])
    × (run_of spin (replicate 52 false) begin ≡ Stands 2 no_loops)
    × (length (turns_of spin 0 (replicate 52 false) begin) ≡ 26)
    × (turns_of spin 1 (replicate 50 false) begin ≡ replicate 25 0)
    × (turns_of spin 1 (replicate 52 false) (run_of spin (replicate 50 false) begin) ≡ 2 ∷ [])
unfolding encode_all encode num_bytes bytes4 verdict_of records_of records_from front words_of word_at fault_of is_code count_right axes_right ranges_right speeds_right loop_right in_offset in_back in_loop in_zero in_switch signed within check_of checked letter outside early overlaps crosses share around holders holds strays onward_of aimed looped opens again inside run_of turns_of
runs-26 = (refl, refl, refl, refl, refl)

-- ---- (4) `3 0,5` at place 0 goes to 5

pub goes-to-5 : (going_paper (onward_of (three 0 5) 0 6 no_loops).going ≡ says 4 []) × ((onward_of (three 0 5) 0 6 no_loops).place ≡ 5)
unfolding onward_of aimed inside within signed
goes-to-5 = (refl, refl)

-- ---- (5) in a two-record field, target 2 passes and 3 is G

pub target-2 : (reply (three 0 2 ∷ other ∷ []) ≡ says 48 []) × (reply (three 0 3 ∷ other ∷ []) ≡ says 71 (pos 97 ∷ pos 0 ∷ []))
unfolding encode_all encode num_bytes bytes4 verdict_of records_of records_from front words_of word_at fault_of is_code count_right axes_right ranges_right speeds_right loop_right in_offset in_back in_loop in_zero in_switch signed within check_of checked letter outside early overlaps crosses share around holders holds strays
target-2 = (refl, refl)

-- ---- (6) `3 2,-1` directly after `3 25,-1` is G: their ranges are 0 to 1 and 1 to 2, and only the overlap is at fault

pub overlap : (reply (other ∷ three 25 4294967295 ∷ three 2 4294967295 ∷ []) ≡ says 71 (pos 99 ∷ pos 2 ∷ []))
    × (reply (other ∷ three 25 4294967295 ∷ other ∷ three 2 4294967295 ∷ []) ≡ says 48 [])
unfolding encode_all encode num_bytes bytes4 verdict_of records_of records_from front words_of word_at fault_of is_code count_right axes_right ranges_right speeds_right loop_right in_offset in_back in_loop in_zero in_switch signed within check_of checked letter outside early overlaps crosses share around holders holds strays
overlap = (refl, refl)

-- ---- 02 §1: which record, and why

-- `3 0,3`, `z1`, `3 1,-5`: the range that starts too early holds places 0 to 2 all the same, so the jump to the end place crosses it
pub across : reply (three 0 3 ∷ other ∷ three 1 4294967291 ∷ []) ≡ says 71 (pos 101 ∷ pos 0 ∷ [])
unfolding encode_all encode num_bytes bytes4 verdict_of records_of records_from front words_of word_at fault_of is_code count_right axes_right ranges_right speeds_right loop_right in_offset in_back in_loop in_zero in_switch signed within check_of checked letter outside early overlaps crosses share around holders holds strays
across = refl

-- the smallest place of two, and the later loop of two whatever stands behind it
pub smallest : (reply (other ∷ three 0 9 ∷ three 0 9 ∷ []) ≡ says 71 (pos 97 ∷ pos 1 ∷ []))
    × (reply (other ∷ three 25 4294967295 ∷ three 2 4294967295 ∷ three 0 9 ∷ []) ≡ says 71 (pos 99 ∷ pos 2 ∷ []))
unfolding encode_all encode num_bytes bytes4 verdict_of records_of records_from front words_of word_at fault_of is_code count_right axes_right ranges_right speeds_right loop_right in_offset in_back in_loop in_zero in_switch signed within check_of checked letter outside early overlaps crosses share around holders holds strays
smallest = (refl, refl)

-- a jump out of eight ranges: too many hold it, which has the earlier letter; and a place that is no loop is named so too
pub eight : (reply (three 0 9 ∷ three 1 4294967295 ∷ three 1 4294967294 ∷ three 1 4294967293 ∷ three 1 4294967292 ∷ three 1 4294967291 ∷ three 1 4294967290 ∷ three 1 4294967289 ∷ three 1 4294967288 ∷ []) ≡ says 71 (pos 100 ∷ pos 0 ∷ []))
    × (reply (other ∷ three 1 4294967295 ∷ three 1 4294967294 ∷ three 1 4294967293 ∷ three 1 4294967292 ∷ three 1 4294967291 ∷ three 1 4294967290 ∷ three 1 4294967289 ∷ three 1 4294967288 ∷ []) ≡ says 71 (pos 100 ∷ pos 0 ∷ []))
unfolding encode_all encode num_bytes bytes4 verdict_of records_of records_from front words_of word_at fault_of is_code count_right axes_right ranges_right speeds_right loop_right in_offset in_back in_loop in_zero in_switch signed within check_of checked letter outside early overlaps crosses share around holders holds strays
eight = (refl, refl)

-- ---- 02 §4: a clamp check before a loop

-- `1 63`, `2 89,2`, `3 0,-2`: at Y the wait leads to the end place
abbrev pub clamp : List Record
clamp = made 49 (63 ∷ []) ∷ made 50 (89 ∷ 2 ∷ []) ∷ three 0 4294967294 ∷ []

-- behind it a program whose range starts at place 0 would be entered from outside; with a record in front of that range it is not
pub entered : (leads_out clamp ≡ true) × (starts_first spin ≡ true) × (reply (clamp ++ spin) ≡ says 71 (pos 101 ∷ pos 1 ∷ []))
    × (starts_first (other ∷ spin) ≡ false) × (reply (clamp ++ other ∷ spin) ≡ says 48 [])
unfolding encode_all encode num_bytes bytes4 verdict_of records_of records_from front words_of word_at fault_of is_code count_right axes_right ranges_right speeds_right loop_right in_offset in_back in_loop in_zero in_switch in_character signed within check_of checked letter outside early overlaps crosses share around holders holds strays leads_out starts_first
entered = (refl, refl, refl, refl, refl)
