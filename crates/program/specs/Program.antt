-- A program as a list of records, as far as they say where to go, and what makes it an accepted one (01, "Running a program",
-- paragraph 2).
use Rattle.std.specs.Prelude.{ℕ, Bool, true, false, not, ◌&&◌, ◌||◌, List, [], ltb, leb, eqb, ℤ, pos, ◌+ℤ◌, length, get_or}
use Rattle.count.specs.Sizes.{store_bytes, most_records}
use Rattle.count.specs.Chars.{ch}
use Rattle.count.specs.Pick.{pick}
use Rattle.count.specs.Axes.{axes_set}
use Rattle.count.specs.Ranges.{nth}
use Rattle.record.specs.declared.Held.{Held}
use Rattle.record.specs.declared.Record.{Record}
use Rattle.record.specs.Bytes.{made}
use Rattle.record.specs.Places.{Records, records_of}
use Rattle.record.specs.Places.Records.{are, none-are}
use Rattle.program.specs.Verdict.{Verdict, Sound, Fault, Unreadable}
use Rattle.program.specs.Check.{checked}

-- the record at a place; behind the last there is none, and what stands for it is no loop, jump or wait
abbrev pub record_in : List Record → ℕ → Record
record_in l i = get_or l i (made 0 [])

-- ---- by place: a loop is a `3` with a number other than 0; a `3` with number 0 is a jump and a `2` is a wait

abbrev pub loop_at : List Record → ℕ → Bool
loop_at l i = eqb (record_in l i).code (ch "3") && not (eqb (get_or (record_in l i).words 0 0) 0)

abbrev pub turn_at : List Record → ℕ → Bool
turn_at l i = (eqb (record_in l i).code (ch "3") && eqb (get_or (record_in l i).words 0 0) 0) || eqb (record_in l i).code (ch "2")

-- where a loop, jump or wait leads to: own place plus offset
abbrev pub leads_to : ℕ → ℤ → ℤ
leads_to place offset = pos place +ℤ offset

-- its offset is its second number
abbrev pub target_at : List Record → ℕ → ℤ
target_at l i = leads_to i (nth (record_in l i).words 1)

unfoldable pub check_of : List Record → Verdict
check_of l = checked (loop_at l) (turn_at l) (target_at l) (length l)

-- ---- of a store: its part in use is read first. More than 1,000 records is a state that every call refuses (103).

abbrev pub verdict_on : Records → Verdict
verdict_on (are l) = check_of l
verdict_on none-are = Unreadable

unfoldable pub verdict_of : Held → List ℕ → Verdict
verdict_of h s = pick (ltb most_records h.records) Unreadable (verdict_on (records_of h s))

abbrev pub is_sound : Verdict → Bool
is_sound Sound = true
is_sound (Fault a p) = false
is_sound Unreadable = false

-- ---- an accepted program: at most 16,384 bytes and 1,000 records in use, written under axes that lines set, readable, and its check passes

unfoldable pub passes : List Record → Bool
passes l = is_sound (check_of l)

abbrev pub passing : Records → Bool
passing (are l) = passes l
passing none-are = false

-- more in use is a state that every call refuses (103)
unfoldable pub sized : Held → Bool
sized h = leb h.used store_bytes && leb h.records most_records

unfoldable pub accepted : Held → List ℕ → Bool
accepted h s = sized h && (axes_set h.axes && passing (records_of h s))
