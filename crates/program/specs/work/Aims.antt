-- Stands in contracts of functions that are not exported: nothing of it need be believed. Where a record leads, with offsets counted from
-- -32,768, so that every offset of a right record is a natural number. Its laws: proofs/laws/Marks.antt.
use Rattle.std.specs.Prelude.{ℕ, ◌+◌, ◌-◌, Bool, true, false, List, eqb, ℤ, pos, negsuc, length, get_or}
use Rattle.count.specs.Pick.{pick}
use Rattle.count.specs.Ranges.{nth}
use Rattle.record.specs.declared.Record.{Record}
use Rattle.program.specs.Verdict.{Verdict}
use Rattle.program.specs.Program.{record_in}
use Rattle.program.specs.work.Marks.{checked}

pub data Aim : Type 0 where
  goes : Aim
  jumps : ℕ → Aim
  waits : ℕ → Aim
  loops : ℕ → ℕ → Aim

abbrev pub shift : ℤ → ℕ
shift (pos n) = n + 32768
shift (negsuc n) = 32767 - n

unfoldable pub aim_of : Record → Aim
aim_of r =
    pick (eqb r.code 51)
    (pick (eqb (get_or r.words 0 0) 0) (jumps (shift (nth r.words 1))) (loops (get_or r.words 0 0) (shift (nth r.words 1))))
    (pick (eqb r.code 50) (waits (shift (nth r.words 1))) goes)

abbrev pub is_loop : Aim → Bool
is_loop goes = false
is_loop (jumps o) = false
is_loop (waits o) = false
is_loop (loops c o) = true

abbrev pub is_turn : Aim → Bool
is_turn goes = false
is_turn (jumps o) = true
is_turn (waits o) = true
is_turn (loops c o) = false

abbrev pub offset_of : Aim → ℕ
offset_of goes = 0
offset_of (jumps o) = o
offset_of (waits o) = o
offset_of (loops c o) = o

-- ---- of a list of records, by place

abbrev pub aim_at : List Record → ℕ → Aim
aim_at l i = aim_of (record_in l i)

abbrev pub loop_at : List Record → ℕ → Bool
loop_at l i = is_loop (aim_at l i)

abbrev pub turn_at : List Record → ℕ → Bool
turn_at l i = is_turn (aim_at l i)

-- the mark of the target
abbrev pub far_at : List Record → ℕ → ℕ
far_at l i = i + offset_of (aim_at l i)

unfoldable pub marked_of : List Record → Verdict
marked_of l = checked (loop_at l) (turn_at l) (far_at l) (length l)
