-- A second program put behind a first (02, §4 and §6): its bytes behind the first's, nothing rewritten, since every offset counts from its
-- own place, and every entry of the table written. Refused, in this order: 102, 104, 3, G, 6; the destination then stays as found.
use Rattle.std.specs.Prelude.{ℕ, ◌+◌, Bool, not, ◌&&◌, ◌||◌, List, ◌++◌, Result, Ok, Err, leb, eqb, length, drop}
use Rattle.count.specs.Sizes.{store_bytes, most_records}
use Rattle.count.specs.Chars.{ch}
use Rattle.count.specs.Pick.{pick}
use Rattle.count.specs.declared.Refusal.{Refusal}
use Rattle.count.specs.Refusals.{number_of}
use Rattle.record.specs.declared.Held.{Held}
use Rattle.record.specs.Memory.{Memory, memory, table_fits}
use Rattle.record.specs.Places.{in_use, records_of}
use Rattle.record.specs.Table.{filled}
use Rattle.count.specs.Axes.{axes_set}
use Rattle.program.specs.Program.{accepted}
use Rattle.program.specs.Edges.{leads_out, starts_first, of_these}

-- ---- the axes

-- an empty program has no records
abbrev pub is_empty : Held → Bool
is_empty h = eqb h.records 0

-- it counts as of the other's axes, where that one is not empty
unfoldable pub axes_beside : Held → Held → ℕ
axes_beside h other = pick (is_empty h && not (is_empty other)) other.axes h.axes

unfoldable pub counted : Held → Held → Held
counted h other = record { used = h.used; records = h.records; axes = axes_beside h other }

-- ---- the refusals; `a` in the store s is the first program, `b` in the store t the second. The destination m is s with its table.

-- 102: both stores are lent with 16,384 bytes
unfoldable pub stores_right : List ℕ → List ℕ → Bool
stores_right s t = eqb (length s) store_bytes && eqb (length t) store_bytes

-- 3: the axes are the same, and allowed
unfoldable pub axes_right : Held → Held → Bool
axes_right a b = eqb (axes_beside a b) (axes_beside b a) && axes_set (axes_beside a b)

-- G: both are accepted
unfoldable pub both_accepted : Held → List ℕ → Held → List ℕ → Bool
both_accepted a s b t = accepted (counted a b) s && accepted (counted b a) t

-- G: a jump or wait of the first leads to its end place, while a range of the second starts at place 0
unfoldable pub enters_range : Held → List ℕ → Held → List ℕ → Bool
enters_range a s b t = of_these leads_out (records_of (counted a b) s) && of_these starts_first (records_of (counted b a) t)

-- 6: together at most 1,000 records and 16,384 bytes
unfoldable pub room_right : Held → Held → Bool
room_right a b = leb (a.records + b.records) most_records && leb (a.used + b.used) store_bytes

-- the first that applies, or 0
unfoldable pub refusal_of : Held → Memory → Held → List ℕ → ℕ
refusal_of a m b t =
    pick (not (stores_right m.store t)) 102
    (pick (not (table_fits m)) 104
    (pick (not (axes_right a b)) (ch "3")
    (pick (not (both_accepted a m.store b t) || enters_range a m.store b t) (ch "G")
    (pick (not (room_right a b)) (ch "6") 0))))

-- ---- the joined program

unfoldable pub both : Held → Held → Held
both a b = record { used = a.used + b.used; records = a.records + b.records; axes = axes_beside a b }

-- the first's part in use, the second's behind it, and behind that the destination's bytes as they were
unfoldable pub end_to_end : Held → List ℕ → Held → List ℕ → List ℕ
end_to_end a s b t = in_use a s ++ in_use b t ++ drop (a.used + b.used) s

-- and the table with an entry for each of its records, the first's too; past them the entries stay
unfoldable pub joined_memory : Held → Memory → Held → List ℕ → Memory
joined_memory a m b t = memory (end_to_end a m.store b t) (filled (both a b) (memory (end_to_end a m.store b t) m.table))

-- ---- what joining comes to, and the destination afterwards

-- the refusal, or 0; and the joined program, or with a refusal the first as it was
pub record Joined : Type 0 where
  pub refusal : ℕ
  pub held : Held

pub record Joining : Type 0 where
  pub joined : Joined
  pub memory : Memory

abbrev pub joining : Joined → Memory → Joining
joining j m = record { joined = j; memory = m }

-- a refusal gives the first program back
abbrev pub answer : ℕ → Held → Joined
answer refusal h = record { refusal = refusal; held = h }

-- as it is answered
abbrev pub outcome : Held → Result Held Refusal → Joined
outcome a (Ok h) = answer 0 h
outcome a (Err r) = answer (number_of r) a

unfoldable pub join_of : Held → Memory → Held → List ℕ → Joining
join_of a m b t =
    pick (eqb (refusal_of a m b t) 0) (joining (answer 0 (both a b)) (joined_memory a m b t)) (joining (answer (refusal_of a m b t) a) m)
