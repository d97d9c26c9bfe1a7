-- Storing a record (01, "Lines", reply 6; "Calls", the paragraph under the table; 02 §6): it is written at the end of the part in use, its
-- start into its entry of the table, and nothing else changes; reply 6 if it would exceed 1,000 records or 16,384 bytes.
use Rattle.std.specs.Prelude.{ℕ, ◌+◌, ◌++◌, Bool, true, false, ◌&&◌, Option, Some, None, length, take, drop, set, leb}
use Rattle.count.specs.Sizes.{store_bytes, most_records}
use Rattle.count.specs.Pick.{pick}
use Rattle.record.specs.declared.Held.{Held}
use Rattle.record.specs.declared.Record.{Record}
use Rattle.record.specs.Memory.{Memory, memory}
use Rattle.record.specs.Bytes.{encode}

-- whether it was stored, and the part in use afterwards
pub record Kept : Type 0 where
  pub stored : Bool
  pub held : Held

-- as it is answered: a part in use that is longer, or none where there was no room
abbrev pub kept : Held → Option Held → Kept
kept h (Some l) = record { stored = true; held = l }
kept h None = record { stored = false; held = h }

-- what storing comes to, and the memory afterwards
pub record Storing : Type 0 where
  pub kept : Kept
  pub memory : Memory

abbrev pub storing : Kept → Memory → Storing
storing k m = record { kept = k; memory = m }

abbrev pub longer : Held → ℕ → Held
longer h n = record { used = h.used + n; records = h.records + 1; axes = h.axes }

-- there is room: at most 1,000 records and 16,384 bytes, and the lent store and table have them
unfoldable pub has_room : Held → ℕ → ℕ → ℕ → Bool
has_room h n size entries = leb (h.records + 1) most_records && leb (h.used + n) store_bytes && leb (h.used + n) size && leb (h.records + 1) entries

-- the store and the table with the record
abbrev pub with_record : Held → Record → Memory → Memory
with_record h r m =
    memory (take h.used m.store ++ encode r ++ drop (h.used + length (encode r)) m.store) (set m.table h.records h.used)

unfoldable pub store_of : Held → Record → Memory → Storing
store_of h r m =
    pick (has_room h (length (encode r)) (length m.store) (length m.table))
    (storing (record { stored = true; held = longer h (length (encode r)) }) (with_record h r m))
    (storing (record { stored = false; held = h }) m)
