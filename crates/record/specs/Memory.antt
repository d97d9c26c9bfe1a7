-- What a board keeps outside itself from call to call, and is lent by its host: the store, and beside it the table of where each record
-- starts (02 §6), with one entry for each of the 1,000 records that a store can hold.
use Rattle.std.specs.Prelude.{ℕ, ◌≡◌, Bool, List, eqb, length}
use Rattle.count.specs.Sizes.{store_bytes, most_records}

pub record Memory : Type 0 where
  pub store : List ℕ
  pub table : List ℕ

abbrev pub memory : List ℕ → List ℕ → Memory
memory store table = record { store = store; table = table }

-- as every call asks for it: a store of 16,384 bytes and a table of 1,000 entries
abbrev pub RightMemory : Memory → Type 0
RightMemory m = (length m.store ≡ store_bytes) × (length m.table ≡ most_records)

-- 102: the store is lent with 16,384 bytes; 104: the table is lent with 1,000 entries
abbrev pub store_fits : Memory → Bool
store_fits m = eqb (length m.store) store_bytes

abbrev pub table_fits : Memory → Bool
table_fits m = eqb (length m.table) most_records
