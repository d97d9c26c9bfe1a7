-- The table of where each record starts (02 §6): how a run finds its next record by it, when it is true, and how it is filled.
use Rattle.std.specs.Prelude.{ℕ, ◌+◌, ◌<◌, ◌≤◌, ◌≡◌, Bool, not, ◌&&◌, List, [], ◌∷◌, ◌++◌, ltb, leb, eqb, length, get_or, drop, Option, Some, None, Result, Ok, Err}
use Rattle.count.specs.Sizes.{store_bytes, most_records}
use Rattle.count.specs.Chars.{ch}
use Rattle.count.specs.Pick.{pick}
use Rattle.count.specs.declared.Refusal.{Refusal}
use Rattle.count.specs.Refusals.{number_of}
use Rattle.record.specs.declared.Held.{Held}
use Rattle.record.specs.declared.Record.{Record}
use Rattle.record.specs.declared.Found.{Found}
use Rattle.record.specs.declared.Found.TheVariants.{End, Wrong}
use Rattle.record.specs.Memory.{Memory, store_fits, table_fits}
use Rattle.record.specs.Bytes.{length_of}
use Rattle.record.specs.Places.{in_use, record_at, walk_to, Records, are, none-are, records_of, readable_of}

-- ---- the byte where a place starts

-- an entry of the table
abbrev pub entry_at : List ℕ → ℕ → Option ℕ
entry_at t place = pick (ltb place (length t)) (Some (get_or t place 0)) None

-- by the table; the end place starts where the part in use ends, and is no entry
unfoldable pub spot_of : Held → Memory → ℕ → Option ℕ
spot_of h m place =
    pick (ltb place h.records) (entry_at m.table place)
    (pick (eqb place h.records) (Some (length (in_use h m.store))) None)

-- ---- the record at a place: the one at the table's byte, if it can be read there and lies whole in the part in use. No other record is
-- looked at, and the end place is never read.

abbrev pub record_from : Option ℕ → Held → List ℕ → Found
record_from (Some at) h s = record_at h s at
record_from None h s = Wrong

unfoldable pub fetch_of : Held → Memory → ℕ → Found
fetch_of h m place = pick (eqb place h.records) End (record_from (spot_of h m place) h m.store)

-- ---- THE TABLE IS TRUE: it has an entry for each record, and entry i is where record i starts

pub record TableTrue (h : Held) (m : Memory) : Type 0 where
  pub long : h.records ≤ length m.table
  pub starts : (i : ℕ) → i < h.records → walk_to h m.store i ≡ Some (get_or m.table i 0)

-- ---- filled from a store, for a host that has kept one over a power loss

-- where each record of a list starts, the first at byte n
unfoldable pub starts_from : ℕ → List Record → List ℕ
starts_from n [] = []
starts_from n (r ∷ l) = n ∷ starts_from (n + length_of r) l

abbrev pub starts_of : Records → List ℕ
starts_of (are l) = starts_from 0 l
starts_of none-are = []

-- every entry of its records; past the count the entries stay
unfoldable pub filled : Held → Memory → List ℕ
filled h m = starts_of (records_of h m.store) ++ drop h.records m.table

-- what refuses a call, by its number; 0 where nothing does
abbrev pub refused : {A : Type 0} → Result A Refusal → ℕ
refused (Ok x) = 0
refused (Err r) = number_of r

-- the refusal or 0, and the table afterwards
pub record Filling : Type 0 where
  pub refusal : ℕ
  pub table : List ℕ

abbrev pub filling : ℕ → List ℕ → Filling
filling refusal t = record { refusal = refusal; table = t }

-- the part in use is no more than a store holds, and readable
unfoldable pub can_fill : Held → List ℕ → Bool
can_fill h s = leb h.used store_bytes && leb h.records most_records && readable_of h s

-- refused, in this order: 102, 104, and G for a store that cannot be read; the table then stays
unfoldable pub fill_of : Held → Memory → Filling
fill_of h m =
    pick (not (store_fits m)) (filling 102 m.table)
    (pick (not (table_fits m)) (filling 104 m.table)
    (pick (can_fill h m.store) (filling 0 (filled h m)) (filling (ch "G") m.table)))
