-- Places and the part in use (01, "Store"; "Running a program", sentence 1): records lie end to end and count from 0; the end place is
-- their count and is never read. A whole store is read, and the table made true, by walking from the front, where every record passed is
-- right; nothing is found by searching for a mark. How a run finds its next record is said in `Table.antt`.
use Rattle.std.specs.Prelude.{ℕ, zero, suc, ◌+◌, List, [], ◌∷◌, ◌++◌, Bool, true, false, Option, Some, None, take, drop, ltb, pos}
use Rattle.count.specs.Chars.{ch}
use Rattle.count.specs.Pick.{pick}
use Rattle.count.specs.Paper.{Paper, says}
use Rattle.record.specs.declared.Held.{Held}
use Rattle.record.specs.declared.Record.{Record}
use Rattle.record.specs.declared.Found.{Found}
use Rattle.record.specs.declared.Found.TheVariants.{Got, End, Wrong}
use Rattle.record.specs.Bytes.{front, length_of, encode}

-- the part in use
abbrev pub in_use : Held → List ℕ → List ℕ
in_use h s = take h.used s

-- ---- the record at a byte, which knows no places

unfoldable pub record_at : Held → List ℕ → ℕ → Found
record_at h s at = front h.axes (drop at (in_use h s))

-- ---- the walk from the front

abbrev pub past : Found → (ℕ → Option ℕ) → Option ℕ
past (Got r) f = f (length_of r)
past End f = None
past Wrong f = None

-- the byte where the record k places behind byte `at` starts
unfoldable pub spot_from : ℕ → ℕ → List ℕ → ℕ → Option ℕ
spot_from axes zero s at = Some at
spot_from axes (suc k) s at = past (front axes (drop at s)) (λ n. spot_from axes k s (at + n))

-- the byte where a place starts: past every record before it; the end place starts behind the last record
unfoldable pub walk_to : Held → List ℕ → ℕ → Option ℕ
walk_to h s place = pick (ltb h.records place) None (spot_from h.axes place (in_use h s) 0)

-- ---- readable: the part in use is exactly its count of records, each right

pub data Records : Type 0 where
  are : List Record → Records
  none-are : Records

abbrev pub onto : Record → Records → Records
onto r (are l) = are (r ∷ l)
onto r none-are = none-are

abbrev pub then : Found → (Record → Records) → Records
then (Got r) f = onto r (f r)
then End f = none-are
then Wrong f = none-are

unfoldable pub records_from : ℕ → ℕ → List ℕ → Records
records_from axes zero [] = are []
records_from axes zero (b ∷ s) = none-are
records_from axes (suc k) s = then (front axes s) (λ r. records_from axes k (drop (length_of r) s))

unfoldable pub records_of : Held → List ℕ → Records
records_of h s = records_from h.axes h.records (in_use h s)

abbrev pub is_list : Records → Bool
is_list (are l) = true
is_list none-are = false

unfoldable pub readable_of : Held → List ℕ → Bool
readable_of h s = is_list (records_of h s)

-- the bytes of a list of records, end to end
unfoldable pub encode_all : List Record → List ℕ
encode_all [] = []
encode_all (r ∷ l) = encode r ++ encode_all l

-- ---- on paper: what cannot be found and read is G; the end place sends 0; a record or a byte is its own number

abbrev pub found_paper : Found → Paper
found_paper (Got r) = says 4 []
found_paper End = says (ch "0") []
found_paper Wrong = says (ch "G") []

abbrev pub spot_paper : Option ℕ → Paper
spot_paper (Some at) = says 4 (pos at ∷ [])
spot_paper None = says (ch "G") []
