-- 02 §4 and §6, of any way to put a second program behind a first: what comes of two accepted programs is accepted, with a true table; a jump
-- to the first's end place reaches the second's start; and what is refused G of two accepted ones would not be accepted.
use Rattle.std.specs.Prelude.{ℕ, ◌<◌, true, false, List, [], ◌∷◌, ◌++◌, ◌≡◌, pos, length}
use Rattle.count.specs.Chars.{ch}
use Rattle.record.specs.declared.Held.{Held}
use Rattle.record.specs.declared.Record.{Record}
use Rattle.record.specs.Bytes.{Below}
use Rattle.record.specs.declared.Found.TheVariants.{Got}
use Rattle.record.specs.Memory.{Memory, memory}
use Rattle.record.specs.Places.{records_of}
use Rattle.record.specs.Places.Records.{are}
use Rattle.record.specs.Table.{fetch_of, TableTrue}
use Rattle.program.specs.declared.Loops.{Loops}
use Rattle.program.specs.Going.{Going, To, Waits, Wrong, Way}
use Rattle.program.specs.Program.{record_in, turn_at, target_at, accepted}
use Rattle.program.specs.Onward.{onward_of}
use Rattle.join.specs.Join.{counted, Joining, join_of}

-- the first program with its store and table, which are the destination, and the second with its store
abbrev pub Joiner : Type 0
Joiner = Held → Memory → Held → List ℕ → Joining

-- where a record sends a run, a wait once its character has come; G sends it nowhere
abbrev pub goal : Going → Way → List ℕ
goal To w = w.place ∷ []
goal Waits w = w.target ∷ []
goal Wrong w = []

module _ (join : Joiner) (a : Held) (m : Memory) (b : Held) (t : List ℕ) where
  abbrev refusal : ℕ
  refusal = (join a m b t).joined.refusal

  -- the program and the destination afterwards
  abbrev held : Held
  held = (join a m b t).joined.held

  abbrev then : Memory
  then = (join a m b t).memory

  -- the jump or wait at place p of the first leads to its end place: it stands where it stood, it leads there still, and what is found there
  -- is what the second has at place 0, by a table that is true of it
  pub record Reaches (l : List Record) (p : ℕ) : Type 0 where
    pub stands : fetch_of held then p ≡ Got (record_in l p)
    pub leads : (o : Loops) → goal (onward_of (record_in l p) p held.records o).going (onward_of (record_in l p) p held.records o) ≡ length l ∷ []
    pub start : (u : List ℕ) → TableTrue (counted b a) (memory t u) → fetch_of held then (length l) ≡ fetch_of (counted b a) (memory t u) 0

  -- of two programs that were joined, in stores of bytes
  pub record Becomes : Type 0 where
    -- the result is accepted
    pub accepts : accepted held then.store ≡ true
    -- its table is true
    pub table : TableTrue held then
    -- its records are the first's, and the second's behind them
    pub list : (l k : List Record) → records_of (counted a b) m.store ≡ are l → records_of (counted b a) t ≡ are k → records_of held then.store ≡ are (l ++ k)
    -- jumps and waits to the first's end place reach the second's start
    pub reaches : (l : List Record) (p : ℕ) → records_of (counted a b) m.store ≡ are l → p < length l → turn_at l p ≡ true → target_at l p ≡ pos (length l) → Reaches l p

  pub record JoinedSo : Type 0 where
    -- refusals, bytes and entries are the definition's
    pub follows : join a m b t ≡ join_of a m b t
    -- with a refusal the destination stays as found
    pub kept : (refusal ≡ 0 → ⊥) → (then ≡ m) × (held ≡ a)
    pub becomes : Below 256 m.store → Below 256 t → refusal ≡ 0 → Becomes
    -- G is exact: two accepted programs that are refused so would not be an accepted one, in whatever store they stood one behind the other
    pub exact : refusal ≡ ch "G" → accepted (counted a b) m.store ≡ true → accepted (counted b a) t ≡ true
        → (l k : List Record) → records_of (counted a b) m.store ≡ are l → records_of (counted b a) t ≡ are k
        → (h : Held) (u : List ℕ) → records_of h u ≡ are (l ++ k) → accepted h u ≡ false

abbrev pub JoinRequested : Joiner → Type 0
JoinRequested join = (a : Held) (m : Memory) (b : Held) (t : List ℕ) → JoinedSo join a m b t
