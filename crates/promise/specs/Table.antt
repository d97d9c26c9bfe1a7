-- 02 §6, of any machine and any way to join: the table of where each record starts is true over any history of calls in which the host
-- alters neither store nor table, so that finding a place by it is the walk from the front, for the end place too.
use Rattle.std.specs.Prelude.{ℕ, ◌≡◌, true, List}
use Rattle.record.specs.declared.Held.{Held}
use Rattle.record.specs.declared.Record.{Record}
use Rattle.record.specs.Memory.{Memory, memory, RightMemory}
use Rattle.record.specs.Bytes.{Below}
use Rattle.record.specs.Places.{walk_to, records_of, readable_of}
use Rattle.record.specs.Places.Records.{are}
use Rattle.record.specs.Table.{spot_of, TableTrue, fill_of}
use Rattle.program.specs.Program.{accepted}
use Rattle.board.specs.Calls.{lent}
use Rattle.promise.specs.Machine.{Machine}
use Rattle.promise.specs.Steps.{Each, reached, Along}
use Rattle.promise.specs.Stop.{Step, board_at, last}
use Rattle.promise.specs.Route.{Alone, visits, Route, Started}
use Rattle.promise.specs.Join.{Joiner}

-- the part in use, and the memory that holds it
pub record Part : Type 0 where
  pub held : Held
  pub memory : Memory

abbrev pub part : Held → Memory → Part
part h mem = record { held = h; memory = mem }

-- a memory of bytes with the right lengths; the part in use is readable, and the table true of it
pub record Kept (p : Part) : Type 0 where
  pub lengths : RightMemory p.memory
  pub bytes : Below 256 p.memory.store
  pub readable : readable_of p.held p.memory.store ≡ true
  pub table : TableTrue p.held p.memory

module _ (m : Machine) (join : Joiner) where
  -- what may come to a part: a byte and a clock call on any state that has it in use, whatever is lent as a reply buffer; and a second
  -- program put behind it
  pub data Use : Type 0 where
    hears : m.State → ℕ → List ℕ → List ℕ → Use
    ticks : m.State → Use
    joins : Held → List ℕ → Use

  abbrev pub after : Part → Use → Part
  after p (hears s v ports reply) =
      part (m.board (m.hear v ports (lent reply p.memory) s).0).engine.held (m.hear v ports (lent reply p.memory) s).1.after.memory
  after p (ticks s) = part (m.board (m.tick p.memory s).0).engine.held p.memory
  after p (joins b t) = part (join p.held p.memory b t).joined.held (join p.held p.memory b t).memory

  -- the state has the part in use; a second store is bytes
  abbrev pub Fitting : Part → Use → Type 0
  Fitting p (hears s v ports reply) = (m.board s).engine.held ≡ p.held
  Fitting p (ticks s) = (m.board s).engine.held ≡ p.held
  Fitting p (joins b t) = Below 256 t

  pub record TableRequested : Type 0 where
    -- at first nothing is in use, and any entries are true of it
    pub first : (mem : Memory) → RightMemory mem → Below 256 mem.store → Kept (part (m.board m.first).engine.held mem)
    -- so is a table that is filled from a store which the host has kept
    pub filled : (h : Held) (mem : Memory) → Below 256 mem.store → (fill_of h mem).refusal ≡ 0 → Kept (part h (memory mem.store (fill_of h mem).table))
    -- THE HISTORY THEOREM: after every stored record, emptying and join, refused or not
    pub history : (p : Part) (us : List Use) → Kept p → Along after Fitting p us → Kept (reached after p us)
    -- from the first state on, whatever bytes and clock calls come, and however they are lent
    pub steps : (mem : Memory) (es : List Step) → RightMemory mem → Below 256 mem.store → Each Alone es
        → Kept (part (board_at m (last m (m.first, mem) es)).engine.held (last m (m.first, mem) es).1)
    -- so an accepted program that is then started goes its route, and its table need not be asked for
    pub routes : (mem : Memory) (es fs : List Step) (l : List Record) → RightMemory mem → Below 256 mem.store → Each Alone es → Each Alone fs
        → Started m (board_at m (last m (m.first, mem) es)).engine.held (last m (m.first, mem) es)
        → accepted (board_at m (last m (m.first, mem) es)).engine.held (last m (m.first, mem) es).1.store ≡ true
        → records_of (board_at m (last m (m.first, mem) es)).engine.held (last m (m.first, mem) es).1.store ≡ are l
        → Route l (visits m (last m (m.first, mem) es) fs)
    -- FINDING BY THE TABLE IS THE WALK, for every place and the end place
    pub finds : (p : Part) → Kept p → (place : ℕ) → spot_of p.held p.memory place ≡ walk_to p.held p.memory.store place
