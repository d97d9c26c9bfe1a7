-- Demand 2 in its smallest form: a machine that a host reads as a board does what the definitions say of that board.
use Rattle.std.specs.Prelude.{ℕ, List, ◌≡◌}
use Rattle.record.specs.Memory.{Memory}
use Rattle.board.specs.Calls.{Lent, receiving, clocking, listing, fresh}
use Rattle.promise.specs.Machine.{Machine, heard_by, clocked_by}

-- demand 2: the first state is a fresh board, and what a byte, a clock call and the lister come to is what the definitions say of the
-- board that a host reads
pub record Follows (m : Machine) : Type 0 where
  pub starts : m.board m.first ≡ fresh
  pub hears : (v : ℕ) (ports : List ℕ) (l : Lent) (s : m.State) →
      (m.hear v ports l s).1 ≡ heard_by (receiving v ports (m.board s) l)
  pub heard : (v : ℕ) (ports : List ℕ) (l : Lent) (s : m.State) →
      m.board (m.hear v ports l s).0 ≡ (receiving v ports (m.board s) l).result.board
  pub ticks : (mem : Memory) (s : m.State) → (m.tick mem s).1 ≡ clocked_by (clocking (m.board s) mem)
  pub ticked : (mem : Memory) (s : m.State) → m.board (m.tick mem s).0 ≡ (clocking (m.board s) mem).board
  pub lists : (store text : List ℕ) (s : m.State) → m.list store text s ≡ listing (m.board s) store text
