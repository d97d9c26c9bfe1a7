-- A machine: anything that hears bytes and clock calls and that a host can read as a board. The demands speak of any machine; ours is
-- the one that the definitions of the board and of its runs make.
use Rattle.std.specs.Prelude.{ℕ, List, [], ◌∷◌}
use Rattle.count.specs.Paper.{Paper}
use Rattle.engine.specs.State.{paper}
use Rattle.record.specs.Memory.{Memory}
use Rattle.record.specs.Listing.{Telling}
use Rattle.board.specs.declared.Board.{Board}
use Rattle.board.specs.Calls.{Ticked}
use Rattle.board.specs.Calls.{Lent, Outcome, receiving, clocking, listing, fresh}
use Rattle.course.specs.Run.{course}

-- what hearing a byte comes to beside the next state: the length of the reply, the refusal's number or 0, and what was lent afterwards
pub record Heard : Type 0 where
  pub len : ℕ
  pub refusal : ℕ
  pub after : Lent

-- what a clock call comes to beside the next state: its answer on paper, and the refusal's number or 0
pub record Clocked : Type 0 where
  pub answer : Paper
  pub refusal : ℕ

pub record Machine : Type 1 where
  -- its states, what a host reads of one, and the first
  pub State : Type 0
  pub board : State → Board
  pub first : State
  -- a byte with the input ports and what is lent
  pub hear : ℕ → List ℕ → Lent → State → State × Heard
  -- a clock call with the memory that is lent
  pub tick : Memory → State → State × Clocked
  -- a run of at most so many clock calls, with the number of calls that it says it used
  pub go : ℕ → Memory → State → State × ℕ
  -- the lister with the store and the text buffer that are lent: it is only told of the state, so it changes nothing of it
  pub list : List ℕ → List ℕ → State → Telling

-- ---- ours

abbrev pub heard_by : Outcome → Heard
heard_by o = record { len = o.result.len; refusal = o.result.refusal; after = o.after }

abbrev pub clocked_by : Ticked → Clocked
clocked_by t = record { answer = paper t.answer; refusal = t.refusal }

abbrev pub ours : Machine
ours = record {
  State = Board;
  board = λ b. b;
  first = fresh;
  hear = λ byte ports l b. ((receiving byte ports b l).result.board, heard_by (receiving byte ports b l));
  tick = λ mem b. ((clocking b mem).board, clocked_by (clocking b mem));
  go = λ limit mem b. ((course limit mem b).board, (course limit mem b).calls);
  list = λ store text b. listing b store text;
}

-- ---- what happens to a machine: bytes with their ports and clock calls, each with what the host lends

pub data Event : Type 0 where
  byte : ℕ → List ℕ → Lent → Event
  clock : Memory → Event

module _ (m : Machine) where
  abbrev pub next : Event → m.State → m.State
  next (byte b ports l) s = (m.hear b ports l s).0
  next (clock mem) s = (m.tick mem s).0

  unfoldable pub after_all : List Event → m.State → m.State
  after_all [] s = s
  after_all (e ∷ es) s = after_all es (next e s)
