-- The calls with their refusals (01, "Calls"; 02 §6): 101, 102, 103, 104 in this order; a refused call returns the state given, with no
-- reply or the answer nothing, and writes to no buffer.
use Rattle.std.specs.Prelude.{ℕ, false, not, List, ◌++◌, ltb, eqb, ℤ, pos, length, drop, Result, Ok, Err}
use Rattle.count.specs.Sizes.{store_bytes, reply_bytes}
use Rattle.count.specs.Pick.{pick}
use Rattle.count.specs.Numbers.{full, value}
use Rattle.motion.specs.declared.Counters.{Counters}
use Rattle.travel.specs.Next.{pulse_of}
use Rattle.record.specs.Memory.{Memory, store_fits, table_fits}
use Rattle.record.specs.Table.{fetch_of, refused as refused_by}
use Rattle.record.specs.Listing.{Telling, telling, list_of}
use Rattle.engine.specs.declared.Answer.{Answer}
use Rattle.engine.specs.declared.Answer.TheVariants as answer
use Rattle.engine.specs.declared.Told.{Told}
use Rattle.engine.specs.State as state
use Rattle.engine.specs.Tick.{ticked}
use Rattle.board.specs.declared.Board.{Board}
use Rattle.board.specs.declared.Received.{Received as HeardBy}
use Rattle.board.specs.declared.Ticked.{Ticked as TickedBy}
use Rattle.count.specs.declared.Refusal.{Refusal}
use Rattle.board.specs.declared.Point.{Point}
use Rattle.board.specs.State.{board, no_line, sound, Said}
use Rattle.board.specs.Receive.{hearing}

-- ---- receiving a byte

-- what it is lent: a reply buffer and the memory
pub record Lent : Type 0 where
  pub reply : List ℕ
  pub memory : Memory

abbrev pub lent : List ℕ → Memory → Lent
lent reply m = record { reply = reply; memory = m }

-- the next state, the bytes of the reply, and the refusal's number or 0
pub record Received : Type 0 where
  pub board : Board
  pub len : ℕ
  pub refusal : ℕ

-- the result, and what was lent afterwards
pub record Outcome : Type 0 where
  pub result : Received
  pub after : Lent

abbrev pub did : Received → Lent → Outcome
did r l = record { result = r; after = l }

abbrev pub refused : ℕ → Board → Lent → Outcome
refused n b l = did (record { board = b; len = 0; refusal = n }) l

-- bytes past a reply stay
abbrev pub answered : Said → List ℕ → Outcome
answered s reply =
    did (record { board = s.board; len = length s.reply; refusal = 0 }) (lent (s.reply ++ drop (length s.reply) reply) s.memory)

unfoldable pub receiving : ℕ → List ℕ → Board → Lent → Outcome
receiving byte ports b l =
    pick (ltb (length l.reply) reply_bytes) (refused 101 b l)
    (pick (not (store_fits l.memory)) (refused 102 b l)
    (pick (not (sound b)) (refused 103 b l)
    (pick (not (table_fits l.memory)) (refused 104 b l) (answered (hearing byte ports b l.memory) l.reply))))

-- ---- a clock call

-- the next state, the answer, and the refusal's number or 0
pub record Ticked : Type 0 where
  pub board : Board
  pub answer : Answer
  pub refusal : ℕ

abbrev pub clocked : ℕ → Board → Answer → Ticked
clocked n b a = record { board = b; answer = a; refusal = n }

abbrev pub went_on : Board → Told → Ticked
went_on b t = clocked 0 (board t.engine b.standing b.line) t.answer

-- what stands stopped answers nothing and changes nothing; else the engine's call, by 01's formula, on the records that the table finds
unfoldable pub clocking : Board → Memory → Ticked
clocking b m =
    pick (not (store_fits m)) (clocked 102 b answer.Nothing)
    (pick (not (sound b)) (clocked 103 b answer.Nothing)
    (pick (not (table_fits m)) (clocked 104 b answer.Nothing)
    (pick b.standing (clocked 0 b answer.Nothing) (went_on b (ticked pulse_of (fetch_of b.engine.held m) b.engine)))))

-- ---- as the code answers them: what refuses a call stands in place of its reply or its answer

abbrev pub len_in : Result ℕ Refusal → ℕ
len_in (Ok n) = n
len_in (Err r) = 0

abbrev pub received : HeardBy → Received
received r = record { board = r.board; len = len_in r.reply; refusal = refused_by r.reply }

abbrev pub answer_in : Result Answer Refusal → Answer
answer_in (Ok a) = a
answer_in (Err r) = answer.Nothing

abbrev pub clocked_by : TickedBy → Ticked
clocked_by t = record { board = t.board; answer = answer_in t.answer; refusal = refused_by t.answer }

-- ---- the lister: 102, 103, 106, then G

unfoldable pub listing : Board → List ℕ → List ℕ → Telling
listing b store text =
    pick (not (eqb (length store) store_bytes)) (telling 102 0 text)
    (pick (not (sound b)) (telling 103 0 text) (list_of b.engine.held store text))

-- ---- a fresh board, and positions and origins as numbers

abbrev pub fresh : Board
fresh = board state.fresh false no_line

-- 0 where a count is not of 24 bits, which no sound board has
abbrev pub number_of : ℕ → ℤ
number_of c = pick (ltb c full) (value c) (pos 0)

abbrev pub point : Counters → Point
point c = record { x = number_of c.x; y = number_of c.y; z = number_of c.z; a = number_of c.a }
