-- Demand 3 as predicates over any machine: a stopped run goes on as if it had never been stopped (00, demand 3; 01, "Running a program",
-- last paragraph).
use Rattle.std.specs.Prelude.{ℕ, ◌≤◌, ◌<◌, Bool, true, false, not, ◌&&◌, ◌||◌, List, [], ◌∷◌, ◌++◌, map, ◌≡◌, leb, eqb, ltb, ℤ, length, take, drop}
use Rattle.count.specs.Sizes.{reply_bytes}
use Rattle.count.specs.Chars.{ch}
use Rattle.count.specs.Pick.{pick}
use Rattle.count.specs.Paper.{Paper, says}
use Rattle.record.specs.Memory.{Memory, RightMemory}
use Rattle.engine.specs.declared.Engine.{Engine}
use Rattle.engine.specs.declared.Job.{Job}
use Rattle.engine.specs.Kinds.{kind, row_of}
use Rattle.board.specs.declared.Board.{Board}
use Rattle.line.specs.Lines.{letter_paper, direct_of}
use Rattle.board.specs.State.{board, no_line, text_of, sound}
use Rattle.board.specs.Direct.{reply_of}
use Rattle.board.specs.Receive.{stop_code, reset_code}
use Rattle.board.specs.Calls.{Lent, lent}
use Rattle.promise.specs.Machine.{Machine, Heard, Event, after_all}
use Rattle.promise.specs.Demands.{is_waiting, idles}
use Rattle.promise.specs.Steps.{Each, reached, shown, Along, kept_of}

-- ---- schedules: received bytes with their ports, and clock calls. Each is lent a reply buffer of any length and either the one memory,
-- as the call before it left it, or another.

pub data Lending : Type 0 where
  own : Lending
  other : Memory → Lending

pub data Step : Type 0 where
  receive : ℕ → List ℕ → List ℕ → Lending → Step
  call : Lending → Step

-- the one memory is altered by nobody else: whatever else is lent has a store or a table of another length, and every call with it is
-- refused, 102, 103 or 104
abbrev pub Elsewhere : Lending → Type 0
Elsewhere own = Unit
Elsewhere (other t) = RightMemory t → ⊥

abbrev pub is_own : Lending → Bool
is_own own = true
is_own (other t) = false

-- not refused for what is lent: a reply buffer of at least 32 bytes and the one memory
abbrev pub rightly : Step → Bool
rightly (receive v ports reply d) = leb reply_bytes (length reply) && is_own d
rightly (call d) = is_own d

-- anything but break and reset, whatever is lent; a break or reset that is refused for what is lent may come too
abbrev pub Mild : Step → Type 0
Mild (receive v ports reply d) = (leb reply_bytes (length reply) && is_own d ≡ true → v < reset_code) × Elsewhere d
Mild (call d) = Elsewhere d

abbrev pub Mildly : List Step → Type 0
Mildly es = Each Mild es

-- a step that is no stop
abbrev pub Unstopped : Step → Type 0
Unstopped (receive v ports reply d) = v < stop_code
Unstopped (call d) = Unit

-- ---- what counts, by the board at that moment

-- idle or storing: nothing runs and nothing waits
abbrev pub rests_by : Job → Bool
rests_by j = (row_of (kind j)).is_resting

-- in a wait, whether it stands or not
abbrev pub in_wait : Board → Bool
in_wait b = is_waiting b.engine.run.job

abbrev pub rests : Board → Bool
rests b = rests_by b.engine.run.job

-- a clock call counts if the board then runs: it does not stand, wait, and is not idle or storing
abbrev pub counts : Board → Bool
counts b = not b.standing && not (in_wait b || rests b)

-- a byte from 0 to 252 is taken if the board then waits, or nothing runs, and nothing stands
abbrev pub takes : Board → Bool
takes b = not b.standing && (in_wait b || rests b)

-- in a delay: between its first and its last pause
abbrev pub delays_by : Job → Bool
delays_by j = (row_of (kind j)).is_pausing

-- a stop holds a running movement or program, but not in a delay
abbrev pub stoppable : Board → Bool
stoppable b = counts b && not (delays_by b.engine.run.job)

-- the run is over, or waits for a character: no clock call counts, and nothing stands
abbrev pub over : Board → Bool
over b = not b.standing && (in_wait b || rests b)

-- ---- the answers of clock calls on paper: the answer nothing, 5, is left out; a pulse without its speed; the speeds of the pulses

abbrev pub spoken : Paper → List Paper
spoken a = pick (eqb a.number 5) [] (a ∷ [])

abbrev pub unsped : Paper → Paper
unsped a = pick (eqb a.number 1) (says 1 (take 4 a.values)) a

abbrev pub speed_of : Paper → List ℤ
speed_of a = pick (eqb a.number 1) (drop 4 a.values) []

abbrev pub speeds_of : List Paper → List ℤ
speeds_of [] = []
speeds_of (a ∷ l) = speed_of a ++ speeds_of l

-- what a run leaves beside the memory: positions, origins, output, 3D, plane and direction, axes, the store's part in use, job, place, loops
abbrev pub final : Board → Engine
final b = b.engine

module _ (m : Machine) where
  -- a machine and the one memory
  abbrev pub Place : Type 0
  Place = m.State × Memory

  abbrev pub board_at : Place → Board
  board_at p = m.board p.0

  -- the memory that a step is lent, and the one memory after it
  abbrev pub lent_to : Place → Lending → Memory
  lent_to p own = p.1
  lent_to p (other t) = t

  abbrev pub memory_after : Place → Lending → Memory → Memory
  memory_after p own t = t
  memory_after p (other u) t = p.1

  abbrev pub ahead : Place → Step → Place
  ahead p (receive v ports reply d) =
      ((m.hear v ports (lent reply (lent_to p d)) p.0).0, memory_after p d (m.hear v ports (lent reply (lent_to p d)) p.0).1.after.memory)
  ahead p (call d) = ((m.tick (lent_to p d) p.0).0, p.1)

  abbrev pub answer_of : Place → Step → List Paper
  answer_of p (receive v ports reply d) = []
  answer_of p (call d) = spoken (m.tick (lent_to p d) p.0).1.answer

  -- a call that is refused for what is lent counts for nothing
  abbrev pub count_of : Place → Step → List Step
  count_of p (receive v ports reply d) = []
  count_of p (call d) = pick (is_own d && counts (board_at p)) (call own ∷ []) []

  abbrev pub byte_of : Place → Step → List ℕ
  byte_of p (receive v ports reply d) = pick (rightly (receive v ports reply d) && (ltb v stop_code && takes (board_at p))) (v ∷ []) []
  byte_of p (call d) = []

  -- a schedule's last place, its clock answers other than nothing, its clock calls that count, and the bytes taken
  abbrev pub last : Place → List Step → Place
  last p es = reached ahead p es

  abbrev pub answers : Place → List Step → List Paper
  answers p es = shown ahead answer_of p es

  abbrev pub counted : Place → List Step → ℕ
  counted p es = length (shown ahead count_of p es)

  abbrev pub taken : Place → List Step → List ℕ
  taken p es = shown ahead byte_of p es

  -- a direct movement or a started program is under way on a sound board, nothing stands, no line is begun; any memory
  pub record Begun (p : Place) : Type 0 where
    pub sound : sound (board_at p) ≡ true
    pub runs : rests (board_at p) ≡ false
    pub standing : (board_at p).standing ≡ false
    pub line : (board_at p).line ≡ no_line
    pub memory : RightMemory p.1

  -- ---- the same run: the clock answers other than nothing, with the axes of the pulses; the speeds of the pulses; the engine
  -- (positions, origins, output, 3D, plane and direction, axes, the store's part in use, job, place, loops); the memory
  pub record Same (p : Place) (es fs : List Step) : Type 0 where
    pub axes : map unsped (answers p es) ≡ map unsped (answers p fs)
    pub speeds : speeds_of (answers p es) ≡ speeds_of (answers p fs)
    pub engine : final (board_at (last p es)) ≡ final (board_at (last p fs))
    pub memory : (last p es).1 ≡ (last p fs).1

  -- DEMAND 3. Two schedules with as many clock calls that count and the same bytes taken are the same run, wherever they are stopped,
  -- whatever is sent while it stands, and however often.
  abbrev pub StopChangesNothing : Type 0
  StopChangesNothing =
      (p : Place) (es fs : List Step) → Begun p → Mildly es → Mildly fs →
      counted p es ≡ counted p fs → taken p es ≡ taken p fs → Same p es fs

  -- for a run that ends: both schedules are followed until it is over (or waits), however many clock calls that takes
  abbrev pub SameWhenOver : Type 0
  SameWhenOver =
      (p : Place) (es fs : List Step) → Begun p → Mildly es → Mildly fs →
      over (board_at (last p es)) ≡ true → over (board_at (last p fs)) ≡ true → taken p es ≡ taken p fs → Same p es fs

  -- for a run without end: the longer schedule's answers begin with the shorter one's
  pub record Begins (p : Place) (es fs : List Step) : Type 0 where
    pub more_axes : List Paper
    pub more_speeds : List ℤ
    pub axes : map unsped (answers p fs) ≡ map unsped (answers p es) ++ more_axes
    pub speeds : speeds_of (answers p fs) ≡ speeds_of (answers p es) ++ more_speeds

  abbrev pub SameAsFarAsFollowed : Type 0
  SameAsFarAsFollowed =
      (p : Place) (es fs : List Step) (later : List ℕ) → Begun p → Mildly es → Mildly fs →
      counted p es ≤ counted p fs → taken p fs ≡ taken p es ++ later → Begins p es fs

  -- ---- the same schedule never stopped: its stops, all that comes while it stands, the bytes that are dropped, and the calls that are
  -- refused for what is lent left out
  abbrev pub stays : Place → Step → Bool
  stays p (receive v ports reply d) = rightly (receive v ports reply d) && (ltb v stop_code && takes (board_at p))
  stays p (call d) = is_own d && not (board_at p).standing

  abbrev pub unstopped : Place → List Step → List Step
  unstopped p es = kept_of ahead stays (λ e. e) p es

  -- it is a schedule without a stop, has as many clock calls that count and the same bytes taken, and never stands
  pub record NeverStopped (p : Place) (es fs : List Step) : Type 0 where
    pub mild : Mildly fs
    pub unstopped : Each Unstopped fs
    pub counted : counted p fs ≡ counted p es
    pub taken : taken p fs ≡ taken p es
    pub stands : Along ahead (λ q e. (board_at q).standing ≡ false) p fs
    pub last : (board_at (last p fs)).standing ≡ false

  abbrev pub StopsCanBeLeftOut : Type 0
  StopsCanBeLeftOut = (p : Place) (es : List Step) → Begun p → Mildly es → NeverStopped p es (unstopped p es)

  -- ---- demand 3 is not empty. A stop, at every moment that 01 allows, stands and sends F; at every other it does nothing.
  pub record Called (p : Place) : Type 0 where
    pub sound : sound (board_at p) ≡ true
    pub memory : RightMemory p.1

  abbrev pub heard_at : ℕ → List ℕ → List ℕ → Place → m.State × Heard
  heard_at v ports reply p = m.hear v ports (lent reply p.1) p.0

  pub record Comes (got : m.State × Heard) (to : Board) (said lent : List ℕ) (mem : Memory) : Type 0 where
    pub board : m.board got.0 ≡ to
    pub len : got.1.len ≡ length said
    pub refusal : got.1.refusal ≡ 0
    pub reply : got.1.after.reply ≡ said ++ drop (length said) lent
    pub memory : got.1.after.memory ≡ mem

  abbrev pub StopHolds : Type 0
  StopHolds =
      (p : Place) (ports reply : List ℕ) → Called p → reply_bytes ≤ length reply → stoppable (board_at p) ≡ true →
      Comes (heard_at stop_code ports reply p) (board (board_at p).engine true (board_at p).line) (ch "F" ∷ []) reply p.1

  abbrev pub StopElseDoesNothing : Type 0
  StopElseDoesNothing =
      (p : Place) (ports reply : List ℕ) → Called p → reply_bytes ≤ length reply → stoppable (board_at p) ≡ false →
      Comes (heard_at stop_code ports reply p) (board_at p) [] reply p.1

  -- an accepted S goes on with the very engine that stood, and sends nothing
  abbrev pub StartGoesOn : Type 0
  StartGoesOn =
      (p : Place) (ports reply : List ℕ) → Called p → reply_bytes ≤ length reply → (board_at p).standing ≡ true → (board_at p).line.over ≡ false →
      (letter_paper (direct_of (text_of (board_at p).line)).letter).number ≡ ch "S" →
      reply_of (board_at p).engine true (direct_of (text_of (board_at p).line)) ≡ ch "0" →
      Comes (heard_at (ch "\r") ports reply p) (board (board_at p).engine false no_line) [] reply p.1

  -- ---- where a run begins: from the first state on, after any events, with whatever was lent

  -- where something runs, waits or stands, axes are set; and no line is begun unless it stands
  abbrev pub RunsClear : Type 0
  RunsClear =
      (es : List Event) → rests (m.board (after_all m es m.first)) ≡ false →
      (eqb (m.board (after_all m es m.first)).engine.axes 0 ≡ false)
      × ((m.board (after_all m es m.first)).standing ≡ false → (m.board (after_all m es m.first)).line ≡ no_line)

  -- the return of a line on an idle board, in a call that is not refused and without a reply (a movement with a pulse, or S), begins a run
  abbrev pub LineBegins : Type 0
  LineBegins =
      (es : List Event) (ports : List ℕ) (l : Lent) → idles (m.board (after_all m es m.first)) ≡ true →
      (m.hear (ch "\r") ports l (after_all m es m.first)).1.refusal ≡ 0 → (m.hear (ch "\r") ports l (after_all m es m.first)).1.len ≡ 0 →
      Begun ((m.hear (ch "\r") ports l (after_all m es m.first)).0, (m.hear (ch "\r") ports l (after_all m es m.first)).1.after.memory)

  -- a stop and the line `@0S`, wherever a stop is allowed, leave everything as it was
  abbrev pub start_line : List ℕ → List ℕ → List Step
  start_line ports reply = receive (ch "@") ports reply own ∷ receive (ch "0") ports reply own ∷ receive (ch "S") ports reply own ∷ receive (ch "\r") ports reply own ∷ []

  abbrev pub StopAndStart : Type 0
  StopAndStart =
      (es : List Event) (mem : Memory) (ports reply : List ℕ) → RightMemory mem → reply_bytes ≤ length reply →
      stoppable (m.board (after_all m es m.first)) ≡ true →
      ((board_at (ahead (after_all m es m.first, mem) (receive stop_code ports reply own))).standing ≡ true)
      × (board_at (last (after_all m es m.first, mem) (receive stop_code ports reply own ∷ start_line ports reply)) ≡ m.board (after_all m es m.first))
      × ((last (after_all m es m.first, mem) (receive stop_code ports reply own ∷ start_line ports reply)).1 ≡ mem)
