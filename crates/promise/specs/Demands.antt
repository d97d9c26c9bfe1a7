-- The demands as predicates over any machine (00, demands 1 and 2). The theorems in the files Keeps.. say that ours has them.
use Rattle.std.specs.Prelude.{ℕ, zero, suc, ◌+◌, ◌≤◌, ◌<◌, ◌≡◌, Bool, true, false, not, ◌&&◌, ◌||◌, List, [], ◌∷◌, ◌++◌, eqb, ℤ, pos, ◌+ℤ◌, length, get_or, take, drop}
use Rattle.count.specs.Sizes.{store_bytes, reply_bytes, text_bytes}
use Rattle.count.specs.Chars.{ch, codes}
use Rattle.count.specs.Pick.{pick}
use Rattle.count.specs.Numbers.{value}
use Rattle.count.specs.Paper.{Paper, says}
use Rattle.count.specs.declared.Axis.{Axis}
use Rattle.count.specs.declared.Axis.TheVariants.{X, Y, Z, A}
use Rattle.count.specs.Axes.{has}
use Rattle.motion.specs.Axes.{on}
use Rattle.line.specs.Said.{Direct}
use Rattle.line.specs.Lines.{letter_paper, direct_of}
use Rattle.record.specs.declared.Held.{Held}
use Rattle.record.specs.Memory.{Memory, RightMemory}
use Rattle.record.specs.Places.{in_use}
use Rattle.record.specs.Bytes.{Below}
use Rattle.program.specs.Program.{verdict_of, accepted}
use Rattle.engine.specs.declared.Job.{Job}
use Rattle.engine.specs.Kinds.{kind, row_of}
use Rattle.engine.specs.State.{ceased, emptied}
use Rattle.board.specs.declared.Board.{Board}
use Rattle.board.specs.State.{board, no_line, text_of, line_done}
use Rattle.board.specs.Storing.{named_fault}
use Rattle.board.specs.Calls.{Lent, lent}
use Rattle.board.specs.Receive.{is_storing, reset_code}
use Rattle.course.specs.Run.{runs_now}
use Rattle.promise.specs.Machine.{Machine, Heard, Event, byte, clock, next, after_all}

-- ---- what a host reads

-- the bytes of a reply stand in front of the reply buffer
abbrev pub replied : Heard → List ℕ
replied h = take h.len h.after.reply

abbrev pub is_idle : Job → Bool
is_idle j = (row_of (kind j)).is_idle

abbrev pub is_waiting : Job → Bool
is_waiting j = (row_of (kind j)).is_waiting

-- idle, storing and waiting, where nothing stands stopped
abbrev pub idles : Board → Bool
idles b = is_idle b.engine.run.job && not b.standing

abbrev pub stores : Board → Bool
stores b = is_storing b.engine.run.job && not b.standing

abbrev pub waits : Board → Bool
waits b = is_waiting b.engine.run.job && not b.standing

-- ---- demand 1: a refused line (00, demand 1, sentences 2 and 3)

abbrev pub is_nine : List ℕ → Bool
is_nine [] = false
is_nine (c ∷ []) = eqb c (ch "9")
is_nine (c ∷ d ∷ s) = false

-- the end line: `9` alone, on a board that stores
unfoldable pub end_line : Board → Bool
end_line b = (not b.line.over && stores b) && is_nine (text_of b.line)

-- an empty line, the run cleared (idle, place 0, no loop open), and used length, records and axes of the store 0; all else as before
abbrev pub unstored : Board → Board
unstored b = board (ceased (emptied b.engine)) b.standing no_line

-- a refused line: the reply is one character; at the end line it is G, and with a fault six: G, the letter of the fault and the record's
-- place as four digits (02 §1). What is lent is else as given, and the board is the very board before with an empty line; G at the end line
-- also leaves the store empty
pub record Untouched (b b' : Board) (l l' : Lent) (c : ℕ) (t : List ℕ) : Type 0 where
  pub alone : end_line b ≡ false → t ≡ []
  pub letter : end_line b ≡ true → c ≡ ch "G"
  pub named : end_line b ≡ true → t ≡ named_fault (verdict_of b.engine.held l.memory.store)
  pub reply : l'.reply ≡ (c ∷ t) ++ drop (length (c ∷ t)) l.reply
  pub memory : l'.memory ≡ l.memory
  pub board : b' ≡ pick (end_line b) (unstored b) (line_done b)

-- no reply at a return
pub data Silent (b b' : Board) : Type 0 where
  -- a movement or a run has begun
  begun : idles b ≡ true → runs_now b' ≡ true → Silent b b'
  -- what stood stands no more
  onward : b.standing ≡ true → b' ≡ board b.engine false no_line → Silent b b'
  -- it was dropped
  dropped : runs_now b ≡ true → b' ≡ b → Silent b b'
  -- a wait took it
  taken : waits b ≡ true → runs_now b' ≡ true → b'.line ≡ b.line → Silent b b'

module _ (m : Machine) where
  -- what a byte comes to, and the board afterwards
  abbrev pub hears : ℕ → List ℕ → Lent → m.State → Heard
  hears v ports l s = (m.hear v ports l s).1

  abbrev pub board_then : ℕ → List ℕ → Lent → m.State → Board
  board_then v ports l s = m.board (m.hear v ports l s).0

  -- a line is refused if the reply to its return begins with another byte than 0
  abbrev pub RefusedLine : Type 0
  RefusedLine =
      (ports : List ℕ) (l : Lent) (s : m.State) (c : ℕ) (t : List ℕ)
      → (hears (ch "\r") ports l s).refusal ≡ 0 → replied (hears (ch "\r") ports l s) ≡ c ∷ t → (c ≡ ch "0" → ⊥)
      → Untouched (m.board s) (board_then (ch "\r") ports l s) l (hears (ch "\r") ports l s).after c t

  -- a reply that begins with 0 has 1, 3 or 19 bytes, with four axes also 25
  abbrev pub AcceptedLine : Type 0
  AcceptedLine =
      (v : ℕ) (ports : List ℕ) (l : Lent) (s : m.State) (t : List ℕ)
      → (hears v ports l s).refusal ≡ 0 → replied (hears v ports l s) ≡ ch "0" ∷ t
      → eqb (hears v ports l s).len 1 || eqb (hears v ports l s).len 3 || eqb (hears v ports l s).len 19 || eqb (hears v ports l s).len 25 ≡ true

  abbrev pub SilentReturn : Type 0
  SilentReturn =
      (ports : List ℕ) (l : Lent) (s : m.State)
      → (hears (ch "\r") ports l s).refusal ≡ 0 → (hears (ch "\r") ports l s).len ≡ 0 → Silent (m.board s) (board_then (ch "\r") ports l s)

  -- a refused call leaves state and buffers as given, with no reply, the answer nothing or no text
  abbrev pub RefusedCall : Type 0
  RefusedCall =
      ((v : ℕ) (ports : List ℕ) (l : Lent) (s : m.State) → ((hears v ports l s).refusal ≡ 0 → ⊥)
      → ((m.hear v ports l s).0 ≡ s) × ((hears v ports l s).after ≡ l) × ((hears v ports l s).len ≡ 0))
      × ((mem : Memory) (s : m.State) → ((m.tick mem s).1.refusal ≡ 0 → ⊥)
      → ((m.tick mem s).0 ≡ s) × ((m.tick mem s).1.answer ≡ says 5 []))
      × ((store text : List ℕ) (s : m.State) → ((m.list store text s).listed.refusal ≡ 0 → ⊥)
      → ((m.list store text s).text ≡ text) × ((m.list store text s).listed.len ≡ 0))

  -- ---- demand 2: clock calls when idle, storing, stopped or waiting (01, "Running a program", paragraph 1, last sentence)

  abbrev pub Quiet : Type 0
  Quiet =
      (mem : Memory) (s : m.State) → (m.board s).standing || idles (m.board s) || stores (m.board s) || waits (m.board s) ≡ true
      → ((m.tick mem s).0 ≡ s) × ((m.tick mem s).1.answer ≡ says 5 [])

-- ---- demand 2: a position is the sum of that axis's pulses since it was last set to zero

-- a position in ℤ
abbrev pub position : Axis → Board → ℤ
position a b = value (on a b.engine.at)

-- an axis is the first, second, third or fourth value of a pulse
abbrev pub place : Axis → ℕ
place X = 0
place Y = 1
place Z = 2
place A = 3

-- what an answer adds: a pulse (number 1) its sign on the axis, any other answer nothing
unfoldable pub adds : Axis → Paper → ℤ
adds a p = pick (eqb p.number 1) (get_or p.values (place a) (pos 0)) (pos 0)

-- the axes line, but 8 zeroes A alone (02, §7); or N with that axis in its number
unfoldable pub zero_line : Axis → Direct → Bool
zero_line a d =
    (eqb (letter_paper d.letter).number (ch "0") && (not (eqb (get_or d.words 0 0) 8) || has (get_or d.words 0 0) a))
    || (eqb (letter_paper d.letter).number (ch "N") && has (get_or d.words 0 0) a)

-- a byte sets an axis to zero: a call that is not refused, and reset; or the return of such a line on a board that is idle, answered 0
unfoldable pub zeroes : Axis → ℕ → Board → Heard → Bool
zeroes a v b h =
    eqb h.refusal 0
    && (eqb v reset_code || (eqb v (ch "\r") && idles b && not b.line.over && eqb (get_or (replied h) 0 0) (ch "0") && zero_line a (direct_of (text_of b.line))))

module _ (m : Machine) where
  -- the sum so far with one event more
  abbrev pub sum_after : Axis → Event → m.State → ℤ → ℤ
  sum_after a (byte v ports l) s t = pick (zeroes a v (m.board s) (m.hear v ports l s).1) (pos 0) t
  sum_after a (clock mem) s t = t +ℤ adds a (m.tick mem s).1.answer

  unfoldable pub pulse_sum : Axis → List Event → m.State → ℤ → ℤ
  pulse_sum a [] s t = t
  pulse_sum a (e ∷ es) s t = pulse_sum a es (next m e s) (sum_after a e s t)

  -- from the first state on, after any events
  abbrev pub SumOfPulses : Type 0
  SumOfPulses = (a : Axis) (es : List Event) → position a (m.board (after_all m es m.first)) ≡ pulse_sum a es m.first (pos 0)

  -- ---- the run's number of clock calls (01, "How tight the statements are", last fake)

  -- so many clock calls one after the other
  unfoldable pub ticks : ℕ → Memory → m.State → m.State
  ticks zero mem s = s
  ticks (suc k) mem s = ticks k mem (m.tick mem s).0

  -- the calls that a run says it used are the clock calls it made: at most the limit, each on a board that runs, and fewer only if the
  -- board runs no more
  pub record CountedRun (limit : ℕ) (mem : Memory) (s s' : m.State) (calls : ℕ) : Type 0 where
    pub made : s' ≡ ticks calls mem s
    pub most : calls ≤ limit
    pub each : (j : ℕ) → j < calls → runs_now (m.board (ticks j mem s)) ≡ true
    pub over : calls < limit → runs_now (m.board s') ≡ false

  abbrev pub Counted : Type 0
  Counted = (limit : ℕ) (mem : Memory) (s : m.State) → CountedRun limit mem s (m.go limit mem s).0 (m.go limit mem s).1

-- ---- no dead end: from the first state on, with buffers of the right lengths, no call is refused

-- a reply buffer of at least 32 bytes and a memory as asked for
abbrev pub RightLent : Event → Type 0
RightLent (byte v ports l) = (reply_bytes ≤ length l.reply) × RightMemory l.memory
RightLent (clock mem) = RightMemory mem

module _ (m : Machine) where
  abbrev pub refusal_of : Event → m.State → ℕ
  refusal_of (byte v ports l) s = (m.hear v ports l s).1.refusal
  refusal_of (clock mem) s = (m.tick mem s).1.refusal

  abbrev pub NoDeadEnd : Type 0
  NoDeadEnd = (es : List Event) (e : Event) → RightLent e → refusal_of e (after_all m es m.first) ≡ 0

-- ---- demand 2: an accepted program listed as lines, and sent for storing, is accepted and stores the same bytes

-- a host that sends bytes: with the i-th its ports and its reply buffer, and so many clock calls before it
pub record Host : Type 0 where
  pub ports : ℕ → List ℕ
  pub reply : ℕ → List ℕ
  pub calls : ℕ → ℕ
  pub room : (i : ℕ) → reply_bytes ≤ length (reply i)

-- the axes line, for four axes two of them; the line `i`; and the lines of a listing
abbrev pub axes_lines : ℕ → List ℕ
axes_lines axes = pick (eqb axes 15) (codes "@07\r@08\r") (ch "@" ∷ ch "0" ∷ (ch "0" + axes) ∷ ch "\r" ∷ [])

abbrev pub storing_text : ℕ → List ℕ → List ℕ
storing_text axes lines = axes_lines axes ++ (codes "@0i\r" ++ lines)

-- each return is answered 0, and no other byte is answered
abbrev pub zero_at_returns : List ℕ → List (List ℕ)
zero_at_returns [] = []
zero_at_returns (v ∷ t) = pick (eqb v (ch "\r")) (ch "0" ∷ []) [] ∷ zero_at_returns t

module _ (m : Machine) where
  -- the state and the memory after sending bytes, and the reply to each byte
  pub record Sent : Type 0 where
    pub state : m.State
    pub memory : Memory
    pub replies : List (List ℕ)

  abbrev pub after : List ℕ → Sent → Sent
  after r x = record { state = x.state; memory = x.memory; replies = r ∷ x.replies }

  -- bytes from the i-th on, the memory handed on from byte to byte
  unfoldable pub sent : Host → ℕ → List ℕ → m.State → Memory → Sent
  sent h i [] s mem = record { state = s; memory = mem; replies = [] }
  sent h i (v ∷ l) s mem =
      let r = m.hear v (h.ports i) (lent (h.reply i) mem) (ticks m (h.calls i) mem s) in
      after (replied r.1) (sent h (suc i) l r.0 r.1.after.memory)

  -- every line is accepted, and the store's part in use is the same: its bytes, used length, records and axes
  pub record Restored (h : Held) (store t : List ℕ) (x : Sent) : Type 0 where
    pub replies : x.replies ≡ zero_at_returns t
    pub held : (m.board x.state).engine.held ≡ h
    pub bytes : in_use h x.memory.store ≡ in_use h store
    pub idle : idles (m.board x.state) ≡ true

  -- what is sent to store the program again that a state lists: its axes, `i`, and what the lister wrote into a text buffer
  abbrev pub listed_lines : List ℕ → List ℕ → m.State → List ℕ
  listed_lines store text s =
      storing_text (m.board s).engine.held.axes (take (m.list store text s).listed.len (m.list store text s).text)

  -- it is listed, and its lines sent to the first state with any other memory are accepted and store the same
  pub record ListedAgain (store text : List ℕ) (other : Memory) (host : Host) (s : m.State) : Type 0 where
    pub listed : (m.list store text s).listed.refusal ≡ 0
    pub restored : Restored (m.board s).engine.held store (listed_lines store text s) (sent host 0 (listed_lines store text s) m.first other)

  -- from the first state on, after any events, whatever was lent: an accepted program
  abbrev pub RoundTrip : Type 0
  RoundTrip =
      (es : List Event) (store text : List ℕ) (other : Memory) (host : Host)
      → length store ≡ store_bytes → Below 256 store → accepted (m.board (after_all m es m.first)).engine.held store ≡ true
      → text_bytes ≤ length text → RightMemory other → Below 256 other.store
      → ListedAgain store text other host (after_all m es m.first)

  -- from the first state on, after any events, whatever was lent: the end line answered 0 makes the store an accepted program
  abbrev pub EndAccepts : Type 0
  EndAccepts =
      (es : List Event) (ports : List ℕ) (l : Lent) → end_line (m.board (after_all m es m.first)) ≡ true
      → (hears m (ch "\r") ports l (after_all m es m.first)).refusal ≡ 0 → get_or (replied (hears m (ch "\r") ports l (after_all m es m.first))) 0 0 ≡ ch "0"
      → accepted (board_then m (ch "\r") ports l (after_all m es m.first)).engine.held (hears m (ch "\r") ports l (after_all m es m.first)).after.memory.store ≡ true

  -- both ends joined: once the end line is answered 0, with bytes lent as the store, the program is listed, and its lines store the same
  abbrev pub EndToEnd : Type 0
  EndToEnd =
      (es : List Event) (ports : List ℕ) (l : Lent) (text : List ℕ) (other : Memory) (host : Host) → end_line (m.board (after_all m es m.first)) ≡ true
      → (hears m (ch "\r") ports l (after_all m es m.first)).refusal ≡ 0 → get_or (replied (hears m (ch "\r") ports l (after_all m es m.first))) 0 0 ≡ ch "0"
      → Below 256 l.memory.store → text_bytes ≤ length text → RightMemory other → Below 256 other.store
      → ListedAgain (hears m (ch "\r") ports l (after_all m es m.first)).after.memory.store text other host (m.hear (ch "\r") ports l (after_all m es m.first)).0
