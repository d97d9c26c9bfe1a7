-- `walk`: the whole output for a whole input, and its portions (01, "walk").
use Rattle.std.specs.Prelude.{ℕ, ◌+◌, ◌-◌, Bool, true, false, not, ◌&&◌, List, [], ◌∷◌, ◌++◌, leb, length, drop, replicate}
use Rattle.count.specs.Sizes.{store_bytes, most_records}
use Rattle.count.specs.Pick.{pick}
use Rattle.count.specs.Text.{Written, wrote}
use Rattle.record.specs.Memory.{Memory, memory, store_fits, table_fits}
use Rattle.board.specs.declared.Board.{Board}
use Rattle.board.specs.State.{sound}
use Rattle.board.specs.Receive.{hearing}
use Rattle.board.specs.Calls.{fresh}
use Rattle.course.specs.declared.Walk.{Walk}
use Rattle.course.specs.declared.Portion.{Portion}
use Rattle.course.specs.Text.{head_text, reply_text, limit_text, end_text}
use Rattle.course.specs.Run.{runs_now, Course, course, allowed}

-- input ports are 0, and the store is empty at first, its bytes and the entries of the table 0
abbrev pub no_ports : List ℕ
no_ports = 0 ∷ 0 ∷ 0 ∷ 0 ∷ []

abbrev pub no_store : List ℕ
no_store = replicate store_bytes 0

abbrev pub no_memory : Memory
no_memory = memory no_store (replicate most_records 0)

-- after each byte at most 100,000 clock calls
abbrev pub most : ℕ
most = 100000

-- a byte: its reply, then its run; a run that is not over after that many calls prints `L`, and no more is read; last `E`
unfoldable pub walked_from : List ℕ → Board → Memory → List ℕ
walked_from [] b m = end_text b
walked_from (byte ∷ input) b m =
    let s = hearing byte no_ports b m in
    let c = course most s.memory s.board in
    reply_text s.reply ++ c.text ++
    (elim (runs_now c.board) [
      | true ↦ limit_text ++ end_text c.board
      | false ↦ walked_from input c.board s.memory
    ])

-- the whole output for a whole input
unfoldable pub walked : List ℕ → List ℕ
walked input = head_text ++ walked_from input fresh no_memory

-- ---- the portions that the program asks for, each with a buffer of its own

-- a portion: the walk after it, its length, and what was lent afterwards
pub record Done : Type 0 where
  pub portion : Portion
  pub memory : Memory
  pub out : List ℕ

abbrev pub done : Walk → List ℕ → Memory → List ℕ → Done
done w text m out = record { portion = record { walk = w; len = length text }; memory = m; out = text ++ drop (length text) out }

-- a portion with what was lent afterwards
abbrev pub done_of : Portion → Memory → List ℕ → Done
done_of p m out = record { portion = p; memory = m; out = out }

abbrev pub walk : Board → ℕ → Bool → Walk
walk b calls over = record { board = b; calls = calls; over = over }

-- a fresh board, nothing under way
abbrev pub first : Walk
first = walk fresh 0 true

-- a walk that went on by some clock calls
abbrev pub further : Course → ℕ → Walk
further c calls = walk c.board (calls + c.calls) (not (runs_now c.board))

-- a portion is made if the buffer has at least 64 bytes and a call on this board and memory would not be refused; else nothing is taken,
-- nothing is written and the walk is as given
unfoldable pub ready : Walk → Memory → List ℕ → Bool
ready w m out = leb 64 (length out) && store_fits m && sound w.board && table_fits m

-- a byte is taken if the run before it is over: its reply, and as much of its run as the rest of the buffer holds
unfoldable pub next_done : ℕ → Walk → Memory → List ℕ → Done
next_done byte w m out =
    let s = hearing byte no_ports w.board m in
    let c = course (allowed most (drop (length (reply_text s.reply)) out)) s.memory s.board in
    pick (w.over && ready w m out) (done (further c 0) (reply_text s.reply ++ c.text) s.memory out) (done w [] m out)

-- a run that is not over goes on, up to its 100,000 calls
unfoldable pub on_done : Walk → Memory → List ℕ → Done
on_done w m out =
    let c = course (allowed (most - w.calls) out) m w.board in
    pick (not w.over && ready w m out) (done (further c w.calls) c.text m out) (done w [] m out)

-- the first line, and the last ones: `L` if the run is not over, and `E`; a buffer of fewer than 64 bytes stays as it is
unfoldable pub head_done : List ℕ → Written
head_done out = wrote 64 head_text out

unfoldable pub tail_done : Walk → List ℕ → Written
tail_done w out = wrote 64 (pick w.over [] limit_text ++ end_text w.board) out

-- what is still to be printed of a walk, given the input that is left
unfoldable pub remaining : Walk → List ℕ → Memory → List ℕ
remaining w input m =
    let c = course (most - w.calls) m w.board in
    (elim w.over [
      | true ↦ walked_from input w.board m
      | false ↦ c.text ++
          (elim (runs_now c.board) [
            | true ↦ limit_text ++ end_text c.board
            | false ↦ walked_from input c.board m
          ])
    ])
