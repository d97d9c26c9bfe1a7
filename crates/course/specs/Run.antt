-- A run: clock calls one after the other until the board is idle, storing, stopped or waiting, at most so many (01, "walk", sentence 2).
use Rattle.std.specs.Prelude.{ℕ, zero, suc, ◌+◌, ◌/◌, min, Bool, true, false, not, ◌&&◌, List, [], ◌++◌, length, drop}
use Rattle.count.specs.Pick.{pick}
use Rattle.record.specs.Memory.{Memory, store_fits, table_fits}
use Rattle.engine.specs.Tick.{runs_of}
use Rattle.board.specs.declared.Board.{Board}
use Rattle.board.specs.State.{sound}
use Rattle.board.specs.Calls.{clocking}
use Rattle.course.specs.declared.Ran.{Ran as RanBy}
use Rattle.record.specs.Table.{refused as refused_by}
use Rattle.board.specs.Calls.{len_in}
use Rattle.course.specs.Text.{turning, answer_text}

-- something runs and does not stand stopped
unfoldable pub runs_now : Board → Bool
runs_now b = runs_of b.engine && not b.standing

-- the board after a run, its clock calls and its text
pub record Course : Type 0 where
  pub board : Board
  pub calls : ℕ
  pub text : List ℕ

abbrev pub no_calls : Board → Course
no_calls b = record { board = b; calls = 0; text = [] }

-- one clock call with its text, then a run
abbrev pub then : List ℕ → Course → Course
then t c = record { board = c.board; calls = 1 + c.calls; text = t ++ c.text }

-- at most k clock calls
unfoldable pub course : ℕ → Memory → Board → Course
course zero m b = no_calls b
course (suc k) m b =
    (elim (runs_now b) [
      | true ↦ then (answer_text (turning b.engine) (clocking b m).answer) (course k m (clocking b m).board)
      | false ↦ no_calls b
    ])

-- ---- the call `run`: the definition's steps up to the limit and to a thirteenth of the buffer, since no line is longer than 13 bytes.
-- Where it stops never depends on the text.

unfoldable pub allowed : ℕ → List ℕ → ℕ
allowed limit out = min limit (length out / 13)

-- what a run comes to: the board after it, the clock calls used, whether the run is over, the bytes written, and the refusal's number or 0
pub record Ran : Type 0 where
  pub board : Board
  pub calls : ℕ
  pub over : Bool
  pub len : ℕ
  pub refusal : ℕ

-- as the code answers it: what refuses a run stands in place of the bytes written
abbrev pub ran_in : RanBy → Ran
ran_in r = record { board = r.board; calls = r.calls; over = r.over; len = len_in r.written; refusal = refused_by r.written }

-- the result and the buffer afterwards
pub record RunOutcome : Type 0 where
  pub result : Ran
  pub out : List ℕ

abbrev pub did_run : Ran → List ℕ → RunOutcome
did_run r out = record { result = r; out = out }

abbrev pub refused_run : ℕ → Board → List ℕ → RunOutcome
refused_run n b out = did_run (record { board = b; calls = 0; over = not (runs_now b); len = 0; refusal = n }) out

abbrev pub ran : Course → List ℕ → RunOutcome
ran c out =
    did_run (record { board = c.board; calls = c.calls; over = not (runs_now c.board); len = length c.text; refusal = 0 })
    (c.text ++ drop (length c.text) out)

unfoldable pub run_outcome : ℕ → Board → Memory → List ℕ → RunOutcome
run_outcome limit b m out =
    pick (not (store_fits m)) (refused_run 102 b out)
    (pick (not (sound b)) (refused_run 103 b out)
    (pick (not (table_fits m)) (refused_run 104 b out) (ran (course (allowed limit out) m b) out)))
