-- What one received byte comes to (01, "Lines", paragraph 1; "Running a program", the sentence on code `2` and the last paragraph).
use Rattle.std.specs.Prelude.{ℕ, Bool, true, false, not, ◌&&◌, ◌||◌, List, [], ◌∷◌, eqb}
use Rattle.count.specs.Chars.{ch}
use Rattle.count.specs.Pick.{pick}
use Rattle.record.specs.Memory.{Memory}
use Rattle.line.specs.Lines.{direct_of, stored_of}
use Rattle.engine.specs.declared.Job.{Job}
use Rattle.engine.specs.Kinds.{Ear, kind, row_of}
use Rattle.engine.specs.Kinds.Ear.{gathers, drops, waits}
use Rattle.engine.specs.State.{ceased, reset_of, heard}
use Rattle.board.specs.declared.Board.{Board}
use Rattle.board.specs.State.{board, no_line, text_of, gathered, with_line, line_done, Said, said}
use Rattle.board.specs.Direct.{direct_said}
use Rattle.board.specs.Storing.{stored_said}

-- ---- ordinary bytes, 0 to 252

-- what an ordinary byte meets, by what is under way, if it does not stand stopped
abbrev pub ear_by : Job → Ear
ear_by j = (row_of (kind j)).ear

-- while something stands stopped, lines are gathered
unfoldable pub ear_of : Board → Ear
ear_of b = pick b.standing gathers (ear_by b.engine.run.job)

abbrev pub is_storing : Job → Bool
is_storing j = (row_of (kind j)).is_storing

-- a carriage return ends the line: one of more than 80 bytes is refused 5; while storing, and nothing stands, it is a record's or the end
unfoldable pub returned : List ℕ → Board → Memory → Said
returned ports b m =
    pick b.line.over (said (line_done b) (ch "5" ∷ []) m)
    (pick (is_storing b.engine.run.job && not b.standing) (stored_said (stored_of (text_of b.line)) b m)
    (direct_said (direct_of (text_of b.line)) ports b m))

unfoldable pub gathering : ℕ → List ℕ → Board → Memory → Said
gathering byte ports b m =
    pick (eqb byte (ch "\r")) (returned ports b m)
    (said (with_line b (gathered byte b.line)) [] m)

abbrev pub ordinary : Ear → ℕ → List ℕ → Board → Memory → Said
ordinary gathers byte ports b m = gathering byte ports b m
ordinary drops byte ports b m = said b [] m
ordinary waits byte ports b m = said (board (heard byte b.engine) b.standing b.line) [] m

-- ---- the three control codes

abbrev pub stop_code : ℕ
stop_code = 253

abbrev pub reset_code : ℕ
reset_code = 254

abbrev pub break_code : ℕ
break_code = 255

-- stop (253) holds a running movement or program and sends F; it does nothing when idle, storing, stopped, in a delay or in a wait
abbrev pub holds_by : Job → Bool
holds_by j = (row_of (kind j)).stops

unfoldable pub stopped : Board → Memory → Said
stopped b m =
    pick (holds_by b.engine.run.job && not b.standing)
    (said (board b.engine true b.line) (ch "F" ∷ []) m)
    (said b [] m)

-- break (255) ends what runs, waits or stands stopped, sends F and keeps the positions reached; when idle or storing it does nothing
abbrev pub ends_by : Job → Bool
ends_by j = (row_of (kind j)).breaks

unfoldable pub broken : Board → Memory → Said
broken b m =
    pick (ends_by b.engine.run.job || b.standing)
    (said (board (ceased b.engine) false b.line) (ch "F" ∷ []) m)
    (said b [] m)

-- reset (254) clears line and run, sends nothing
unfoldable pub reset_said : Board → Memory → Said
reset_said b m = said (board (reset_of b.engine) false no_line) [] m

-- ---- one byte

unfoldable pub hearing : ℕ → List ℕ → Board → Memory → Said
hearing byte ports b m =
    pick (eqb byte stop_code) (stopped b m)
    (pick (eqb byte reset_code) (reset_said b m)
    (pick (eqb byte break_code) (broken b m)
    (ordinary (ear_of b) byte ports b m)))
