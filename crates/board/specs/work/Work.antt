-- How the code goes: what a byte comes to before its reply is written, the first fault of a line in the code's order, and its effect.
-- The laws that join these to the definitions of `Direct`, `Storing`, `Receive` and `Calls` stand in `Obeys`, `Stores`, `Hears` and `Puts`.
use Rattle.std.specs.Prelude.{ℕ, ◌%◌, ◌≡◌, Bool, true, false, not, ◌&&◌, ◌||◌, List, [], ◌∷◌, ◌++◌, eqb, length, get_or, drop}
use Rattle.count.specs.Pick.{pick}
use Rattle.count.specs.Numbers.{signed}
use Rattle.count.specs.Ranges.{in_port, in_byte, in_zero}
use Rattle.count.specs.Text.{Written, written, report, two_hex, four_digits}
use Rattle.count.specs.Axes.{shown_axes, end_to_end}
use Rattle.motion.specs.Axes.{on}
use Rattle.motion.specs.declared.Counters.{Counters}
use Rattle.record.specs.declared.Record.{Record}
use Rattle.record.specs.Fault.{numbers_reply, fault_of}
use Rattle.record.specs.Memory.{Memory, memory}
use Rattle.record.specs.Keep.{store_of}
use Rattle.line.specs.Letter.{Letter}
use Rattle.line.specs.Letter as letter
use Rattle.line.specs.Said.{Direct}
use Rattle.engine.specs.declared.Engine.{Engine}
use Rattle.engine.specs.State.{Begun}
use Rattle.engine.specs.declared.Job.{Job}
use Rattle.engine.specs.Kinds.{kind, row_of}
use Rattle.circle.specs.Plan.{plane_of, direction_of}
use Rattle.engine.specs.State.{with_three, with_plane, with_direction, with_output, with_held, axes_of, origin_of, zero_of, started, emptied, storing_of, begin_of, circle_begun, ceased, reset_of}
use Rattle.board.specs.declared.Board.{Board}
use Rattle.board.specs.Calls.{Received}
use Rattle.board.specs.declared.Saying.{Saying}
use Rattle.board.specs.declared.Saying.TheVariants as saying
use Rattle.board.specs.declared.Spoke.{Spoke}
use Rattle.board.specs.State.{board, no_line, line_done, Said, said}
use Rattle.board.specs.Direct.{axes_allowed, is_wrong, heard_standing, needs_axes}
use Rattle.board.specs.Storing.{end_said}
use Rattle.board.specs.Receive.{holds_by, ends_by}

-- ---- a reply that is still to be written

abbrev pub bytes_of : Saying → ℕ → Counters → List ℕ
bytes_of saying.Silent axes at = []
bytes_of (saying.One b) axes at = b ∷ []
bytes_of saying.Positions axes at = 48 ∷ end_to_end (λ i. report (on i at)) (shown_axes (eqb axes 15))
bytes_of (saying.Port v) axes at = 48 ∷ two_hex v
bytes_of (saying.Fault l p) axes at = 71 ∷ l ∷ four_digits p

abbrev pub spoke_of : Board → Saying → Spoke
spoke_of b s = record { board = b; say = s }

-- with the memory, it is what a byte comes to
abbrev pub spoke : Spoke → Memory → Said
spoke s m = said s.board (bytes_of s.say s.board.engine.axes s.board.engine.at) m

abbrev pub text_of : Spoke → List ℕ
text_of s = bytes_of s.say s.board.engine.axes s.board.engine.at

abbrev pub received_of : Spoke → Received
received_of s = record { board = s.board; len = length (text_of s); refusal = 0 }

-- written at the front of a buffer, the bytes past it as they were
abbrev pub put_of : List ℕ → List ℕ → Written
put_of t reply = written (length t) (t ++ drop (length t) reply)

-- ---- the faults of a line: 7, 3, 1 and D by letter; before them 5, W and 4

abbrev pub count_fault : ℕ → ℕ
count_fault n = numbers_reply (eqb n 0) true true true 48

abbrev pub seven_fault : ℕ → ℕ
seven_fault n = numbers_reply (eqb n 7) true true true 48

unfoldable pub axes_fault : ℕ → ℕ → ℕ → ℕ
axes_fault axes n w = numbers_reply (eqb n 1) (axes_allowed axes w) true true 48

unfoldable pub input_fault : ℕ → ℕ → ℕ
input_fault n w = numbers_reply (eqb n 1) true (in_port (signed w)) true 48

unfoldable pub output_fault : ℕ → ℕ → ℕ → ℕ
output_fault n w v = numbers_reply (eqb n 2) true (in_zero (signed w) && in_byte (signed v)) true 48

abbrev pub numbers_fault : Letter → ℕ → ℕ → List ℕ → ℕ
numbers_fault letter.Wrong axes n l = 55
numbers_fault letter.Axes axes n l = axes_fault axes n (get_or l 0 0)
numbers_fault letter.Relative axes n l = fault_of axes 48 n l
numbers_fault letter.Absolute axes n l = fault_of axes 109 n l
numbers_fault letter.Origin axes n l = fault_of axes 110 n l
numbers_fault letter.Zero axes n l = fault_of axes 110 n l
numbers_fault letter.Three axes n l = fault_of axes 122 n l
numbers_fault letter.Position axes n l = count_fault n
numbers_fault letter.Input axes n l = input_fault n (get_or l 0 0)
numbers_fault letter.Output axes n l = output_fault n (get_or l 0 0) (get_or l 1 0)
numbers_fault letter.Store axes n l = count_fault n
numbers_fault letter.Empty axes n l = count_fault n
numbers_fault letter.Start axes n l = count_fault n
numbers_fault letter.Plane axes n l = fault_of axes 101 n l
numbers_fault letter.Direction axes n l = fault_of axes 102 n l
numbers_fault letter.Circle axes n l = seven_fault n

unfoldable pub line_fault : ℕ → Bool → Direct → ℕ
line_fault axes standing d =
    pick (is_wrong d.letter) 53
    (pick (standing && not (heard_standing d.letter)) 87
    (pick (needs_axes d.letter && eqb axes 0) 52 (numbers_fault d.letter axes d.count d.words)))

-- ---- the effect of a line without such a fault

abbrev pub replied_with : Board → Engine → ℕ → Spoke
replied_with b e reply = spoke_of (board e b.standing no_line) (saying.One reply)

abbrev pub silent_with : Board → Engine → Spoke
silent_with b e = spoke_of (board e b.standing no_line) saying.Silent

unfoldable pub begun_with : Board → Begun → Spoke
begun_with b g = pick (eqb g.reply 0) (silent_with b g.engine) (replied_with b g.engine g.reply)

unfoldable pub started_by : Board → Spoke
started_by b =
    pick b.standing (spoke_of (board b.engine false no_line) saying.Silent)
    (pick (eqb b.engine.held.records 0) (replied_with b b.engine 56)
    (pick (eqb b.engine.axes b.engine.held.axes) (silent_with b (started b.engine)) (replied_with b b.engine 71)))

abbrev pub affected : Letter → List ℕ → List ℕ → Board → Spoke
affected letter.Wrong l ports b = replied_with b b.engine 53
affected letter.Axes l ports b = replied_with b (axes_of (get_or l 0 0 % 256) b.engine) 48
affected letter.Relative l ports b = begun_with b (begin_of false l b.engine)
affected letter.Absolute l ports b = begun_with b (begin_of true l b.engine)
affected letter.Origin l ports b = replied_with b (origin_of (get_or l 0 0 % 256) b.engine) 48
affected letter.Zero l ports b = replied_with b (zero_of (get_or l 0 0 % 256) b.engine) 48
affected letter.Three l ports b = replied_with b (with_three b.engine (eqb (get_or l 0 0) 1)) 48
affected letter.Position l ports b = spoke_of (line_done b) saying.Positions
affected letter.Input l ports b = spoke_of (line_done b) (saying.Port (get_or ports (get_or l 0 0) 0))
affected letter.Output l ports b = replied_with b (with_output b.engine (get_or l 1 0 % 256)) 48
affected letter.Store l ports b = replied_with b (storing_of b.engine) 48
affected letter.Empty l ports b = replied_with b (emptied b.engine) 48
affected letter.Start l ports b = started_by b
affected letter.Plane l ports b = replied_with b (with_plane (plane_of (get_or l 0 0)) b.engine) 48
affected letter.Direction l ports b = replied_with b (with_direction (direction_of (get_or l 0 0)) b.engine) 48
affected letter.Circle l ports b = begun_with b (circle_begun l b.engine)

unfoldable pub obeyed : Direct → List ℕ → Board → Spoke
obeyed d ports b =
    pick (eqb (line_fault b.engine.axes b.standing d) 48)
    (affected d.letter d.words ports b)
    (replied_with b b.engine (line_fault b.engine.axes b.standing d))

-- ---- a record without such a fault

abbrev pub kept_said : Record → Board → Memory → Said
kept_said r b m =
    pick (store_of b.engine.held r m).kept.stored
    (said (board (with_held b.engine (store_of b.engine.held r m).kept.held) b.standing no_line) (48 ∷ []) (store_of b.engine.held r m).memory)
    (said (line_done b) (54 ∷ []) m)

-- ---- the end of storing looks at the store alone, and leaves the table

abbrev pub Ended : Spoke → Board → List ℕ → Type 0
Ended s b store = (table : List ℕ) → spoke s (memory store table) ≡ end_said b (memory store table)

-- ---- the control codes, and whether an ordinary byte is gathered or a wait takes it

unfoldable pub stop_spoke : Board → Spoke
stop_spoke b =
    pick (holds_by b.engine.run.job && not b.standing)
    (spoke_of (board b.engine true b.line) (saying.One 70))
    (spoke_of b saying.Silent)

unfoldable pub break_spoke : Board → Spoke
break_spoke b =
    pick (ends_by b.engine.run.job || b.standing)
    (spoke_of (board (ceased b.engine) false b.line) (saying.One 70))
    (spoke_of b saying.Silent)

abbrev pub reset_spoke : Board → Spoke
reset_spoke b = spoke_of (board (reset_of b.engine) false no_line) saying.Silent

abbrev pub gathers_by : Job → Bool
gathers_by j = (row_of (kind j)).is_resting

abbrev pub waits_by : Job → Bool
waits_by j = (row_of (kind j)).is_waiting
