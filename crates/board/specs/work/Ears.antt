-- A received byte is sorted first, by its value, what is under way and whether it stands; what it comes to goes by that. Stands in
-- contracts of functions that are not exported: nothing of it need be believed. Its law: `heard-is-hearing` of proofs/laws/Ears.antt.
use Rattle.std.specs.Prelude.{ℕ, Bool, true, false, ◌||◌, List, [], eqb}
use Rattle.count.specs.Pick.{pick}
use Rattle.record.specs.Memory.{Memory}
use Rattle.engine.specs.declared.Job.{Job}
use Rattle.engine.specs.State.{heard}
use Rattle.board.specs.declared.Board.{Board}
use Rattle.board.specs.declared.Ear.{Ear}
use Rattle.board.specs.declared.Ear.TheVariants as ear
use Rattle.board.specs.State.{board, gathered, with_line, Said, said}
use Rattle.board.specs.Receive.{returned, stopped, broken, reset_said}
use Rattle.board.specs.work.Work.{gathers_by, waits_by}

-- an ordinary byte where lines are gathered
abbrev pub line_ear : ℕ → Ear
line_ear byte = pick (eqb byte 13) ear.Return ear.Gather

-- an ordinary byte
abbrev pub job_ear : Job → Bool → ℕ → Ear
job_ear j standing byte = pick (standing || gathers_by j) (line_ear byte) (pick (waits_by j) ear.Listen ear.Ignore)

abbrev pub byte_ear : Job → Bool → ℕ → Ear
byte_ear j standing byte = pick (eqb byte 253) ear.Stop (pick (eqb byte 254) ear.Reset (pick (eqb byte 255) ear.Quit (job_ear j standing byte)))

unfoldable pub ear_for : ℕ → Board → Ear
ear_for byte b = byte_ear b.engine.run.job b.standing byte

abbrev pub is_gather : Ear → Bool
is_gather ear.Gather = true
is_gather ear.Return = false
is_gather ear.Listen = false
is_gather ear.Ignore = false
is_gather ear.Stop = false
is_gather ear.Reset = false
is_gather ear.Quit = false

-- what a byte comes to
abbrev pub heard_as : Ear → ℕ → List ℕ → Board → Memory → Said
heard_as ear.Gather byte ports b m = said (with_line b (gathered byte b.line)) [] m
heard_as ear.Return byte ports b m = returned ports b m
heard_as ear.Listen byte ports b m = said (board (heard byte b.engine) b.standing b.line) [] m
heard_as ear.Ignore byte ports b m = said b [] m
heard_as ear.Stop byte ports b m = stopped b m
heard_as ear.Reset byte ports b m = reset_said b m
heard_as ear.Quit byte ports b m = broken b m
