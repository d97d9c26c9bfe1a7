-- One clock call (01, "Running a program", paragraph 1; "Movement", last sentence; 02, §3): the next pulse, one pause, or one record. It is
-- defined once, over the rule that gives the next pulse and over how the record at a place is fetched.
use Rattle.count.specs.declared.Fault.{Fault}
use Rattle.count.specs.Refusals.{letter_of}
use Rattle.std.specs.Prelude.{ℕ, zero, suc, ◌+◌, Bool, List, [], ltb, eqb, length, get_or, Result, Ok, Err}
use Rattle.count.specs.Chars.{ch}
use Rattle.count.specs.Pick.{pick}
use Rattle.motion.specs.declared.Counters.{Counters}
use Rattle.motion.specs.Phase.{moved_all}
use Rattle.motion.specs.Plan.{asked}
use Rattle.circle.specs.Plan.{plane_of, direction_of}
use Rattle.travel.specs.declared.Travel.{Travel}
use Rattle.travel.specs.Next.{Next}
use Rattle.travel.specs.Next.Next.{Made, Over}
use Rattle.travel.specs.Plan.{plan_of, circle_of}
use Rattle.record.specs.declared.Record.{Record}
use Rattle.record.specs.Fault.{is_movement, is_absolute}
use Rattle.record.specs.Bytes.{made}
use Rattle.record.specs.declared.Found.{Found}
use Rattle.record.specs.declared.Found.TheVariants.{Got, End, Wrong}
use Rattle.program.specs.Going.{Going}
use Rattle.program.specs.Going as going
use Rattle.program.specs.Going.{Way}
use Rattle.program.specs.Onward.{onward_of}
use Rattle.engine.specs.declared.Answer.{Answer}
use Rattle.engine.specs.declared.Answer.TheVariants as answer
use Rattle.engine.specs.declared.Job.{Job}
use Rattle.engine.specs.declared.Job.TheVariants as job
use Rattle.engine.specs.declared.Engine.{Engine}
use Rattle.engine.specs.declared.Told.{Told}
use Rattle.engine.specs.Kinds.{kind, row_of}
use Rattle.engine.specs.State.{with_at, with_three, with_plane, with_direction, with_run, with_job, running, origin_of, ceased, emptied}

-- the next pulse of what moves, and the record at a place
abbrev pub Rule : Type 0
Rule = Travel → Counters → Next

abbrev pub Fetching : Type 0
Fetching = ℕ → Found

-- ---- the answer, and the only place where a clock call moves the counters: a pulse adds its signs

abbrev pub after : Answer → Engine → Engine
after (answer.Pulse s v) e = with_at e (moved_all e.at s)
after answer.Pause e = e
after (answer.Send b) e = e
after answer.Done e = e
after answer.Nothing e = e

abbrev pub told : Engine → Answer → Told
told e a = record { engine = after a e; answer = a }

-- ---- how a run ends: one call that sends the character, then idle; G empties the store

abbrev pub finished : ℕ → Engine → Told
finished b e = told (ceased e) (answer.Send b)

abbrev pub failed : Engine → Told
failed e = finished (ch "G") (emptied e)

-- ---- one record

-- on to the next record, with a job
abbrev pub on_to : Job → Engine → Engine
on_to j e = with_run e (running j (e.run.place + 1) e.run.loops)

-- a movement's first pulse needs no call before it; one without a pulse takes one call
abbrev pub moving : Next → Engine → Told
moving (Made s) e = told (on_to (job.Moving s.rest) e) (answer.Pulse s.signs s.speed)
moving Over e = told (on_to job.Ready e) answer.Done

-- it is planned as it is run, under the store's axes; 9, or a circle's 3 or 1, ends the program without a pulse of it and keeps the store
abbrev pub moving_by : Rule → Result Travel Fault → Engine → Told
moving_by rule (Ok m) e = moving (rule m e.at) e
moving_by rule (Err f) e = finished (letter_of f) e

-- the pauses after this one
abbrev pub after_pause : ℕ → Job
after_pause zero = job.Ready
after_pause (suc q) = job.Delay q

-- a delay has one pause per tenth; one of none takes one call
abbrev pub delaying : ℕ → Engine → Told
delaying zero e = told (on_to job.Ready e) answer.Done
delaying (suc t) e = told (on_to (after_pause t) e) answer.Pause

-- jump, loop and wait: the place and the loops that they lead to; a wait keeps its character and target; G where they lead nowhere
abbrev pub leading : Way → Going → ℕ → Engine → Told
leading o going.To c e = told (with_run e (running job.Ready o.place o.loops)) answer.Done
leading o going.Waits c e = told (with_run e (running (job.Wait c o.target) o.place o.loops)) answer.Done
leading o going.Wrong c e = failed e

unfoldable pub performed : Rule → Record → Engine → Told
performed rule r e =
    pick (is_movement r.code) (moving_by rule (plan_of (asked e.held.axes e.three e.at e.origin (is_absolute r.code) r.words)) e)
    (pick (eqb r.code (ch "n")) (told (on_to job.Ready (origin_of (get_or r.words 0 0) e)) answer.Done)
    (pick (eqb r.code (ch "z")) (told (on_to job.Ready (with_three e (eqb (get_or r.words 0 0) 1))) answer.Done)
    (pick (eqb r.code (ch "5")) (delaying (get_or r.words 0 0) e)
    (pick (eqb r.code (ch "1")) (told (on_to job.Ready e) (answer.Send (get_or r.words 0 0)))
    (pick (eqb r.code (ch "e")) (told (on_to job.Ready (with_plane (plane_of (get_or r.words 0 0)) e)) answer.Done)
    (pick (eqb r.code (ch "f")) (told (on_to job.Ready (with_direction (direction_of (get_or r.words 0 0)) e)) answer.Done)
    (pick (eqb r.code (ch "y")) (moving_by rule (circle_of e.held.axes e.circling e.at r.words) e)
    (let o = onward_of r e.run.place e.held.records e.run.loops in leading o o.going (get_or r.words 0 0) e))))))))

-- the record at the place; at the end place one call sends 0; what cannot be found and read ends with G
abbrev pub fetched : Rule → Found → Engine → Told
fetched rule (Got r) e = performed rule r e
fetched rule End e = finished (ch "0") e
fetched rule Wrong e = failed e

-- ---- one clock call, by what is under way

-- a direct movement or circle sends 0 by one call after its last pulse
abbrev pub directly : Next → Engine → Told
directly (Made s) e = told (with_job e (job.Direct s.rest)) (answer.Pulse s.signs s.speed)
directly Over e = finished (ch "0") e

-- one of a program with no pulse left gives way to the next record
abbrev pub moving_on : Rule → Fetching → Next → Engine → Told
moving_on rule fetch (Made s) e = told (with_job e (job.Moving s.rest)) (answer.Pulse s.signs s.speed)
moving_on rule fetch Over e = fetched rule (fetch e.run.place) e

-- idle, storing and waiting: nothing
abbrev pub ticked_by : Rule → Fetching → Job → Engine → Told
ticked_by rule fetch job.Idle e = told e answer.Nothing
ticked_by rule fetch job.Storing e = told e answer.Nothing
ticked_by rule fetch (job.Direct m) e = directly (rule m e.at) e
ticked_by rule fetch job.Ready e = fetched rule (fetch e.run.place) e
ticked_by rule fetch (job.Moving m) e = moving_on rule fetch (rule m e.at) e
ticked_by rule fetch (job.Delay q) e = told (with_job e (after_pause q)) answer.Pause
ticked_by rule fetch (job.Wait c t) e = told e answer.Nothing

unfoldable pub ticked : Rule → Fetching → Engine → Told
ticked rule fetch e = ticked_by rule fetch e.run.job e

-- whether a clock call has something to do
abbrev pub runs_by : Job → Bool
runs_by j = (row_of (kind j)).runs

unfoldable pub runs_of : Engine → Bool
runs_of e = runs_by e.run.job

-- the list machine's fetch: a program as a list of records
unfoldable pub list_fetch : List Record → Fetching
list_fetch l p = pick (ltb p (length l)) (Got (get_or l p (made 0 []))) (pick (eqb p (length l)) End Wrong)
