-- The engine's state and what lines and control codes do to it (01, "Lines", table of lines; "Running a program", last paragraph; 02, §3 for
-- circles, §7 for the A axis).
use Rattle.count.specs.declared.Fault.{Fault}
use Rattle.count.specs.Refusals.{letter_of}
use Rattle.std.specs.Prelude.{ℕ, ◌+◌, Bool, false, List, [], ◌∷◌, eqb, pos, Option, Some, None, Result, Ok, Err}
use Rattle.count.specs.Chars.{ch}
use Rattle.count.specs.Pick.{pick}
use Rattle.count.specs.Paper.{Paper, says}
use Rattle.count.specs.Numbers.{half}
use Rattle.count.specs.declared.Axis.TheVariants.{A}
use Rattle.count.specs.Axes.{part, has}
use Rattle.motion.specs.declared.Counters.{Counters}
use Rattle.motion.specs.Axes.{on, point}
use Rattle.motion.specs.Phase.{signs_then}
use Rattle.motion.specs.Plan.{asked}
use Rattle.circle.specs.declared.Plane.{Plane}
use Rattle.circle.specs.declared.Direction.{Direction}
use Rattle.circle.specs.declared.Circling.{Circling}
use Rattle.circle.specs.Plan.{circling, at_first}
use Rattle.travel.specs.declared.Travel.{Travel}
use Rattle.travel.specs.Next.{left_of}
use Rattle.travel.specs.Plan.{plan_of, circle_of}
use Rattle.record.specs.declared.Held.{Held}
use Rattle.program.specs.declared.Loops.{Loops}
use Rattle.program.specs.Onward.{no_loops}
use Rattle.engine.specs.declared.Answer.{Answer}
use Rattle.engine.specs.declared.Answer.TheVariants as answer
use Rattle.engine.specs.declared.Job.{Job}
use Rattle.engine.specs.declared.Job.TheVariants as job
use Rattle.engine.specs.declared.Run.{Run}
use Rattle.engine.specs.declared.Engine.{Engine}
use Rattle.engine.specs.Kinds.{kind, row_of}

-- ---- the answer on paper: 1 a pulse with its signs and speed, 2 a pause, 3 a byte to send, 4 a record done, 5 nothing

abbrev pub paper : Answer → Paper
paper (answer.Pulse s v) = says 1 (signs_then s (pos v ∷ []))
paper answer.Pause = says 2 []
paper (answer.Send b) = says 3 (pos b ∷ [])
paper answer.Done = says 4 []
paper answer.Nothing = says 5 []

-- ---- one field made anew, the others kept

abbrev pub with_axes : Engine → ℕ → Engine
with_axes e n = record { axes = n; at = e.at; origin = e.origin; three = e.three; circling = e.circling; output = e.output; held = e.held; run = e.run }

abbrev pub with_at : Engine → Counters → Engine
with_at e c = record { axes = e.axes; at = c; origin = e.origin; three = e.three; circling = e.circling; output = e.output; held = e.held; run = e.run }

abbrev pub with_origin : Engine → Counters → Engine
with_origin e c = record { axes = e.axes; at = e.at; origin = c; three = e.three; circling = e.circling; output = e.output; held = e.held; run = e.run }

abbrev pub with_three : Engine → Bool → Engine
with_three e b = record { axes = e.axes; at = e.at; origin = e.origin; three = b; circling = e.circling; output = e.output; held = e.held; run = e.run }

abbrev pub with_circling : Engine → Circling → Engine
with_circling e c = record { axes = e.axes; at = e.at; origin = e.origin; three = e.three; circling = c; output = e.output; held = e.held; run = e.run }

abbrev pub with_output : Engine → ℕ → Engine
with_output e v = record { axes = e.axes; at = e.at; origin = e.origin; three = e.three; circling = e.circling; output = v; held = e.held; run = e.run }

abbrev pub with_held : Engine → Held → Engine
with_held e h = record { axes = e.axes; at = e.at; origin = e.origin; three = e.three; circling = e.circling; output = e.output; held = h; run = e.run }

abbrev pub with_run : Engine → Run → Engine
with_run e r = record { axes = e.axes; at = e.at; origin = e.origin; three = e.three; circling = e.circling; output = e.output; held = e.held; run = r }

abbrev pub running : Job → ℕ → Loops → Run
running j place loops = record { job = j; place = place; loops = loops }

abbrev pub with_job : Engine → Job → Engine
with_job e j = with_run e (running j e.run.place e.run.loops)

-- ---- axes

-- the counters of all axes at 0
abbrev pub zeroes : Counters
zeroes = point (λ i. half)

-- the counters of the axes named taken from one, the others from another
unfoldable pub mixed : ℕ → Counters → Counters → Counters
mixed axes c d = point (λ i. pick (has axes i) (on i c) (on i d))

-- n: origin := position; N: position and origin := 0
abbrev pub origin_of : ℕ → Engine → Engine
origin_of axes e = with_origin e (mixed axes e.at e.origin)

abbrev pub zero_of : ℕ → Engine → Engine
zero_of axes e = with_origin (with_at e (mixed axes zeroes e.at)) (mixed axes zeroes e.origin)

-- setting axes 1, 3 or 7: positions and origins 0, 2.5D on; plane 0, clockwise
abbrev pub anew_of : ℕ → Engine → Engine
anew_of axes e = record { axes = axes; at = zeroes; origin = zeroes; three = false; circling = at_first; output = e.output; held = e.held; run = e.run }

-- setting 8 (02, §7): A beside the axes set, which stay as they are where A is one of them; position and origin of A 0, and nothing else changes
abbrev pub beside_a : ℕ → ℕ
beside_a axes = pick (has axes A) axes (axes + part A)

abbrev pub turntable_of : Engine → Engine
turntable_of e = with_axes (zero_of (part A) e) (beside_a e.axes)

abbrev pub axes_of : ℕ → Engine → Engine
axes_of axes e = pick (eqb axes (part A)) (turntable_of e) (anew_of axes e)

-- ---- circles: e sets their plane, f their direction

abbrev pub with_plane : Plane → Engine → Engine
with_plane p e = with_circling e (circling p e.circling.direction)

abbrev pub with_direction : Direction → Engine → Engine
with_direction d e = with_circling e (circling e.circling.plane d)

-- ---- the run and the store's part in use

-- nothing runs: place 0, no loop open
abbrev pub idle : Run
idle = running job.Idle 0 no_loops

abbrev pub ceased : Engine → Engine
ceased e = with_run e idle

-- a start is at place 0 with no loop open
abbrev pub started : Engine → Engine
started e = with_run e (running job.Ready 0 no_loops)

-- emptying the store sets its used length, records and axes to 0 and leaves its bytes
abbrev pub nothing_held : Held
nothing_held = record { used = 0; records = 0; axes = 0 }

abbrev pub emptied : Engine → Engine
emptied e = with_held e nothing_held

-- a fresh board's engine: a reset one with an emptied store
abbrev pub fresh : Engine
fresh = record { axes = 0; at = zeroes; origin = zeroes; three = false; circling = at_first; output = 0; held = nothing_held; run = idle }

-- storing begins with an emptied store, under the axes set
abbrev pub storing_of : Engine → Engine
storing_of e = with_run (with_held e (record { used = 0; records = 0; axes = e.axes })) (running job.Storing 0 no_loops)

-- reset: axes, positions, origins, outputs and run cleared, 2.5D, plane 0, clockwise; the store is kept, but one being written is emptied
abbrev pub kept_by : Job → Held → Held
kept_by j h = pick (row_of (kind j)).is_storing nothing_held h

unfoldable pub reset_of : Engine → Engine
reset_of e = record { axes = 0; at = zeroes; origin = zeroes; three = false; circling = at_first; output = 0; held = kept_by e.run.job e.held; run = idle }

-- ---- a byte at a wait: equal to the character it jumps to the target, any other goes on to the next record

abbrev pub heard_by : Job → ℕ → Engine → Engine
heard_by (job.Wait c t) b e = pick (eqb b c) (with_run e (running job.Ready t e.run.loops)) (with_job e job.Ready)
heard_by job.Idle b e = e
heard_by job.Storing b e = e
heard_by (job.Direct m) b e = e
heard_by job.Ready b e = e
heard_by (job.Moving m) b e = e
heard_by (job.Delay q) b e = e

unfoldable pub heard : ℕ → Engine → Engine
heard b e = heard_by e.run.job b e

-- ---- a direct movement or circle: the reply that refuses it; reply 0 if it has no pulse; else it runs and replies nothing yet

pub record Begun : Type 0 where
  pub engine : Engine
  pub reply : ℕ

abbrev pub begun : ℕ → Engine → Begun
begun reply e = record { engine = e; reply = reply }

-- without a pulse left
abbrev pub no_pulse : Travel → Bool
no_pulse m = eqb (left_of m) 0

abbrev pub begun_by : Result Travel Fault → Engine → Begun
begun_by (Ok m) e = pick (no_pulse m) (begun (ch "0") e) (begun 0 (with_job e (job.Direct m)))
begun_by (Err f) e = begun (letter_of f) e

-- as the code answers it: what refuses it; no engine, where there is no pulse to make; or the engine that moves
abbrev pub begun_in : Engine → Result (Option Engine) Fault → Begun
begun_in e (Ok (Some d)) = begun 0 d
begun_in e (Ok None) = begun (ch "0") e
begun_in e (Err f) = begun (letter_of f) e

unfoldable pub begin_of : Bool → List ℕ → Engine → Begun
begin_of absolute words e = begun_by (plan_of (asked e.axes e.three e.at e.origin absolute words)) e

unfoldable pub circle_begun : List ℕ → Engine → Begun
circle_begun words e = begun_by (circle_of e.axes e.circling e.at words) e
