-- Stands in contracts of functions that are not exported: nothing of it need be believed. Its laws: proofs/laws/Going.antt.
use Rattle.std.specs.Prelude.{ℕ, List}
use Rattle.travel.specs.work.Beat.{next_of}
use Rattle.record.specs.Memory.{Memory}
use Rattle.record.specs.Table.{fetch_of}
use Rattle.engine.specs.declared.Engine.{Engine}
use Rattle.engine.specs.declared.Job.{Job}
use Rattle.engine.specs.declared.Job.TheVariants as job
use Rattle.engine.specs.State.{with_at, with_job}
use Rattle.engine.specs.Tick.{ticked, runs_of}
use Rattle.course.specs.declared.Went.{Went}
use Rattle.course.specs.Text.{turning, answer_text}
use Rattle.course.specs.work.Machine.{Way, stays, way, Left}
use Rattle.course.specs.work.Glide.{Gone, here, glides, glide_on, glide_said}

abbrev pub tick_next : Memory → Engine → Engine
tick_next m e = (ticked next_of (fetch_of e.held m) e).engine

abbrev pub tick_said : Memory → Engine → List ℕ
tick_said m e = answer_text (turning e) (ticked next_of (fetch_of e.held m) e).answer

-- clock calls while something runs
abbrev pub go_way : Memory → ℕ → Engine → Way Engine
go_way m = way runs_of (tick_next m) (tick_said m)

abbrev pub in_direct : Engine → Gone → Engine
in_direct e g = with_job (with_at e g.at) (job.Direct g.rest)

abbrev pub in_moving : Engine → Gone → Engine
in_moving e g = with_job (with_at e g.at) (job.Moving g.rest)

abbrev pub map_way : {S T : Type 0} → (T → S) → Way T → Way S
map_way f w = record { state = f w.state; calls = w.calls; text = w.text }

-- the pulses of what is under way, if it is a movement
unfoldable pub glide_job : Job → ℕ → Engine → Way Engine
glide_job job.Idle k e = stays e
glide_job job.Storing k e = stays e
glide_job (job.Direct m) k e = map_way (in_direct e) (way glides glide_on (glide_said (turning e)) k (here m e.at))
glide_job job.Ready k e = stays e
glide_job (job.Moving m) k e = map_way (in_moving e) (way glides glide_on (glide_said (turning e)) k (here m e.at))
glide_job (job.Delay q) k e = stays e
glide_job (job.Wait c t) k e = stays e

abbrev pub went_of : Went → List ℕ → Left Engine
went_of r out = record { state = r.engine; calls = r.calls; len = r.len; out = out }
