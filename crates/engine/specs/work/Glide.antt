-- A movement further on, for the loop of course that makes many pulses in one go: `Engine::glide` cites it. That such a loop is so many
-- clock calls is the law `glide-joins` of course.
use Rattle.motion.specs.declared.Counters.{Counters}
use Rattle.travel.specs.declared.Travel.{Travel}
use Rattle.engine.specs.declared.Job.{Job}
use Rattle.engine.specs.declared.Job.TheVariants as job
use Rattle.engine.specs.declared.Engine.{Engine}
use Rattle.engine.specs.State.{with_at, with_job}

-- the counters, and what is left of the movement that is under way; without one nothing changes
abbrev pub glided_by : Job → Counters → Travel → Engine → Engine
glided_by (job.Direct m) at rest e = with_job (with_at e at) (job.Direct rest)
glided_by (job.Moving m) at rest e = with_job (with_at e at) (job.Moving rest)
glided_by job.Idle at rest e = e
glided_by job.Storing at rest e = e
glided_by job.Ready at rest e = e
glided_by (job.Delay q) at rest e = e
glided_by (job.Wait c t) at rest e = e

unfoldable pub glided : Counters → Travel → Engine → Engine
glided at rest e = glided_by e.run.job at rest e
