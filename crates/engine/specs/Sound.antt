-- What 103 asks of an engine (01, "Calls", table, row 103).
use Rattle.std.specs.Prelude.{ℕ, Bool, true, ◌&&◌, ◌||◌, leb, eqb}
use Rattle.count.specs.Sizes.{store_bytes, most_records}
use Rattle.count.specs.Axes.{axes_set}
use Rattle.motion.specs.declared.Counters.{Counters}
use Rattle.motion.specs.Sound.{counted}
use Rattle.travel.specs.Sound.{under_way}
use Rattle.engine.specs.declared.Job.{Job}
use Rattle.engine.specs.declared.Job.TheVariants as job
use Rattle.engine.specs.declared.Engine.{Engine}

-- axes or store axes: 0, or those that lines set: 1, 3, 7, 8 or 15
abbrev pub axes_known : ℕ → Bool
axes_known a = eqb a 0 || axes_set a

-- a movement or an arc under way, direct or of a program
abbrev pub job_sound : Job → Counters → Bool
job_sound (job.Direct m) at = under_way m at
job_sound (job.Moving m) at = under_way m at
job_sound job.Idle at = true
job_sound job.Storing at = true
job_sound job.Ready at = true
job_sound (job.Delay q) at = true
job_sound (job.Wait c t) at = true

-- positions and origins of 24 bits; axes; at most 16,384 bytes and 1,000 records in use; at most 7 loops; the movement
unfoldable pub sound_of : Engine → Bool
sound_of e =
    counted e.at && counted e.origin
    && (axes_known e.axes && axes_known e.held.axes)
    && (leb e.held.used store_bytes && leb e.held.records most_records)
    && leb e.run.loops.depth 7
    && job_sound e.run.job e.at
