-- What a clock call does, decided before it is done: `Engine::see`, `Engine::act` and `Engine::under_way` cite it. That doing what was
-- decided is the clock call of Tick, and that 103's word on it is that of Sound, are the laws `acted-is-ticked` and `seen-wrong`.
use Rattle.travel.specs.declared.Travel.{Travel}
use Rattle.std.specs.Prelude.{Bool, true, false, ◌&&◌, [], leb, Option, Some, None}
use Rattle.count.specs.Chars.{ch}
use Rattle.count.specs.Sizes.{store_bytes, most_records}
use Rattle.count.specs.Pick.{pick}
use Rattle.count.specs.Paper.{Paper, says}
use Rattle.motion.specs.declared.Counters.{Counters}
use Rattle.motion.specs.declared.Mark.{Mark}
use Rattle.motion.specs.declared.Beat.{Beat}
use Rattle.motion.specs.declared.Look.{Look}
use Rattle.motion.specs.declared.Look.TheVariants as look
use Rattle.motion.specs.Sound.{counted}
use Rattle.travel.specs.Next.{Next}
use Rattle.travel.specs.Next.Next.{Made, Over}
use Rattle.travel.specs.Plan.{travel_paper}
use Rattle.travel.specs.work.Beat.{next_of, at_mark, beat_of, look_of}
use Rattle.engine.specs.declared.Answer.TheVariants as answer
use Rattle.engine.specs.declared.Job.{Job}
use Rattle.engine.specs.declared.Job.TheVariants as job
use Rattle.engine.specs.declared.Run.{Run}
use Rattle.engine.specs.declared.Engine.{Engine}
use Rattle.engine.specs.declared.Told.{Told}
use Rattle.engine.specs.declared.Act.{Act}
use Rattle.engine.specs.declared.Act.TheVariants as act
use Rattle.engine.specs.State.{paper, with_at, with_run, with_job}
use Rattle.engine.specs.Sound.{axes_known, sound_of}
use Rattle.engine.specs.Tick.{Rule, Fetching, told, finished, after_pause, fetched}

-- ---- what is under way

-- what moves, if something does
abbrev pub under_of : Job → Option Travel
under_of job.Idle = None
under_of job.Storing = None
under_of (job.Direct m) = Some m
under_of job.Ready = None
under_of (job.Moving m) = Some m
under_of (job.Delay q) = None
under_of (job.Wait c t) = None

-- the same movement at another mark
abbrev pub marked_job : Mark → Job → Job
marked_job k job.Idle = job.Idle
marked_job k job.Storing = job.Storing
marked_job k (job.Direct m) = job.Direct (at_mark m k)
marked_job k job.Ready = job.Ready
marked_job k (job.Moving m) = job.Moving (at_mark m k)
marked_job k (job.Delay q) = job.Delay q
marked_job k (job.Wait c t) = job.Wait c t

-- ---- what a clock call does

-- where no pulse is left
abbrev pub rest_of : Job → Act
rest_of job.Idle = act.Still
rest_of job.Storing = act.Still
rest_of (job.Direct m) = act.Finish
rest_of job.Ready = act.Record
rest_of (job.Moving m) = act.Record
rest_of (job.Delay q) = act.Pause q
rest_of (job.Wait c t) = act.Still

abbrev pub pulse_act : Next → Job → Act
pulse_act (Made s) j = act.Pulse (beat_of s)
pulse_act Over j = rest_of j

abbrev pub act_under : Rule → Option Travel → Job → Counters → Act
act_under rule (Some m) j at = pulse_act (rule m at) j
act_under rule None j at = rest_of j

-- whatever 103 says
unfoldable pub act_by : Rule → Job → Counters → Act
act_by rule j at = act_under rule (under_of j) j at

-- or that 103 refuses the movement
abbrev pub look_act : Look → Job → Act
look_act look.Wrong j = act.Wrong
look_act (look.Made b) j = act.Pulse b
look_act look.Over j = rest_of j

abbrev pub look_under : Option Travel → Job → Counters → Act
look_under (Some m) j at = look_act (look_of m at) j
look_under None j at = rest_of j

unfoldable pub look_by : Job → Counters → Act
look_by j at = look_under (under_of j) j at

-- what 103 asks of all but the movement
unfoldable pub fits_of : Engine → Bool
fits_of e =
    counted e.at && counted e.origin
    && (axes_known e.axes && axes_known e.held.axes)
    && (leb e.held.used store_bytes && leb e.held.records most_records)
    && leb e.run.loops.depth 7

-- a state that 103 lets pass, and what a clock call on it does
unfoldable pub seen_of : Engine → Act
seen_of e = pick (sound_of e) (act_by next_of e.run.job e.at) act.Wrong

abbrev pub is_wrong : Act → Bool
is_wrong act.Wrong = true
is_wrong act.Still = false
is_wrong (act.Pulse b) = false
is_wrong (act.Pause q) = false
is_wrong act.Finish = false
is_wrong act.Record = false

-- ---- and how it is done

-- a pulse, with the run after it
abbrev pub pulsed : Run → Beat → Engine → Told
pulsed r b e = record { engine = with_run (with_at e b.at) r; answer = answer.Pulse b.signs b.speed }

abbrev pub acted_by : Rule → Fetching → Act → Engine → Told
acted_by rule fetch act.Wrong e = told e answer.Nothing
acted_by rule fetch act.Still e = told e answer.Nothing
acted_by rule fetch (act.Pulse b) e = pulsed (record { job = marked_job b.mark e.run.job; place = e.run.place; loops = e.run.loops }) b e
acted_by rule fetch (act.Pause q) e = told (with_job e (after_pause q)) answer.Pause
acted_by rule fetch act.Finish e = finished (ch "0") e
acted_by rule fetch act.Record e = fetched rule (fetch e.run.place) e

-- ---- on paper: an act is what it answers once done, or 103; a movement under way is its plan

abbrev pub act_paper : Fetching → Engine → Act → Paper
act_paper fetch e act.Wrong = says 103 []
act_paper fetch e act.Still = says 5 []
act_paper fetch e (act.Pulse b) = paper (answer.Pulse b.signs b.speed)
act_paper fetch e (act.Pause q) = says 2 []
act_paper fetch e act.Finish = paper (answer.Send (ch "0"))
act_paper fetch e act.Record = paper (fetched next_of (fetch e.run.place) e).answer

abbrev pub under_paper : Option Travel → Paper
under_paper (Some m) = travel_paper m
under_paper None = says 5 []
