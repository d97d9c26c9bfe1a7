-- What is under way, as one table (01, "Running a program", first and last paragraph): a row for each kind of job, a column for each question.
use Rattle.std.specs.Prelude.{Bool, true, false}
use Rattle.engine.specs.declared.Job.{Job}
use Rattle.engine.specs.declared.Job.TheVariants as job

-- a movement, direct or of a program, is under way; a program is else between two records, between the pauses of a delay, or in a wait
pub data Kind : Type 0 where
  Idle : Kind
  Storing : Kind
  Moving : Kind
  Between : Kind
  Pausing : Kind
  Waiting : Kind

abbrev pub kind : Job → Kind
kind job.Idle = Idle
kind job.Storing = Storing
kind (job.Direct m) = Moving
kind job.Ready = Between
kind (job.Moving m) = Moving
kind (job.Delay q) = Pausing
kind (job.Wait c t) = Waiting

-- what an ordinary byte meets: a line is gathered; it is dropped; or a wait takes it
pub data Ear : Type 0 where
  gathers : Ear
  drops : Ear
  waits : Ear

-- where nothing stands stopped: whether a clock call has something to do, what an ordinary byte meets, whether a stop holds it, whether a
-- break ends it; and whether it is idle, stores, rests (either of these), is in a delay, is in a wait
pub record KindRow : Type 0 where
  pub runs : Bool
  pub ear : Ear
  pub stops : Bool
  pub breaks : Bool
  pub is_idle : Bool
  pub is_storing : Bool
  pub is_resting : Bool
  pub is_pausing : Bool
  pub is_waiting : Bool

abbrev pub row_of : Kind → KindRow
row_of Idle = record { runs = false; ear = gathers; stops = false; breaks = false; is_idle = true; is_storing = false; is_resting = true; is_pausing = false; is_waiting = false }
row_of Storing = record { runs = false; ear = gathers; stops = false; breaks = false; is_idle = false; is_storing = true; is_resting = true; is_pausing = false; is_waiting = false }
row_of Moving = record { runs = true; ear = drops; stops = true; breaks = true; is_idle = false; is_storing = false; is_resting = false; is_pausing = false; is_waiting = false }
row_of Between = record { runs = true; ear = drops; stops = true; breaks = true; is_idle = false; is_storing = false; is_resting = false; is_pausing = false; is_waiting = false }
row_of Pausing = record { runs = true; ear = drops; stops = false; breaks = true; is_idle = false; is_storing = false; is_resting = false; is_pausing = true; is_waiting = false }
row_of Waiting = record { runs = false; ear = waits; stops = false; breaks = true; is_idle = false; is_storing = false; is_resting = false; is_pausing = false; is_waiting = true }
