-- What a clock call comes to, case by case: whatever holds of each case's outcome holds of the call's. Assumes nothing.
use Rattle.std.specs.Prelude.{Result, Ok, Err}
use Rattle.count.specs.Refusals.{letter_of}
use Rattle.count.specs.declared.Fault.{Fault}
use Prim.Native.Nat.{ℕ, zero, suc}
use mathlib.Core.Path.{◌≡◌, refl, sym, ap, ◌∙◌}
use mathlib.Core.Bool.{Bool, true, false, ◌||◌}
use mathlib.Core.Logic.{◌⊎◌, inl, inr}
use native.Mathlib.Omega.{arith}
use lib.Dec.{eqb}
use lib.ListN.{get_or}
use borrow.Author.Tests.{eqb-true}
use Rattle.count.specs.Pick.{pick}
use Rattle.motion.specs.Plan.{Asked, asked}
use Rattle.circle.specs.declared.Circling.{Circling}
use Rattle.circle.specs.Plan.{plane_of, direction_of, circling}
use Rattle.travel.specs.declared.Travel.{Travel}
use Rattle.travel.specs.Next.{Stepped, Next}
use Rattle.travel.specs.Next.Next.{Made, Over}
use Rattle.travel.specs.Plan.{plan_of, circle_of}
use Rattle.record.specs.declared.Record.{Record}
use Rattle.record.specs.Fault.{is_movement, is_absolute}
use Rattle.record.specs.declared.Found.{Found}
use Rattle.record.specs.declared.Found.TheVariants.{Got, End, Wrong}
use Rattle.program.specs.Going.{Way, Going}
use Rattle.program.specs.Going as going
use Rattle.program.specs.Onward.{onward_of}
use Rattle.engine.specs.declared.Answer.TheVariants as answer
use Rattle.engine.specs.declared.Job.{Job}
use Rattle.engine.specs.declared.Job.TheVariants as job
use Rattle.engine.specs.declared.Engine.{Engine}
use Rattle.engine.specs.declared.Told.{Told}
use Rattle.engine.specs.State.{with_three, with_circling, with_run, with_job, running, origin_of}
use Rattle.engine.specs.Tick.{Rule, Fetching, told, finished, failed, on_to, moving, moving_by, after_pause, delaying, leading, performed, fetched, directly, moving_on, ticked_by, ticked, runs_by, runs_of}

-- ---- one record

-- what a stored movement is planned from
abbrev pub asked_by : Record → Engine → Asked
asked_by r e = asked e.held.axes e.three e.at e.origin (is_absolute r.code) r.words

-- a circle as it is planned when its record is run
abbrev pub round_by : Record → Engine → Result Travel Fault
round_by r e = circle_of e.held.axes e.circling e.at r.words

-- a stored movement's plan, and a circle's
unfoldable pub planned_by : Record → Engine → Result Travel Fault
planned_by r e = pick (is_movement r.code) (plan_of (asked_by r e)) (round_by r e)

-- the plan of a movement, and of what is none
module _ (r : Record) (e : Engine) where
  abbrev plan_by : Bool → Result Travel Fault
  plan_by t = pick t (plan_of (asked_by r e)) (round_by r e)

  pub straight-plan : is_movement r.code ≡ true → planned_by r e ≡ plan_of (asked_by r e)
  unfolding planned_by
  straight-plan p = ap plan_by p

  pub round-plan : is_movement r.code ≡ false → planned_by r e ≡ round_by r e
  unfolding planned_by
  round-plan p = ap plan_by p

-- a movement's code, or a circle's
abbrev pub Travels : ℕ → Type 0
Travels code = (is_movement code ≡ true) ⊎ (code ≡ 121)

-- where a jump, a loop or a wait leads
abbrev pub way_of : Record → Engine → Way
way_of r e = onward_of r e.run.place e.held.records e.run.loops

-- a record that is no jump, loop or wait
pub record Plain (r : Record) : Type 0 where
  pub no_loop : r.code ≡ 51 → ⊥
  pub no-wait : r.code ≡ 50 → ⊥

pub record RecordCases (rule : Rule) (r : Record) (e : Engine) (P : Told → Type 0) : Type 0 where
  pub pulse : Plain r → (m : Travel) (s : Stepped) → planned_by r e ≡ Ok m → rule m e.at ≡ Made s
      → P (told (on_to (job.Moving s.rest) e) (answer.Pulse s.signs s.speed))
  pub still : Plain r → P (told (on_to job.Ready e) answer.Done)
  pub refused : (b : Fault) → Travels r.code → planned_by r e ≡ Err b → P (finished (letter_of b) e)
  pub origin : Plain r → r.code ≡ 110 → P (told (on_to job.Ready (origin_of (get_or r.words 0 0) e)) answer.Done)
  pub three : Plain r → (b : Bool) → P (told (on_to job.Ready (with_three e b)) answer.Done)
  pub turned : Plain r → (r.code ≡ 101) ⊎ (r.code ≡ 102) → (c : Circling) → P (told (on_to job.Ready (with_circling e c)) answer.Done)
  pub pause : Plain r → (t : ℕ) → P (told (on_to (after_pause t) e) answer.Pause)
  pub send : Plain r → r.code ≡ 49 → P (told (on_to job.Ready e) (answer.Send (get_or r.words 0 0)))
  pub to : (way_of r e).going ≡ going.To → P (told (with_run e (running job.Ready (way_of r e).place (way_of r e).loops)) answer.Done)
  pub waits : (way_of r e).going ≡ going.Waits
      → P (told (with_run e (running (job.Wait (get_or r.words 0 0) (way_of r e).target) (way_of r e).place (way_of r e).loops)) answer.Done)
  pub lost : (way_of r e).going ≡ going.Wrong → P (failed e)

module _ (rule : Rule) (r : Record) (e : Engine) (P : Told → Type 0) (c : RecordCases rule r e P) where
  plain : (k : ℕ) → r.code ≡ k → (k ≡ 51 → ⊥) → (k ≡ 50 → ⊥) → Plain r
  plain k e f g = record { no_loop = λ p. f (sym e ∙ p); no-wait = λ p. g (sym e ∙ p) }

  movement-plain : is_movement r.code ≡ true → Plain r
  movement-plain p = by (eqb r.code 48) (eqb r.code 109) refl refl p
    where
      by : (t u : Bool) → eqb r.code 48 ≡ t → eqb r.code 109 ≡ u → t || u ≡ true → Plain r
      by true u q v w = plain 48 (eqb-true r.code 48 q) (λ z. omega arith) (λ z. omega arith)
      by false true q v w = plain 109 (eqb-true r.code 109 v) (λ z. omega arith) (λ z. omega arith)
      by false false q v w = let z : ◌≡◌ {A = ℕ} 0 1 = cc in absurd (omega arith)

  is : (k : ℕ) → eqb r.code k ≡ true → r.code ≡ k
  is k q = eqb-true r.code k q

  moved_by : Plain r → (m : Travel) (n : Next) → planned_by r e ≡ Ok m → rule m e.at ≡ n → P (moving n e)
  moved_by l m (Made s) p q = c.pulse l m s p q
  moved_by l m Over p q = c.still l

  planned-by : Plain r → Travels r.code → (p : Result Travel Fault) → planned_by r e ≡ p → P (moving_by rule p e)
  planned-by l k (Ok m) q = moved_by l m (rule m e.at) q refl
  planned-by l k (Err b) q = c.refused b k q

  delayed-by : Plain r → (t : ℕ) → P (delaying t e)
  delayed-by l zero = c.still l
  delayed-by l (suc t) = c.pause l t

  led-by : (g : Going) → (way_of r e).going ≡ g → P (leading (way_of r e) g (get_or r.words 0 0) e)
  led-by going.To q = c.to q
  led-by going.Waits q = c.waits q
  led-by going.Wrong q = c.lost q

  pick-by : (t : Bool) {a b : Told} → (t ≡ true → P a) → (t ≡ false → P b) → P (pick t a b)
  pick-by true f g = f refl
  pick-by false f g = g refl

  pub record-cases : P (performed rule r e)
  unfolding performed
  record-cases =
      let w = get_or r.words 0 0 in
      pick-by (is_movement r.code) (λ p. planned-by (movement-plain p) (inl p) (plan_of (asked_by r e)) (straight-plan r e p))
      (λ m. pick-by (eqb r.code 110) (λ q. c.origin (plain 110 (is 110 q) (λ z. omega arith) (λ z. omega arith)) (is 110 q))
      (λ p. pick-by (eqb r.code 122) (λ q. c.three (plain 122 (is 122 q) (λ z. omega arith) (λ z. omega arith)) (eqb (get_or r.words 0 0) 1))
      (λ p. pick-by (eqb r.code 53) (λ q. delayed-by (plain 53 (is 53 q) (λ z. omega arith) (λ z. omega arith)) (get_or r.words 0 0))
      (λ p. pick-by (eqb r.code 49) (λ q. c.send (plain 49 (is 49 q) (λ z. omega arith) (λ z. omega arith)) (is 49 q))
      (λ p. pick-by (eqb r.code 101)
      (λ q. c.turned (plain 101 (is 101 q) (λ z. omega arith) (λ z. omega arith)) (inl (is 101 q)) (circling (plane_of w) e.circling.direction))
      (λ p. pick-by (eqb r.code 102)
      (λ q. c.turned (plain 102 (is 102 q) (λ z. omega arith) (λ z. omega arith)) (inr (is 102 q)) (circling e.circling.plane (direction_of w)))
      (λ p. pick-by (eqb r.code 121)
      (λ q. planned-by (plain 121 (is 121 q) (λ z. omega arith) (λ z. omega arith)) (inr (is 121 q)) (round_by r e) (round-plan r e m))
      (λ p. led-by (way_of r e).going refl))))))))

-- ---- one call

-- a program that goes on to the next record, or makes pulses before it does
abbrev pub reads_by : Job → Bool
reads_by job.Idle = false
reads_by job.Storing = false
reads_by (job.Direct m) = false
reads_by job.Ready = true
reads_by (job.Moving m) = true
reads_by (job.Delay q) = false
reads_by (job.Wait c t) = false

pub record Cases (rule : Rule) (fetch : Fetching) (e : Engine) (P : Told → Type 0) : Type 0 where
  pub nothing : runs_of e ≡ false → P (told e answer.Nothing)
  pub direct : (m : Travel) (s : Stepped) → e.run.job ≡ job.Direct m → rule m e.at ≡ Made s
      → P (told (with_job e (job.Direct s.rest)) (answer.Pulse s.signs s.speed))
  pub arrived : (m : Travel) → e.run.job ≡ job.Direct m → rule m e.at ≡ Over → P (finished 48 e)
  pub on : (m : Travel) (s : Stepped) → e.run.job ≡ job.Moving m → rule m e.at ≡ Made s
      → P (told (with_job e (job.Moving s.rest)) (answer.Pulse s.signs s.speed))
  pub pause : (q : ℕ) → e.run.job ≡ job.Delay q → P (told (with_job e (after_pause q)) answer.Pause)
  pub end : reads_by e.run.job ≡ true → fetch e.run.place ≡ End → P (finished 48 e)
  pub wrong : reads_by e.run.job ≡ true → fetch e.run.place ≡ Wrong → P (failed e)
  pub got : reads_by e.run.job ≡ true → (r : Record) → fetch e.run.place ≡ Got r → P (performed rule r e)

module _ (rule : Rule) (fetch : Fetching) (e : Engine) (P : Told → Type 0) (c : Cases rule fetch e P) where
  fetched-by : reads_by e.run.job ≡ true → (x : Found) → fetch e.run.place ≡ x → P (fetched rule x e)
  fetched-by l (Got r) q = c.got l r q
  fetched-by l End q = c.end l q
  fetched-by l Wrong q = c.wrong l q

  direct-by : (m : Travel) (n : Next) → e.run.job ≡ job.Direct m → rule m e.at ≡ n → P (directly n e)
  direct-by m (Made s) p q = c.direct m s p q
  direct-by m Over p q = c.arrived m p q

  on-by : (m : Travel) (n : Next) → e.run.job ≡ job.Moving m → rule m e.at ≡ n → P (moving_on rule fetch n e)
  on-by m (Made s) p q = c.on m s p q
  on-by m Over p q = fetched-by (ap reads_by p) (fetch e.run.place) refl

  job-by : (j : Job) → e.run.job ≡ j → (runs_by j ≡ false → runs_of e ≡ false) → P (ticked_by rule fetch j e)
  job-by job.Idle p f = c.nothing (f refl)
  job-by job.Storing p f = c.nothing (f refl)
  job-by (job.Direct m) p f = direct-by m (rule m e.at) p refl
  job-by job.Ready p f = fetched-by (ap reads_by p) (fetch e.run.place) refl
  job-by (job.Moving m) p f = on-by m (rule m e.at) p refl
  job-by (job.Delay q) p f = c.pause q p
  job-by (job.Wait k t) p f = c.nothing (f refl)

  pub cases : P (ticked rule fetch e)
  unfolding ticked runs_of
  cases = job-by e.run.job refl (λ q. q)
