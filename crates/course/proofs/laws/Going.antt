-- The run of an engine as a machine, and how far a movement's pulses go in it: the rule of the code. `Boards.antt` joins it to the
-- clock calls that 01 speaks of. Assumes nothing.
use Prim.Native.Nat.{ℕ, ◌-◌, ◌≤◌}
use mathlib.Core.Path.{◌≡◌, refl, ap, sym, ◌∙◌}
use mathlib.Core.Bool.{Bool, true}
use native.Mathlib.Omega.{arith}
use Rattle.motion.specs.declared.Counters.{Counters}
use Rattle.travel.specs.Next.{Next}
use Rattle.travel.specs.Next.Next.{Made, Over}
use Rattle.travel.specs.work.Beat.{next_of, within_of, made}
use Rattle.travel.proofs.laws.Within.{within-next}
use Rattle.record.specs.Memory.{Memory}
use Rattle.record.specs.Table.{fetch_of}
use Rattle.engine.specs.declared.Engine.{Engine}
use Rattle.engine.specs.declared.Job.{Job}
use Rattle.engine.specs.declared.Job.TheVariants as job
use Rattle.engine.specs.State.{with_at, with_job}
use Rattle.engine.specs.Tick.{ticked, runs_of, directly, moving_on}
use Rattle.engine.proofs.laws.Work.{next-moved}
use Rattle.course.specs.Text.{turning, answer_text}
use Rattle.course.proofs.laws.Machine.{few, inner, then-none}
use Rattle.course.specs.work.Machine.{Way, stays, then}
use Rattle.course.specs.work.Glide.{Gone, here, glides, glide_on, glide_said, gone_by, said_by}
use Rattle.course.specs.work.Going.{glide_job, go_way, in_direct, in_moving, tick_next, tick_said}

-- ---- a pulse of what moves is a clock call of the engine that holds it

abbrev Same : Memory → (Gone → Engine) → Bool → Gone → Type 0
Same mem put turns t = (runs_of (put t) ≡ true) × (tick_next mem (put t) ≡ put (glide_on t)) × (tick_said mem (put t) ≡ glide_said turns t)

module _ (mem : Memory) (e : Engine) (t : Gone) where
  direct-by : (x : Next) → next_of t.rest t.at ≡ x → made x ≡ true
      → ((directly x (in_direct e t)).engine ≡ in_direct e (gone_by x t)) × (answer_text (turning e) (directly x (in_direct e t)).answer ≡ said_by (turning e) x)
  direct-by (Made s) p q = (ap (λ (c : Counters). in_direct e (here s.rest c)) (sym (next-moved t.rest t.at s refl p)), refl)
  direct-by Over p q = let z : ◌≡◌ {A = ℕ} 0 1 = cc in absurd (omega arith)

  moving-by : (x : Next) → next_of t.rest t.at ≡ x → made x ≡ true
      → ((moving_on next_of (fetch_of e.held mem) x (in_moving e t)).engine ≡ in_moving e (gone_by x t)) × (answer_text (turning e) (moving_on next_of (fetch_of e.held mem) x (in_moving e t)).answer ≡ said_by (turning e) x)
  moving-by (Made s) p q = (ap (λ (c : Counters). in_moving e (here s.rest c)) (sym (next-moved t.rest t.at s refl p)), refl)
  moving-by Over p q = let z : ◌≡◌ {A = ℕ} 0 1 = cc in absurd (omega arith)

  same-direct : glides t ≡ true → Same mem (in_direct e) (turning e) t
  unfolding glides ticked runs_of
  same-direct p =
      let q = within-next t.rest t.at p in
      let d = direct-by (within_of t.rest t.at) q p in
      (refl, ap (λ (x : Next). (directly x (in_direct e t)).engine) q ∙ d.0, ap (λ (x : Next). answer_text (turning e) (directly x (in_direct e t)).answer) q ∙ d.1)

  same-moving : glides t ≡ true → Same mem (in_moving e) (turning e) t
  unfolding glides ticked runs_of
  same-moving p =
      let q = within-next t.rest t.at p in
      let d = moving-by (within_of t.rest t.at) q p in
      let f = fetch_of e.held mem in
      (refl, ap (λ (x : Next). (moving_on next_of f x (in_moving e t)).engine) q ∙ d.0, ap (λ (x : Next). answer_text (turning e) (moving_on next_of f x (in_moving e t)).answer) q ∙ d.1)

-- ---- so the pulses are a part of the run

abbrev pub Joins : Memory → ℕ → Engine → Way Engine → Type 0
Joins mem k e g = go_way mem k e ≡ then g.calls g.text (go_way mem (k - g.calls) g.state)

none-joins : (mem : Memory) (k : ℕ) (e : Engine) → Joins mem k e (stays e)
none-joins mem k e =
    let p : k - 0 ≡ k = omega arith in
    rw p (then-none (go_way mem k e))

same-job : (e : Engine) (j : Job) → e.run.job ≡ j → with_job (with_at e e.at) j ≡ e
same-job e j p = λ i. with_job (with_at e e.at) (sym p i)

pub glide-joins : (mem : Memory) (k : ℕ) (e : Engine) (j : Job) → e.run.job ≡ j → Joins mem k e (glide_job j k e)
unfolding glide_job
glide-joins mem k e job.Idle p = none-joins mem k e
glide-joins mem k e job.Storing p = none-joins mem k e
glide-joins mem k e (job.Direct m) p =
    ap (λ d. go_way mem k d) (sym (same-job e (job.Direct m) p))
    ∙ inner runs_of (tick_next mem) (tick_said mem) glides glide_on (glide_said (turning e)) (in_direct e) (λ t. same-direct mem e t) k (here m e.at)
glide-joins mem k e job.Ready p = none-joins mem k e
glide-joins mem k e (job.Moving m) p =
    ap (λ d. go_way mem k d) (sym (same-job e (job.Moving m) p))
    ∙ inner runs_of (tick_next mem) (tick_said mem) glides glide_on (glide_said (turning e)) (in_moving e) (λ t. same-moving mem e t) k (here m e.at)
glide-joins mem k e (job.Delay q) p = none-joins mem k e
glide-joins mem k e (job.Wait c t) p = none-joins mem k e

pub glide-few : (j : Job) (k : ℕ) (e : Engine) → (glide_job j k e).calls ≤ k
unfolding glide_job
glide-few job.Idle k e = omega arith
glide-few job.Storing k e = omega arith
glide-few (job.Direct m) k e = few glides glide_on (glide_said (turning e)) k (here m e.at)
glide-few job.Ready k e = omega arith
glide-few (job.Moving m) k e = few glides glide_on (glide_said (turning e)) k (here m e.at)
glide-few (job.Delay q) k e = omega arith
glide-few (job.Wait c t) k e = omega arith
