-- A whole run: calls and bytes heard in any order. An accepted program's run never ends with G, on the list and on its store; and where
-- it reaches the end place one call sends 0 and it is idle. Assumes nothing.
use Prim.Native.Nat.{ℕ}
use mathlib.Core.Path.{◌≡◌, refl, sym, ap, ◌∙◌, subst}
use mathlib.Core.Bool.{Bool, true, false}
use mathlib.Core.List.{List, [], ◌∷◌}
use native.Mathlib.Omega.{arith}
use lib.Dec.{eqb}
use lib.ListN.{length}
use Rattle.count.specs.Pick.{pick}
use Rattle.travel.specs.declared.Travel.{Travel}
use Rattle.travel.specs.Next.{Next}
use Rattle.travel.specs.Next.Next.{Over}
use Rattle.record.specs.declared.Held.{Held}
use Rattle.record.specs.declared.Record.{Record}
use Rattle.record.specs.declared.Found.{Found}
use Rattle.record.specs.Memory.{Memory}
use Rattle.record.specs.Table.{fetch_of, TableTrue}
use Rattle.program.specs.Program.{accepted}
use Rattle.program.proofs.laws.Run.{Accepted}
use Rattle.program.proofs.laws.Discipline.{Disciplined, begins}
use Rattle.engine.specs.declared.Answer.TheVariants as answer
use Rattle.engine.specs.declared.Job.{Job}
use Rattle.engine.specs.declared.Job.TheVariants as job
use Rattle.engine.specs.declared.Engine.{Engine}
use Rattle.engine.specs.declared.Told.{Told}
use Rattle.engine.specs.State.{with_run, with_job, running, started, heard_by, heard}
use Rattle.engine.specs.Tick.{Rule, Fetching, told, finished, fetched, moving_on, ticked_by, ticked, runs_by, runs_of, list_fetch}
use Rattle.program.proofs.laws.Accepting.{accepted-holds}
use Rattle.engine.proofs.laws.Fetches.{same-fetch}
use Rattle.engine.proofs.laws.Accepted.{JobFair, OnList, NoG, Fair, call-fair, list-end}

-- ---- calls and bytes

pub data Event : Type 0 where
  call : Event
  byte : ℕ → Event

abbrev pub happens : Rule → Fetching → Event → Engine → Told
happens rule fetch call e = ticked rule fetch e
happens rule fetch (byte b) e = told (heard b e) answer.Nothing

-- none of them ends the run with G
abbrev pub NeverG : Rule → Fetching → List Event → Engine → Type 0
NeverG rule fetch [] e = Unit
NeverG rule fetch (x ∷ xs) e = NoG e (happens rule fetch x e) × NeverG rule fetch xs (happens rule fetch x e).engine

-- ---- a byte at a wait

heard-held : (j : Job) (b : ℕ) (e : Engine) → (heard_by j b e).held ≡ e.held
heard-held (job.Wait c t) b e = by (eqb b c)
  where
    by : (q : Bool) → (pick {A = Engine} q (with_run e (running job.Ready t e.run.loops)) (with_job e job.Ready)).held ≡ e.held
    by true = refl
    by false = refl
heard-held job.Idle b e = refl
heard-held job.Storing b e = refl
heard-held (job.Direct m) b e = refl
heard-held job.Ready b e = refl
heard-held (job.Moving m) b e = refl
heard-held (job.Delay q) b e = refl

heard-runs : (j : Job) (b : ℕ) (e : Engine) → e.run.job ≡ j → runs_by j ≡ true → heard_by j b e ≡ e
heard-runs (job.Wait c t) b e p h = let z : ◌≡◌ {A = ℕ} 0 1 = cc in absurd (omega arith)
heard-runs job.Idle b e p h = refl
heard-runs job.Storing b e p h = refl
heard-runs (job.Direct m) b e p h = refl
heard-runs job.Ready b e p h = refl
heard-runs (job.Moving m) b e p h = refl
heard-runs (job.Delay q) b e p h = refl

heard-fair : (l : List Record) (j : Job) (b : ℕ) (e : Engine) → e.run.job ≡ j → JobFair l e.run.job e.run.place e.run.loops
    → JobFair l (heard_by j b e).run.job (heard_by j b e).run.place (heard_by j b e).run.loops
heard-fair l (job.Wait c t) b e p f = by (eqb b c) (subst (λ (k : Job). JobFair l k e.run.place e.run.loops) p f)
  where
    by : (q : Bool) → Disciplined l e.run.place e.run.loops × Disciplined l t e.run.loops
        → JobFair l (pick {A = Engine} q (with_run e (running job.Ready t e.run.loops)) (with_job e job.Ready)).run.job
        (pick {A = Engine} q (with_run e (running job.Ready t e.run.loops)) (with_job e job.Ready)).run.place
        (pick {A = Engine} q (with_run e (running job.Ready t e.run.loops)) (with_job e job.Ready)).run.loops
    by true d = d.1
    by false d = d.0
heard-fair l job.Idle b e p f = f
heard-fair l job.Storing b e p f = f
heard-fair l (job.Direct m) b e p f = f
heard-fair l job.Ready b e p f = f
heard-fair l (job.Moving m) b e p f = f
heard-fair l (job.Delay q) b e p f = f

runs-idle : (e : Engine) {A : Type 0} → runs_of e ≡ true → e.run.job ≡ job.Idle → A
unfolding runs_of
runs-idle e h p = let q : runs_by e.run.job ≡ false = ap runs_by p in let z : ◌≡◌ {A = ℕ} 0 1 = cc in absurd (omega arith)

pub hear-fair : (l : List Record) (b : ℕ) (e : Engine) → OnList l e → Fair l e (told (heard b e) answer.Nothing)
unfolding heard runs_of
hear-fair l b e w = record {
  none = record {
    held = heard-held e.run.job b e;
    ends = λ h p. runs-idle e h (sym (ap (λ (x : Engine). x.run.job) (heard-runs e.run.job b e refl h)) ∙ p);
  };
  on = heard-fair l e.run.job b e refl w.fair;
}

-- ---- every run

module _ (axes : ℕ) (l : List Record) (a : Accepted axes l) (rule : Rule) where
  step-fair : (x : Event) (e : Engine) → OnList l e → Fair l e (happens rule (list_fetch l) x e)
  step-fair call e w = call-fair axes l a rule e w
  step-fair (byte b) e w = hear-fair l b e w

  kept_on : (e : Engine) (t : Told) → OnList l e → Fair l e t → OnList l t.engine
  kept_on e t w f = record { count = ap (λ (h : Held). h.records) f.none.held ∙ w.count; fair = f.on }

  never-from : (xs : List Event) (e : Engine) → OnList l e → NeverG rule (list_fetch l) xs e
  never-from [] e w = tt
  never-from (x ∷ xs) e w =
      let f = step-fair x e w in
      (f.none, never-from xs (happens rule (list_fetch l) x e).engine (kept_on e (happens rule (list_fetch l) x e) w f))

  -- AN ACCEPTED PROGRAM NEVER ENDS WITH G: the list machine
  pub never-g : (xs : List Event) (e : Engine) → e.held.records ≡ length l → NeverG rule (list_fetch l) xs (started e)
  never-g xs e c = never-from xs (started e) (record { count = c; fair = begins axes l a })

-- WHERE IT REACHES THE END PLACE IT SENDS 0 AND IS IDLE
module _ (l : List Record) (rule : Rule) (e : Engine) (p : e.run.place ≡ length l) where
  end_by : (j : Job) → j ≡ job.Ready → ticked_by rule (list_fetch l) j e ≡ finished 48 e
  end_by j q = ap (λ (k : Job). ticked_by rule (list_fetch l) k e) q ∙ ap (λ (x : Found). fetched rule x e) (list-end l e.run.place p)

  pub ends-ready : e.run.job ≡ job.Ready → ticked rule (list_fetch l) e ≡ finished 48 e
  unfolding ticked
  ends-ready q = end_by e.run.job q

  pub ends-moved : (m : Travel) → e.run.job ≡ job.Moving m → rule m e.at ≡ Over → ticked rule (list_fetch l) e ≡ finished 48 e
  unfolding ticked
  ends-moved m q o =
      ap (λ (k : Job). ticked_by rule (list_fetch l) k e) q ∙ ap (λ (n : Next). moving_on rule (list_fetch l) n e) o
      ∙ ap (λ (x : Found). fetched rule x e) (list-end l e.run.place p)

-- ---- on the store

-- AN ACCEPTED PROGRAM NEVER ENDS WITH G: on its store with a true table, unaltered
pub never-g-stored : (h : Held) (m : Memory) → accepted h m.store ≡ true → TableTrue h m → (rule : Rule) (xs : List Event) (e : Engine) → e.held ≡ h
    → NeverG rule (fetch_of h m) xs (started e)
never-g-stored h m p t rule xs e q =
    let x = accepted-holds h m.store p in
    subst (λ (f : Fetching). NeverG rule f xs (started e)) (sym (same-fetch h m x.items x.reads t))
    (never-g h.axes x.items x.program rule xs e (ap (λ (d : Held). d.records) q ∙ sym x.count))
