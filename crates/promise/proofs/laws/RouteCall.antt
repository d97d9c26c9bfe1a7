-- One clock call, and one byte at a wait, of a run on a list of records: where the call takes the record at its place, the run goes on
-- along a path. Assumes nothing.
use Prim.Native.Nat.{ℕ, zero, suc, ◌+◌, ◌<◌}
use mathlib.Core.Bool.{Bool, true, false}
use mathlib.Core.List.{List, [], ◌∷◌, ◌++◌}
use mathlib.Core.Logic.{◌⊎◌, inl, inr}
use mathlib.Core.Path.{◌≡◌, refl, sym, ◌∙◌, ap, subst}
use native.Mathlib.Numerals.{add-one}
use native.Mathlib.Omega.{arith}
use borrow.Author.Tests.{lt-ltb, ltb-true, eq-eqb, ne_eqb}
use lib.Dec.{ltb, eqb}
use lib.ListN.{length}
use Rattle.count.specs.Pick.{pick}
use Rattle.count.proofs.laws.Truth.{never}
use Rattle.travel.specs.declared.Travel.{Travel}
use Rattle.travel.specs.Next.{Next, left_of, pulse_of}
use Rattle.travel.specs.Next.Next.{Made, Over}
use Rattle.travel.specs.Sound.{under_way}
use Rattle.travel.proofs.laws.Whole.{over-left, none_left}
use Rattle.record.specs.declared.Record.{Record}
use Rattle.record.specs.declared.Found.TheVariants.{Got, End, Wrong}
use Rattle.program.specs.declared.Loops.{Loops}
use Rattle.program.specs.Going.{Going}
use Rattle.program.specs.Onward.{onward_of}
use Rattle.program.proofs.laws.Sends.{on-other}
use Rattle.program.proofs.laws.Run.{record_in, Stands, taken_by, taken}
use Rattle.engine.specs.declared.Job.{Job}
use Rattle.engine.specs.declared.Job.TheVariants as job
use Rattle.engine.specs.declared.Engine.{Engine}
use Rattle.engine.specs.declared.Told.{Told}
use Rattle.engine.specs.State.{with_run, with_job, running, heard_by, heard}
use Rattle.engine.specs.Tick.{after_pause, fetched, directly, moving_on, ticked_by, ticked, list_fetch}
use Rattle.engine.specs.Sound.{job_sound}
use Rattle.engine.proofs.laws.Cases.{Plain, way_of, RecordCases, record-cases}
use Rattle.promise.specs.Stop.{rests_by}
use Rattle.promise.specs.Route.{comes_by}
use Rattle.promise.proofs.laws.RoutePath.{Path, path-on}

-- ---- the places that a run still comes to: a wait leads to one of two; where no program runs there are none

abbrev pub GoesBy : List Record → Job → ℕ → Loops → List ℕ → Type 0
GoesBy l job.Idle p o v = v ≡ []
GoesBy l job.Storing p o v = v ≡ []
GoesBy l (job.Direct m) p o v = v ≡ []
GoesBy l job.Ready p o v = Path l p o v
GoesBy l (job.Moving m) p o v = Path l p o v
GoesBy l (job.Delay q) p o v = Path l p o v
GoesBy l (job.Wait c t) p o v = Path l p o v ⊎ Path l t o v

abbrev pub Goes : List Record → Engine → List ℕ → Type 0
Goes l e v = GoesBy l e.run.job e.run.place e.run.loops v

pub goes_none : (l : List Record) (j : Job) (p : ℕ) (o : Loops) → GoesBy l j p o []
goes_none l job.Idle p o = refl
goes_none l job.Storing p o = refl
goes_none l (job.Direct m) p o = refl
goes_none l job.Ready p o = tt
goes_none l (job.Moving m) p o = tt
goes_none l (job.Delay q) p o = tt
goes_none l (job.Wait c t) p o = inl tt

pub rests-none : (l : List Record) (j : Job) (p : ℕ) (o : Loops) (v : List ℕ) → rests_by j ≡ true → GoesBy l j p o v → v ≡ []
rests-none l job.Idle p o v h g = g
rests-none l job.Storing p o v h g = g
rests-none l (job.Direct m) p o v h g = never h
rests-none l job.Ready p o v h g = never h
rests-none l (job.Moving m) p o v h g = never h
rests-none l (job.Delay q) p o v h g = never h
rests-none l (job.Wait c t) p o v h g = never h

pause-goes : (l : List Record) (t p : ℕ) (o : Loops) (v : List ℕ) → GoesBy l (after_pause t) p o v → Path l p o v
pause-goes l zero p o v h = h
pause-goes l (suc t) p o v h = h

-- ---- the record at the place

module _ (l : List Record) (e : Engine) (c : e.held.records ≡ length l) where
  abbrev p : ℕ
  p = e.run.place

  abbrev o : Loops
  o = e.run.loops

  abbrev r : Record
  r = record_in l p

  -- a call that takes it
  abbrev Takes : Told → Type 0
  Takes t = (v : List ℕ) → Goes l t.engine v → Path l p o (p ∷ v)

  ended : (v : List ℕ) → v ≡ [] → Path l p o (p ∷ v)
  ended v h = subst (λ (w : List ℕ). Path l p o (p ∷ w)) (sym h) refl

  module _ (g : p < length l) where
    onto : (b : Bool) (q : ℕ) (n : Loops) → taken b (way_of r e) ≡ Stands q n → (v : List ℕ) → Path l q n v → Path l p o (p ∷ v)
    onto b q n h v =
        path-on l p o (record {
          hears = b;
          place = q;
          loops = n;
          inside = g;
          leads = rw (lt-ltb p (length l) g) (ap (λ (k : ℕ). taken b (onward_of r p k o)) (sym c) ∙ h);
        }) v

    plain-on : Plain r → (v : List ℕ) → Path l (p + 1) o v → Path l p o (p ∷ v)
    plain-on s v h =
        let w = on-other r p e.held.records o (omega (arith, g, c)) (ne_eqb _ _ s.no_loop) (ne_eqb _ _ s.no-wait) in
        onto false (p + 1) o (ap (taken false) w ∙ ap (λ (q : ℕ). Stands q o) (sym (add-one p))) v h

    led : (b : Bool) (k : Going) → (way_of r e).going ≡ k → taken b (way_of r e) ≡ taken_by b k (way_of r e)
    led b k q = ap (λ (x : Going). taken_by b x (way_of r e)) q

    takes : RecordCases pulse_of r e Takes
    takes = record {
      pulse = λ s m n q u v h. plain-on s v h;
      still = λ s v h. plain-on s v h;
      refused = λ b k q v h. ended v h;
      origin = λ s q v h. plain-on s v h;
      three = λ s b v h. plain-on s v h;
      turned = λ s k d v h. plain-on s v h;
      pause = λ s t v h. plain-on s v (pause-goes l t (p + 1) o v h);
      send = λ s q v h. plain-on s v h;
      to = λ q v h. onto false _ _ (led false _ q) v h;
      waits = λ q v h. elim h [ inl x ↦ onto false _ _ (led false _ q) v x | inr x ↦ onto true _ _ (led true _ q) v x ];
      lost = λ q v h. ended v h;
    }

  fetched-takes : Takes (fetched pulse_of (list_fetch l p) e)
  unfolding list_fetch
  fetched-takes = by (ltb p (length l)) (eqb p (length l)) refl
    where
      by : (t u : Bool) → ltb p (length l) ≡ t → Takes (fetched pulse_of (pick t (Got r) (pick u End Wrong)) e)
      by true u q = record-cases pulse_of r e Takes (takes (ltb-true p (length l) q))
      by false true q = ended
      by false false q = ended

  -- ---- the call

  abbrev Calls : Job → Told → Type 0
  Calls j t = (v : List ℕ) → Goes l t.engine v → GoesBy l j p o (pick (comes_by j) (p ∷ []) [] ++ v)

  stays : (j : Job) → e.run.job ≡ j → (v : List ℕ) → Goes l e v → GoesBy l j p o v
  stays j q v h = subst (λ (k : Job). GoesBy l k p o v) q h

  -- a movement with no pulse left gives way to the record
  moving-by : (m : Travel) (n : Next) → under_way m e.at ≡ true → pulse_of m e.at ≡ n → Calls (job.Moving m) (moving_on pulse_of (list_fetch l) n e)
  moving-by m (Made s) u q v h =
      let z : (left_of m ≡ 0 → ⊥) = λ y. let d = sym q ∙ none_left m e.at y in let x : ◌≡◌ {A = ℕ} 0 1 = cc in omega arith in
      subst (λ (t : Bool). Path l p o (pick t (p ∷ []) [] ++ v)) (sym (ne_eqb (left_of m) 0 z)) h
  moving-by m Over u q v h =
      subst (λ (t : Bool). Path l p o (pick t (p ∷ []) [] ++ v)) (sym (eq-eqb (left_of m) 0 (over-left m e.at u q))) (fetched-takes v h)

  direct-by : (m : Travel) (n : Next) → Calls (job.Direct m) (directly n e)
  direct-by m (Made s) v h = h
  direct-by m Over v h = h

  job-by : (j : Job) → e.run.job ≡ j → job_sound j e.at ≡ true → Calls j (ticked_by pulse_of (list_fetch l) j e)
  job-by job.Idle q u v h = stays job.Idle q v h
  job-by job.Storing q u v h = stays job.Storing q v h
  job-by (job.Direct m) q u v h = direct-by m (pulse_of m e.at) v h
  job-by job.Ready q u v h = fetched-takes v h
  job-by (job.Moving m) q u v h = moving-by m (pulse_of m e.at) u refl v h
  job-by (job.Delay t) q u v h = pause-goes l t p o v h
  job-by (job.Wait k t) q u v h = stays (job.Wait k t) q v h

  -- of what 103 lets pass
  pub call-goes : job_sound e.run.job e.at ≡ true → (v : List ℕ) → Goes l (ticked pulse_of (list_fetch l) e).engine v → Goes l e (pick (comes_by e.run.job) (e.run.place ∷ []) [] ++ v)
  unfolding ticked
  call-goes = job-by e.run.job refl

-- ---- a byte at a wait: the store's part in use stays, and the run goes on to one of the two

pub record Hears (l : List Record) (e d : Engine) : Type 0 where
  pub held : d.held ≡ e.held
  pub goes : (v : List ℕ) → Goes l d v → Goes l e v

module _ (l : List Record) (b : ℕ) (e : Engine) where
  abbrev HearsBy : Job → Engine → Type 0
  HearsBy j d = (d.held ≡ e.held) × ((v : List ℕ) → Goes l d v → GoesBy l j e.run.place e.run.loops v)

  same_by : (j : Job) → e.run.job ≡ j → HearsBy j e
  same_by j q = (refl, λ v h. subst (λ (k : Job). GoesBy l k e.run.place e.run.loops v) q h)

  heard-by : (j : Job) → e.run.job ≡ j → HearsBy j (heard_by j b e)
  heard-by (job.Wait c t) q = by (eqb b c)
    where
      by : (x : Bool) → HearsBy (job.Wait c t) (pick x (with_run e (running job.Ready t e.run.loops)) (with_job e job.Ready))
      by true = (refl, λ v h. inr h)
      by false = (refl, λ v h. inl h)
  heard-by job.Idle q = same_by job.Idle q
  heard-by job.Storing q = same_by job.Storing q
  heard-by (job.Direct m) q = same_by (job.Direct m) q
  heard-by job.Ready q = same_by job.Ready q
  heard-by (job.Moving m) q = same_by (job.Moving m) q
  heard-by (job.Delay n) q = same_by (job.Delay n) q

  pub heard-goes : Hears l e (heard b e)
  unfolding heard
  heard-goes = let h = heard-by e.run.job refl in record { held = h.0; goes = h.1 }
