-- A clock call decided first and then done is the clock call of 01, and 103's word on it that of the state. Assumes nothing.
use Rattle.std.specs.Prelude.{Option, Some, None}
use Prim.Native.Nat.{ℕ, ◌+◌}
use mathlib.Core.Path.{◌≡◌, refl, ap, sym, ◌∙◌}
use mathlib.Core.Bool.{Bool, true, false, not, ◌&&◌}
use native.Mathlib.Omega.{arith}
use Rattle.count.specs.Pick.{pick}
use Rattle.motion.specs.declared.Counters.{Counters}
use Rattle.motion.specs.declared.Beat.{Beat}
use Rattle.motion.specs.declared.Look.{Look}
use Rattle.motion.specs.declared.Look.TheVariants as look
use Rattle.travel.specs.declared.Travel.{Travel}
use Rattle.travel.specs.Next.{Stepped, Next}
use Rattle.travel.specs.Next.Next.{Made, Over}
use Rattle.travel.specs.Sound.{under_way}
use Rattle.travel.specs.work.Beat.{next_of, mark_of, at_mark, beat_of, beaten, looked_by, look_of}
use Rattle.travel.proofs.laws.Beats.{next-rest, hit, missed}
use Rattle.program.specs.declared.Loops.{Loops}
use Rattle.engine.specs.declared.Answer.TheVariants as answer
use Rattle.engine.specs.declared.Job.{Job}
use Rattle.engine.specs.declared.Job.TheVariants as job
use Rattle.engine.specs.declared.Engine.{Engine}
use Rattle.engine.specs.declared.Told.{Told}
use Rattle.engine.specs.declared.Act.{Act}
use Rattle.engine.specs.declared.Act.TheVariants as act
use Rattle.engine.specs.State.{paper, with_at, with_run, running}
use Rattle.engine.specs.Sound.{job_sound, sound_of}
use Rattle.engine.specs.Tick.{Fetching, told, on_to, moving, directly, moving_on, ticked_by, ticked}
use Rattle.engine.specs.work.Acts.{under_of, marked_job, rest_of, pulse_act, act_under, act_by, look_act, look_by, fits_of, seen_of, is_wrong, pulsed, acted_by, act_paper}
use Rattle.engine.proofs.laws.Work.{next-moved}

-- ---- a pulse without the movement

-- with the movement at its mark it is the pulse that 01 tells of
module _ (kind : Travel → Job) (place : ℕ) (l : Loops) (m : Travel) (e : Engine) where
  pub pulsed-told : (s : Stepped) → next_of m e.at ≡ Made s
      → pulsed (running (kind (at_mark m (mark_of s.rest))) place l) (beat_of s) e ≡ told (with_run e (running (kind s.rest) place l)) (answer.Pulse s.signs s.speed)
  pulsed-told s p =
      let a = next-moved m e.at s refl p in
      let r = next-rest m e.at s p in
      λ i. record { engine = with_run (with_at e (a i)) (running (kind (r i)) place l); answer = answer.Pulse s.signs s.speed }

module _ (m : Travel) (e : Engine) {x : Option Beat} (h : x ≡ beaten (next_of m e.at)) where
  pub first_made : (b : Beat) → x ≡ Some b
      → pulsed (running (job.Moving (at_mark m b.mark)) (e.run.place + 1) e.run.loops) b e ≡ moving (next_of m e.at) e
  first_made b p =
      let g = hit (next_of m e.at) b h p in
      ap (λ (c : Beat). pulsed (running (job.Moving (at_mark m c.mark)) (e.run.place + 1) e.run.loops) c e) g.same
      ∙ pulsed-told job.Moving (e.run.place + 1) e.run.loops m e g.step g.is
      ∙ sym (ap (λ (n : Next). moving n e) g.is)

  pub first-over : x ≡ None → told (on_to job.Ready e) answer.Done ≡ moving (next_of m e.at) e
  first-over p = rw (missed (next_of m e.at) h p)

-- ---- what is decided

module _ (m : Travel) (j : Job) (at : Counters) where
  pub act-made : (b : Beat) {u : Option Travel} {x : Option Beat} → u ≡ under_of j → u ≡ Some m → x ≡ beaten (next_of m at) → x ≡ Some b → act.Pulse b ≡ act_by next_of j at
  unfolding act_by
  act-made b p q e f =
      let g = hit (next_of m at) b e f in
      ap act.Pulse g.same ∙ sym (ap (λ (n : Next). pulse_act n j) g.is) ∙ sym (ap (λ (u : Option Travel). act_under next_of u j at) (sym p ∙ q))

  pub act-over : {u : Option Travel} {x : Option Beat} → u ≡ under_of j → u ≡ Some m → x ≡ beaten (next_of m at) → x ≡ None → rest_of j ≡ act_by next_of j at
  unfolding act_by
  act-over p q e f = rw (sym p ∙ q, missed (next_of m at) e f)

  pub look-so : {u : Option Travel} {x : Look} → u ≡ under_of j → u ≡ Some m → x ≡ look_of m at → look_act x j ≡ look_by j at
  unfolding look_by
  look-so p q e = rw (sym p ∙ q, e)

module _ (j : Job) (at : Counters) {u : Option Travel} (p : u ≡ under_of j) (q : u ≡ None) where
  pub act-none : rest_of j ≡ act_by next_of j at
  unfolding act_by
  act-none = rw (sym p ∙ q)

  pub look_none : rest_of j ≡ look_by j at
  unfolding look_by
  look_none = rw (sym p ∙ q)

-- ---- what 103 says of it

-- looking is deciding, or 103
look-by : (b : Bool) (n : Next) (j : Job) → look_act (pick b (looked_by n) look.Wrong) j ≡ pick b (pulse_act n j) act.Wrong
look-by true (Made s) j = refl
look-by true Over j = refl
look-by false n j = refl

looked : (j : Job) (at : Counters) → look_by j at ≡ pick (job_sound j at) (act_by next_of j at) act.Wrong
unfolding look_by look_of act_by
looked job.Idle at = refl
looked job.Storing at = refl
looked (job.Direct m) at = look-by (under_way m at) (next_of m at) (job.Direct m)
looked job.Ready at = refl
looked (job.Moving m) at = look-by (under_way m at) (next_of m at) (job.Moving m)
looked (job.Delay q) at = refl
looked (job.Wait c t) at = refl

both : (a b : Bool) (x : Act) → pick a (pick b x act.Wrong) act.Wrong ≡ pick (a && b) x act.Wrong
both true b x = refl
both false b x = refl

pub seen_by : (e : Engine) → pick (fits_of e) (look_by e.run.job e.at) act.Wrong ≡ seen_of e
unfolding seen_of sound_of fits_of
seen_by e =
    rw (looked e.run.job e.at) (both (fits_of e) (job_sound e.run.job e.at) (act_by next_of e.run.job e.at))

rest-right : (j : Job) → is_wrong (rest_of j) ≡ false
rest-right job.Idle = refl
rest-right job.Storing = refl
rest-right (job.Direct m) = refl
rest-right job.Ready = refl
rest-right (job.Moving m) = refl
rest-right (job.Delay q) = refl
rest-right (job.Wait c t) = refl

pulse-right : (n : Next) (j : Job) → is_wrong (pulse_act n j) ≡ false
pulse-right (Made s) j = refl
pulse-right Over j = rest-right j

under-right : (u : Option Travel) (j : Job) (at : Counters) → is_wrong (act_under next_of u j at) ≡ false
under-right (Some m) j at = pulse-right (next_of m at) j
under-right None j at = rest-right j

wrong-by : (b : Bool) (x : Act) → is_wrong x ≡ false → is_wrong (pick b x act.Wrong) ≡ not b
wrong-by true x e = e
wrong-by false x e = refl

-- 103 REFUSES exactly what is not sound
pub seen-wrong : (e : Engine) → is_wrong (seen_of e) ≡ not (sound_of e)
unfolding seen_of act_by
seen-wrong e = wrong-by (sound_of e) (act_under next_of (under_of e.run.job) e.run.job e.at) (under-right (under_of e.run.job) e.run.job e.at)

pub seen-act : (e : Engine) → sound_of e ≡ true → seen_of e ≡ act_by next_of e.run.job e.at
unfolding seen_of
seen-act e s = rw s

-- ---- and doing it

module _ (fetch : Fetching) (e : Engine) where
  direct-by : (m : Travel) (n : Next) → e.run.job ≡ job.Direct m → next_of m e.at ≡ n → acted_by next_of fetch (pulse_act n (job.Direct m)) e ≡ directly n e
  direct-by m (Made s) p q =
      ap (λ (j : Job). pulsed (running (marked_job (mark_of s.rest) j) e.run.place e.run.loops) (beat_of s) e) p
      ∙ pulsed-told job.Direct e.run.place e.run.loops m e s q
  direct-by m Over p q = refl

  moving-by : (m : Travel) (n : Next) → e.run.job ≡ job.Moving m → next_of m e.at ≡ n → acted_by next_of fetch (pulse_act n (job.Moving m)) e ≡ moving_on next_of fetch n e
  moving-by m (Made s) p q =
      ap (λ (j : Job). pulsed (running (marked_job (mark_of s.rest) j) e.run.place e.run.loops) (beat_of s) e) p
      ∙ pulsed-told job.Moving e.run.place e.run.loops m e s q
  moving-by m Over p q = refl

  job-by : (j : Job) → e.run.job ≡ j → acted_by next_of fetch (act_under next_of (under_of j) j e.at) e ≡ ticked_by next_of fetch j e
  job-by job.Idle p = refl
  job-by job.Storing p = refl
  job-by (job.Direct m) p = direct-by m (next_of m e.at) p refl
  job-by job.Ready p = refl
  job-by (job.Moving m) p = moving-by m (next_of m e.at) p refl
  job-by (job.Delay q) p = refl
  job-by (job.Wait c t) p = refl

  -- DECIDED AND DONE, it is the clock call
  pub acted-is-ticked : acted_by next_of fetch (act_by next_of e.run.job e.at) e ≡ ticked next_of fetch e
  unfolding act_by ticked
  acted-is-ticked = job-by e.run.job refl

  -- on paper an act is what it answers once done
  acted-paper : (a : Act) → is_wrong a ≡ false → act_paper fetch e a ≡ paper (acted_by next_of fetch a e).answer
  acted-paper act.Wrong p = let z : ◌≡◌ {A = ℕ} 0 1 = cc in absurd (omega arith)
  acted-paper act.Still p = refl
  acted-paper (act.Pulse b) p = refl
  acted-paper (act.Pause q) p = refl
  acted-paper act.Finish p = refl
  acted-paper act.Record p = refl

  pub seen-paper : sound_of e ≡ true → act_paper fetch e (seen_of e) ≡ paper (ticked next_of fetch e).answer
  seen-paper s =
      acted-paper (seen_of e) (seen-wrong e ∙ ap not s)
      ∙ ap (λ (a : Act). paper (acted_by next_of fetch a e).answer) (seen-act e s)
      ∙ ap (λ (t : Told). paper t.answer) acted-is-ticked
