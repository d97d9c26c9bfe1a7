-- What lines and control codes do keeps what 103 asks of an engine. Assumes nothing.
use Rattle.std.specs.Prelude.{Result, Ok, Err}
use Rattle.count.specs.declared.Fault.{Fault}
use Prim.Native.Nat.{ℕ, ◌≤◌}
use mathlib.Core.Path.{◌≡◌, refl}
use mathlib.Core.Bool.{Bool, true, false}
use mathlib.Core.List.{List}
use native.Mathlib.Omega.{arith}
use lib.Dec.{eqb}
use Rattle.count.specs.Pick.{pick}
use Rattle.motion.specs.declared.Counters.{Counters}
use Rattle.motion.specs.Plan.{asked}
use Rattle.motion.specs.Sound.{counted}
use Rattle.circle.specs.declared.Plane.{Plane}
use Rattle.circle.specs.declared.Direction.{Direction}
use Rattle.circle.specs.Plan.{circling}
use Rattle.travel.specs.declared.Travel.{Travel}
use Rattle.travel.specs.Next.{left_of}
use Rattle.travel.specs.Plan.{plan_of, circle_of}
use Rattle.travel.specs.Sound.{under_way}
use Rattle.travel.proofs.laws.Plans.{plan-sound, circle-sound}
use Rattle.record.specs.declared.Held.{Held}
use Rattle.program.specs.Onward.{no_loops}
use Rattle.engine.specs.State.{Begun}
use Rattle.engine.specs.declared.Job.{Job}
use Rattle.engine.specs.declared.Job.TheVariants as job
use Rattle.engine.specs.declared.Engine.{Engine}
use Rattle.engine.specs.work.Glide.{glided_by, glided}
use Rattle.engine.specs.State.{with_at, with_three, with_plane, with_direction, with_output, with_held, with_run, running, with_job, with_axes, zeroes, mixed, beside_a, turntable_of, anew_of, axes_of, origin_of, zero_of, ceased, started, emptied, fresh, storing_of, kept_by, reset_of, heard_by, heard, begun_by, begin_of, circle_begun}
use Rattle.engine.specs.Sound.{axes_known, job_sound, sound_of}
use Rattle.engine.proofs.laws.Facts.{Sane, facts, sane}
use Rattle.engine.proofs.laws.Kept.{mixed-counted, zeroes-counted, run-sane, ceased-sane, held-sane, emptied-sane, three-sane, circling-sane, origin-sane}

-- nothing but a movement under way ties the job to the counters
abbrev pub Still : Job → Type 0
Still j = (c : Counters) → job_sound j c ≡ true

pub fresh-sound : sound_of fresh ≡ true
unfolding sound_of counted
fresh-sound = refl

-- A FRESH BOARD IS A RESET ONE WITH AN EMPTIED STORE
pub fresh-is-reset : (e : Engine) → emptied (reset_of e) ≡ fresh
unfolding reset_of
fresh-is-reset e = refl

module _ (e : Engine) (h : sound_of e ≡ true) where
  pub start-keeps : sound_of (started e) ≡ true
  start-keeps = sane (started e) (run-sane e (facts e h) job.Ready 0 no_loops (λ c. refl) (omega arith))

  pub cease-keeps : sound_of (ceased e) ≡ true
  cease-keeps = sane (ceased e) (ceased-sane e (facts e h))

  pub empty-keeps : sound_of (emptied e) ≡ true
  empty-keeps = sane (emptied e) (emptied-sane e (facts e h))

  pub three-keeps : (b : Bool) → sound_of (with_three e b) ≡ true
  three-keeps b = sane (with_three e b) (three-sane e (facts e h) b)

  pub plane-keeps : (p : Plane) → sound_of (with_plane p e) ≡ true
  plane-keeps p = sane (with_plane p e) (circling-sane e (facts e h) (circling p e.circling.direction))

  pub direction-keeps : (d : Direction) → sound_of (with_direction d e) ≡ true
  direction-keeps d = sane (with_direction d e) (circling-sane e (facts e h) (circling e.circling.plane d))

  pub origin-keeps : (axes : ℕ) → sound_of (origin_of axes e) ≡ true
  origin-keeps axes = sane (origin_of axes e) (origin-sane e (facts e h) axes)

  pub output-keeps : (v : ℕ) → sound_of (with_output e v) ≡ true
  output-keeps v =
      let s = facts e h in
      sane (with_output e v) (record {
        at = s.at;
        origin = s.origin;
        axes = s.axes;
        stored = s.stored;
        used = s.used;
        records = s.records;
        loops = s.loops;
        job = s.job;
      })

  pub held_keeps : (d : Held) → axes_known d.axes ≡ true → d.used ≤ 16384 → d.records ≤ 1000 → sound_of (with_held e d) ≡ true
  held_keeps d a u r = sane (with_held e d) (held-sane e (facts e h) d a u r)

  pub store_keeps : sound_of (storing_of e) ≡ true
  store_keeps =
      let s = facts e h in
      let d : Held = record { used = 0; records = 0; axes = e.axes } in
      sane (storing_of e) (run-sane (with_held e d) (held-sane e s d s.axes (omega arith) (omega arith)) job.Storing 0 no_loops (λ c. refl) (omega arith))

  -- setting axes and zeroing them: while no movement is under way, as with every line
  anew-keeps : (axes : ℕ) → axes_known axes ≡ true → Still e.run.job → sound_of (anew_of axes e) ≡ true
  anew-keeps axes a t =
      let s = facts e h in
      sane (anew_of axes e) (record {
        at = zeroes-counted;
        origin = zeroes-counted;
        axes = a;
        stored = s.stored;
        used = s.used;
        records = s.records;
        loops = s.loops;
        job = t zeroes;
      })

  -- the engine with some axes zeroed, under any axes that are known
  zeroed-keeps : (axes n : ℕ) → axes_known n ≡ true → Still e.run.job → sound_of (with_axes (zero_of axes e) n) ≡ true
  zeroed-keeps axes n a t =
      let s = facts e h in
      sane (with_axes (zero_of axes e) n) (record {
        at = mixed-counted axes zeroes e.at zeroes-counted s.at;
        origin = mixed-counted axes zeroes e.origin zeroes-counted s.origin;
        axes = a;
        stored = s.stored;
        used = s.used;
        records = s.records;
        loops = s.loops;
        job = t (mixed axes zeroes e.at);
      })

  pub zero-keeps : (axes : ℕ) → Still e.run.job → sound_of (zero_of axes e) ≡ true
  zero-keeps axes t = zeroed-keeps axes e.axes (facts e h).axes t

  -- where the axes afterwards are known
  pub axes-keeps : (axes : ℕ) → axes_known (axes_of axes e).axes ≡ true → Still e.run.job → sound_of (axes_of axes e) ≡ true
  axes-keeps axes a t = by (eqb axes 8) a
    where
      by : (b : Bool) → axes_known (pick b (turntable_of e) (anew_of axes e)).axes ≡ true → sound_of (pick b (turntable_of e) (anew_of axes e)) ≡ true
      by true k = zeroed-keeps 8 (beside_a e.axes) k t
      by false k = anew-keeps axes k t

  -- reset
  kept-sane : (j : Job) → (axes_known (kept_by j e.held).axes ≡ true) × ((kept_by j e.held).used ≤ 16384) × ((kept_by j e.held).records ≤ 1000)
  kept-sane job.Storing = (refl, omega arith, omega arith)
  kept-sane job.Idle = let s = facts e h in (s.stored, s.used, s.records)
  kept-sane (job.Direct m) = let s = facts e h in (s.stored, s.used, s.records)
  kept-sane job.Ready = let s = facts e h in (s.stored, s.used, s.records)
  kept-sane (job.Moving m) = let s = facts e h in (s.stored, s.used, s.records)
  kept-sane (job.Delay q) = let s = facts e h in (s.stored, s.used, s.records)
  kept-sane (job.Wait c t) = let s = facts e h in (s.stored, s.used, s.records)

  pub reset-keeps : sound_of (reset_of e) ≡ true
  unfolding reset_of
  reset-keeps =
      let k = kept-sane e.run.job in
      sane (reset_of e) (held-sane fresh (facts fresh fresh-sound) (kept_by e.run.job e.held) k.0 k.1 k.2)

  -- a byte at a wait
  heard-sane : (j : Job) (b : ℕ) → Sane (heard_by j b e)
  heard-sane (job.Wait c t) b = by (eqb b c)
    where
      by : (q : Bool) → Sane (pick q (with_run e (running job.Ready t e.run.loops)) (with_job e job.Ready))
      by true = run-sane e (facts e h) job.Ready t e.run.loops (λ k. refl) (facts e h).loops
      by false = run-sane e (facts e h) job.Ready e.run.place e.run.loops (λ k. refl) (facts e h).loops
  heard-sane job.Idle b = facts e h
  heard-sane job.Storing b = facts e h
  heard-sane (job.Direct m) b = facts e h
  heard-sane job.Ready b = facts e h
  heard-sane (job.Moving m) b = facts e h
  heard-sane (job.Delay q) b = facts e h

  pub hear-keeps : (b : ℕ) → sound_of (heard b e) ≡ true
  unfolding heard
  hear-keeps b = sane (heard b e) (heard-sane e.run.job b)

  -- a movement that begins, or goes on
  move-sane : (j : Job) (at : Counters) → counted at ≡ true → job_sound j at ≡ true → Sane (with_job (with_at e at) j)
  move-sane j at p q =
      let s = facts e h in
      record {
        at = p;
        origin = s.origin;
        axes = s.axes;
        stored = s.stored;
        used = s.used;
        records = s.records;
        loops = s.loops;
        job = q;
      }

  begun-sane : (p : Result Travel Fault) → ((m : Travel) → p ≡ Ok m → under_way m e.at ≡ true) → Sane (begun_by p e).engine
  begun-sane (Ok m) f = by (eqb (left_of m) 0)
    where
      by : (q : Bool) → Sane (pick {A = Begun} q (record { engine = e; reply = 48 }) (record { engine = with_job e (job.Direct m); reply = 0 })).engine
      by true = facts e h
      by false = move-sane (job.Direct m) e.at (facts e h).at (f m refl)
  begun-sane (Err b) f = facts e h

  pub begin-keeps : (absolute : Bool) (words : List ℕ) → sound_of (begin_of absolute words e).engine ≡ true
  unfolding begin_of
  begin-keeps absolute words =
      let q = asked e.axes e.three e.at e.origin absolute words in
      sane (begin_of absolute words e).engine (begun-sane (plan_of q) (λ m p. plan-sound q m (facts e h).at p))

  pub circle-keeps : (words : List ℕ) → sound_of (circle_begun words e).engine ≡ true
  unfolding circle_begun
  circle-keeps words =
      sane (circle_begun words e).engine
      (begun-sane (circle_of e.axes e.circling e.at words) (λ m p. circle-sound e.axes e.circling e.at words m p))

  glided-sane : (j : Job) (at : Counters) (rest : Travel) → counted at ≡ true → under_way rest at ≡ true → Sane (glided_by j at rest e)
  glided-sane (job.Direct m) at rest p q = move-sane (job.Direct rest) at p q
  glided-sane (job.Moving m) at rest p q = move-sane (job.Moving rest) at p q
  glided-sane job.Idle at rest p q = facts e h
  glided-sane job.Storing at rest p q = facts e h
  glided-sane job.Ready at rest p q = facts e h
  glided-sane (job.Delay k) at rest p q = facts e h
  glided-sane (job.Wait c t) at rest p q = facts e h

  pub glide-keeps : (at : Counters) (rest : Travel) → counted at ≡ true → under_way rest at ≡ true → sound_of (glided at rest e) ≡ true
  unfolding glided
  glide-keeps at rest p q = sane (glided at rest e) (glided-sane e.run.job at rest p q)
