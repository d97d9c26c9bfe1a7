-- What 103 asks of an engine is kept by every clock call, whatever is fetched, and by everything that lines and control codes do to it.
-- Assumes nothing.
use Prim.Native.Nat.{ℕ, zero, suc, ◌+◌, ◌≤◌, ◌<◌}
use mathlib.Core.Path.{◌≡◌, refl, sym, ap, ◌∙◌}
use mathlib.Core.Bool.{Bool, true, false, ◌&&◌}
use native.Mathlib.Omega.{arith}
use lib.Dec.{ltb, leb, eqb}
use lib.ListN.{get_or}
use borrow.Author.Tests.{leb-false}
use Rattle.count.specs.Pick.{pick}
use Rattle.count.specs.Numbers.{full}
use Rattle.count.specs.Ranges.{nth}
use Rattle.motion.specs.declared.Counters.{Counters}
use Rattle.motion.specs.Phase.{moved_all}
use Rattle.motion.specs.Sound.{counted}
use Rattle.motion.proofs.laws.Passed.{in24-of, counted_of}
use Rattle.circle.specs.declared.Circling.{Circling}
use Rattle.travel.specs.declared.Travel.{Travel}
use Rattle.travel.specs.Next.{Stepped, pulse_of}
use Rattle.travel.specs.Next.Next.{Made}
use Rattle.travel.specs.Sound.{under_way}
use Rattle.travel.specs.work.Beat.{next_of}
use Rattle.travel.proofs.laws.Onward.{next-keeps}
use Rattle.record.specs.declared.Held.{Held}
use Rattle.record.specs.declared.Record.{Record}
use Rattle.program.specs.declared.Loops.{Loops}
use Rattle.program.specs.Going.{Way}
use Rattle.program.specs.Going as going
use Rattle.program.specs.Onward.{no_loops, last_of, to, wrong, went, inside, target_of, again, opens, looped, aimed, onward_of}
use Rattle.engine.specs.declared.Job.{Job}
use Rattle.engine.specs.declared.Job.TheVariants as job
use Rattle.engine.specs.declared.Engine.{Engine}
use Rattle.engine.specs.declared.Told.{Told}
use Rattle.count.specs.declared.Axis.{Axis}
use Rattle.count.specs.Axes.{has}
use Rattle.motion.specs.Axes.{on}
use Rattle.motion.proofs.laws.Points.{on-point}
use Rattle.engine.specs.State.{with_at, with_three, with_circling, with_held, with_run, running, zeroes, mixed, origin_of, ceased, emptied}
use Rattle.engine.specs.Tick.{Fetching, after_pause, ticked}
use Rattle.engine.specs.Sound.{axes_known, job_sound, sound_of}
use Rattle.engine.proofs.laws.Work.{next-moved}
use Rattle.engine.proofs.laws.Cases.{way_of, RecordCases, record-cases, Cases, cases}
use Rattle.engine.proofs.laws.Facts.{Sane, facts, sane}
use Rattle.engine.proofs.laws.Laws.{planned-sound, rules-agree}

-- ---- the open loops stay at most seven

unfoldable Few : Way → Type 0
Few w = w.loops.depth ≤ 7

few-by : (t : Bool) (a b : Way) → (t ≡ true → Few a) → (t ≡ false → Few b) → Few (pick t a b)
few-by true a b f g = f refl
few-by false a b f g = g refl

module _ (o : Loops) (h : o.depth ≤ 7) where
  few-again : (place target : ℕ) → Few (again place target o)
  unfolding again Few
  few-again place target = few-by (eqb (last_of o).left 0) (to (place + 1) _) (to target _) (λ p. omega arith) (λ p. h)

  few-opens : (place target number : ℕ) → Few (opens place target number o)
  unfolding opens Few
  few-opens place target number =
      few-by (leb 7 o.depth) (wrong o) (to target _) (λ p. h) (λ p. omega (arith, leb-false 7 o.depth p))

  few-looped : (place target number : ℕ) → Few (looped place target number o)
  unfolding looped Few
  few-looped place target number =
      few-by (ltb 7 o.depth) (wrong o) _ (λ p. h)
      (λ p. few-by (ltb 0 o.depth && eqb (last_of o).place place) (again place target o) (opens place target number o)
      (λ q. few-again place target) (λ q. few-opens place target number))

  module _ (r : Record) (place end : ℕ) where
    few-aimed : Few (aimed place end (nth r.words 1) r o)
    unfolding aimed Few
    few-aimed =
        let t = target_of place (nth r.words 1) in
        let w = get_or r.words 0 0 in
        few-by (inside place (nth r.words 1) end) _ (wrong o)
        (λ p. few-by (eqb r.code 50) (went going.Waits (place + 1) t o) _ (λ q. h)
        (λ q. few-by (eqb w 0) (to t o) _ (λ u. h) (λ u. few-by (ltb 32767 w) (wrong o) (looped place t w o) (λ v. h) (λ v. few-looped place t w))))
        (λ p. h)

    few-onward : Few (onward_of r place end o)
    unfolding onward_of Few
    few-onward =
        few-by (leb end place) (wrong o) _ (λ p. h)
        (λ p. few-by (eqb r.code 51) (aimed place end (nth r.words 1) r o) _ (λ q. few-aimed)
        (λ q. few-by (eqb r.code 50) (aimed place end (nth r.words 1) r o) (to (place + 1) o) (λ u. few-aimed) (λ u. h)))

    pub few-loops : (onward_of r place end o).loops.depth ≤ 7
    unfolding Few
    few-loops = few-onward

-- ---- counters

mixed_one : (t : Bool) (a b : ℕ) → a < full → b < full → pick t a b < full
mixed_one true a b p q = p
mixed_one false a b p q = q

pub mixed-counted : (axes : ℕ) (c d : Counters) → counted c ≡ true → counted d ≡ true → counted (mixed axes c d) ≡ true
unfolding mixed
mixed-counted axes c d p q =
    counted_of (mixed axes c d) (record {
      each = λ i. rw (on-point (λ (j : Axis). pick (has axes j) (on j c) (on j d)) i)
          (mixed_one (has axes i) (on i c) (on i d) ((in24-of c p).each i) ((in24-of d q).each i));
    })

pub zeroes-counted : counted zeroes ≡ true
unfolding counted
zeroes-counted = refl

-- ---- the pieces of a clock call

module _ (e : Engine) (s : Sane e) where
  -- a run that holds no movement
  pub run-sane : (j : Job) (place : ℕ) (o : Loops) → ((c : Counters) → job_sound j c ≡ true) → o.depth ≤ 7 → Sane (with_run e (running j place o))
  run-sane j place o f l = record {
    at = s.at;
    origin = s.origin;
    axes = s.axes;
    stored = s.stored;
    used = s.used;
    records = s.records;
    loops = l;
    job = f e.at;
  }

  pub ceased-sane : Sane (ceased e)
  ceased-sane = run-sane job.Idle 0 no_loops (λ c. refl) (omega arith)

  pub held-sane : (h : Held) → axes_known h.axes ≡ true → h.used ≤ 16384 → h.records ≤ 1000 → Sane (with_held e h)
  held-sane h a u r = record {
    at = s.at;
    origin = s.origin;
    axes = s.axes;
    stored = a;
    used = u;
    records = r;
    loops = s.loops;
    job = s.job;
  }

  pub emptied-sane : Sane (emptied e)
  emptied-sane = held-sane (record { used = 0; records = 0; axes = 0 }) refl (omega arith) (omega arith)

  pub three-sane : (b : Bool) → Sane (with_three e b)
  three-sane b = record {
    at = s.at;
    origin = s.origin;
    axes = s.axes;
    stored = s.stored;
    used = s.used;
    records = s.records;
    loops = s.loops;
    job = s.job;
  }

  pub circling-sane : (c : Circling) → Sane (with_circling e c)
  circling-sane c = record {
    at = s.at;
    origin = s.origin;
    axes = s.axes;
    stored = s.stored;
    used = s.used;
    records = s.records;
    loops = s.loops;
    job = s.job;
  }

  pub origin-sane : (axes : ℕ) → Sane (origin_of axes e)
  origin-sane axes = record {
    at = s.at;
    origin = mixed-counted axes e.at e.origin s.at s.origin;
    axes = s.axes;
    stored = s.stored;
    used = s.used;
    records = s.records;
    loops = s.loops;
    job = s.job;
  }

  -- a pulse of a movement under way, direct or of a program
  pub pulse-sane : (j : Job) (place : ℕ) (m : Travel) (p : Stepped) → under_way m e.at ≡ true → next_of m e.at ≡ Made p
      → ((c : Counters) → under_way p.rest c ≡ true → job_sound j c ≡ true)
      → Sane (with_at (with_run e (running j place e.run.loops)) (moved_all e.at p.signs))
  pulse-sane j place m p u q f =
      let k = next-keeps m e.at u q in
      let w = next-moved m e.at p refl q in
      record {
        at = ap counted (sym w) ∙ k.1;
        origin = s.origin;
        axes = s.axes;
        stored = s.stored;
        used = s.used;
        records = s.records;
        loops = s.loops;
        job = f (moved_all e.at p.signs) (ap (under_way p.rest) (sym w) ∙ k.0);
      }

after-sound : (t : ℕ) (c : Counters) → job_sound (after_pause t) c ≡ true
after-sound zero c = refl
after-sound (suc t) c = refl

job-under : (j : Job) (m : Travel) (at : Counters) → j ≡ job.Direct m → job_sound j at ≡ true → under_way m at ≡ true
job-under j m at p h = ap (λ (k : Job). job_sound k at) (sym p) ∙ h

moving-under : (j : Job) (m : Travel) (at : Counters) → j ≡ job.Moving m → job_sound j at ≡ true → under_way m at ≡ true
moving-under j m at p h = ap (λ (k : Job). job_sound k at) (sym p) ∙ h

module _ (f : Fetching) (e : Engine) (s : Sane e) where
  abbrev Kept : Told → Type 0
  Kept t = Sane t.engine

  record-kept : (r : Record) → RecordCases next_of r e Kept
  record-kept r =
      let l = few-loops e.run.loops s.loops r e.run.place e.held.records in
      record {
        pulse = λ k m g q u. pulse-sane e s (job.Moving g.rest) (e.run.place + 1) m g (planned-sound r e m s.at q) u (λ c w. w);
        still = λ k. run-sane e s job.Ready (e.run.place + 1) e.run.loops (λ c. refl) s.loops;
        refused = λ b k q. ceased-sane e s;
        origin = λ k q. run-sane (origin_of (get_or r.words 0 0) e) (origin-sane e s (get_or r.words 0 0)) job.Ready (e.run.place + 1) e.run.loops (λ c. refl) s.loops;
        three = λ k b. run-sane (with_three e b) (three-sane e s b) job.Ready (e.run.place + 1) e.run.loops (λ c. refl) s.loops;
        turned = λ k q c. run-sane (with_circling e c) (circling-sane e s c) job.Ready (e.run.place + 1) e.run.loops (λ p. refl) s.loops;
        pause = λ k t. run-sane e s (after_pause t) (e.run.place + 1) e.run.loops (after-sound t) s.loops;
        send = λ k q. run-sane e s job.Ready (e.run.place + 1) e.run.loops (λ c. refl) s.loops;
        to = λ q. run-sane e s job.Ready (way_of r e).place (way_of r e).loops (λ c. refl) l;
        waits = λ q. run-sane e s (job.Wait (get_or r.words 0 0) (way_of r e).target) (way_of r e).place (way_of r e).loops (λ c. refl) l;
        lost = λ q. ceased-sane (emptied e) (emptied-sane e s);
      }

  tick-kept : Cases next_of f e Kept
  tick-kept = record {
    nothing = λ p. s;
    direct = λ m g p q. pulse-sane e s (job.Direct g.rest) e.run.place m g (job-under e.run.job m e.at p s.job) q (λ c w. w);
    arrived = λ m p q. ceased-sane e s;
    on = λ m g p q. pulse-sane e s (job.Moving g.rest) e.run.place m g (moving-under e.run.job m e.at p s.job) q (λ c w. w);
    pause = λ q p. run-sane e s (after_pause q) e.run.place e.run.loops (after-sound q) s.loops;
    end = λ b p. ceased-sane e s;
    wrong = λ b p. ceased-sane (emptied e) (emptied-sane e s);
    got = λ b r p. record-cases next_of r e Kept (record-kept r);
  }

-- EVERY CLOCK CALL KEEPS WHAT 103 ASKS, whatever is fetched: any store, any list
pub tick-keeps : (f : Fetching) (e : Engine) → sound_of e ≡ true → sound_of (ticked next_of f e).engine ≡ true
tick-keeps f e h = let s = facts e h in sane (ticked next_of f e).engine (cases next_of f e (λ (t : Told). Sane t.engine) (tick-kept f e s))

-- and so under 01's rule
pub tick-keeps-pulse : (f : Fetching) (e : Engine) → sound_of e ≡ true → sound_of (ticked pulse_of f e).engine ≡ true
tick-keeps-pulse f e h = ap (λ (t : Told). sound_of t.engine) (sym (rules-agree f e h)) ∙ tick-keeps f e h
