-- One turn of the run's loop: a clock call, and the pulses that follow it. Assumes nothing.
use Rattle.std.specs.Prelude.{Option, Some, None}
use Prim.Native.Nat.{ℕ, ◌+◌, ◌-◌, ◌*◌, ◌<◌, ◌≤◌}
use mathlib.Core.Path.{◌≡◌, refl, ap, sym, ◌∙◌}
use mathlib.Core.Bool.{true}
use mathlib.Core.List.{List, ◌++◌}
use native.Mathlib.Omega.{arith}
use borrow.Rule.Slice.PartMut.{put_mid}
use lib.ListN.{length, take, drop}
use Rattle.travel.specs.declared.Travel.{Travel}
use Rattle.travel.specs.work.Beat.{next_of}
use Rattle.record.specs.Memory.{Memory}
use Rattle.record.specs.Table.{fetch_of}
use Rattle.engine.specs.declared.Engine.{Engine}
use Rattle.engine.specs.declared.Told.{Told}
use Rattle.engine.specs.declared.Job.{Job}
use Rattle.engine.specs.declared.Job.TheVariants as job
use Rattle.engine.specs.work.Acts.{under_of}
use Rattle.engine.specs.work.Glide.{glided_by, glided}
use Rattle.engine.specs.Tick.{ticked, runs_of}
use Rattle.course.specs.declared.Went.{Went}
use Rattle.course.specs.declared.Glided.{Glided}
use Rattle.course.specs.Text.{turning, answer_text}
use Rattle.course.specs.work.Work.{Wrote}
use Rattle.course.specs.work.Machine.{Way, stays, Left, left_by}
use Rattle.course.specs.work.Glide as G
use Rattle.course.specs.work.Glide.{Gone}
use Rattle.course.proofs.laws.Going.{glide-joins, glide-few}
use Rattle.course.specs.work.Going.{tick_next, tick_said, in_direct, in_moving, glide_job, went_of}
use Rattle.course.proofs.Loop.{Part, one-part, Kept, kept-part}

abbrev pub RKept : Memory → ℕ → Engine → List ℕ → ℕ → Engine → List ℕ → ℕ → Type 0
RKept mem limit e₀ out₀ n e out at = Kept runs_of (tick_next mem) (tick_said mem) limit e₀ out₀ n e out at

abbrev pub from : ℕ → List ℕ → List ℕ
from at out = take (length out - at) (drop at out)

module _ (mem : Memory) (limit : ℕ) (e₀ : Engine) (out₀ : List ℕ) (l : 13 * limit ≤ length out₀) where
  -- a clock call
  pub turned : (n : ℕ) (e : Engine) (out : List ℕ) (at : ℕ) → RKept mem limit e₀ out₀ n e out at
      → (t : Told) (ys : List ℕ) (m : ℕ) → t ≡ ticked next_of (fetch_of e.held mem) e → n < limit → runs_of e ≡ true
      → Wrote (answer_text (turning e) t.answer) (from at out) m ys → m ≤ 13
      → RKept mem limit e₀ out₀ (n + 1) t.engine (put_mid at (length out - at) out ys) (at + m)
  turned n e out at k t ys m p h g w f =
      let j : Part runs_of (tick_next mem) (tick_said mem) (limit - n) e (record { state = t.engine; calls = 1; text = answer_text (turning e) t.answer }) =
      rw p (one-part runs_of (tick_next mem) (tick_said mem) (limit - n) e (omega arith) g) in
      kept-part runs_of (tick_next mem) (tick_said mem) limit e₀ out₀ n e out at k
      (record { state = t.engine; calls = 1; text = answer_text (turning e) t.answer }) j (omega arith) ys m w
      (omega (arith, w.long)) (omega (arith, w.long, k.short, k.long))

  -- the pulses behind it
  pub gone : (n : ℕ) (e : Engine) (out : List ℕ) (at : ℕ) → RKept mem limit e₀ out₀ n e out at
      → (w : Went) (ys : List ℕ) → went_of w ys ≡ left_by (glide_job e.run.job (limit - n) e) (from at out) → w.len ≤ 13 * w.calls
      → RKept mem limit e₀ out₀ (n + w.calls) w.engine (put_mid at (length out - at) out ys) (at + w.len)
  gone n e out at k w ys q f =
      let g : Way Engine = glide_job e.run.job (limit - n) e in
      let es : w.engine ≡ g.state = ap (λ (x : Left Engine). x.state) q in
      let ec : w.calls ≡ g.calls = ap (λ (x : Left Engine). x.calls) q in
      let el : w.len ≡ length g.text = ap (λ (x : Left Engine). x.len) q in
      let eo : ys ≡ g.text ++ drop (length g.text) (from at out) = ap (λ (x : Left Engine). x.out) q in
      let c : g.calls ≤ limit - n = glide-few e.run.job (limit - n) e in
      let s : length g.text ≤ 13 * g.calls = omega (arith, f, ec, el) in
      rw (es, ec)
      (kept-part runs_of (tick_next mem) (tick_said mem) limit e₀ out₀ n e out at k g (glide-joins mem (limit - n) e e.run.job refl) c ys w.len
      (record { long = el; text = eo }) s (omega (arith, s, c, k.short, k.long, k.few)))

-- ---- what the code of `glide_on` has

module _ (e : Engine) (limit : ℕ) (out : List ℕ) where
  none-by : (j : Job) → under_of j ≡ None → glide_job j limit e ≡ stays e
  unfolding glide_job
  none-by job.Idle h = refl
  none-by job.Storing h = refl
  none-by (job.Direct m) h = let z : ◌≡◌ {A = ℕ} 0 1 = cc in absurd (omega arith)
  none-by job.Ready h = refl
  none-by (job.Moving m) h = let z : ◌≡◌ {A = ℕ} 0 1 = cc in absurd (omega arith)
  none-by (job.Delay q) h = refl
  none-by (job.Wait c t) h = refl

  pub stays-left : {u : Option Travel} {w : Went} → u ≡ under_of e.run.job → u ≡ None → w ≡ record { engine = e; calls = 0; len = 0 }
      → (went_of w out ≡ left_by (glide_job e.run.job limit e) out) × (w.len ≤ 13 * w.calls)
  stays-left p h q =
      (ap (λ (x : Went). went_of x out) q ∙ sym (ap (λ (x : Way Engine). left_by x out) (none-by e.run.job (sym p ∙ h))), rw q (omega arith))

  abbrev map_left : (Gone → Engine) → Left Gone → Left Engine
  map_left f x = record { state = f x.state; calls = x.calls; len = x.len; out = x.out }

  module _ {m : Travel} {g : Glided} {d : Engine} {last : List ℕ} (q : G.glided g last ≡ G.gliding (turning e) limit m e.at out) where
    direct-left : e.run.job ≡ job.Direct m → d ≡ glided g.at g.rest e
        → ◌≡◌ {A = Left Engine} (record { state = d; calls = g.calls; len = g.len; out = last }) (left_by (glide_job e.run.job limit e) out)
    unfolding glide_job glided
    direct-left p r =
        (λ i. record { state = r i; calls = g.calls; len = g.len; out = last })
        ∙ (λ i. record { state = glided_by (p i) g.at g.rest e; calls = g.calls; len = g.len; out = last })
        ∙ ap (λ (x : Left Gone). map_left (in_direct e) x) q
        ∙ sym (ap (λ (j : Job). left_by (glide_job j limit e) out) p)

    moving-left : e.run.job ≡ job.Moving m → d ≡ glided g.at g.rest e
        → ◌≡◌ {A = Left Engine} (record { state = d; calls = g.calls; len = g.len; out = last }) (left_by (glide_job e.run.job limit e) out)
    unfolding glide_job glided
    moving-left p r =
        (λ i. record { state = r i; calls = g.calls; len = g.len; out = last })
        ∙ (λ i. record { state = glided_by (p i) g.at g.rest e; calls = g.calls; len = g.len; out = last })
        ∙ ap (λ (x : Left Gone). map_left (in_moving e) x) q
        ∙ sym (ap (λ (j : Job). left_by (glide_job j limit e) out) p)

    going-by : (j : Job) → e.run.job ≡ j → under_of j ≡ Some m → d ≡ glided g.at g.rest e
        → ◌≡◌ {A = Left Engine} (record { state = d; calls = g.calls; len = g.len; out = last }) (left_by (glide_job e.run.job limit e) out)
    going-by (job.Direct n) p h r = let s : n ≡ m = cc in direct-left (p ∙ ap job.Direct s) r
    going-by (job.Moving n) p h r = let s : n ≡ m = cc in moving-left (p ∙ ap job.Moving s) r
    going-by job.Idle p h r = let z : ◌≡◌ {A = ℕ} 0 1 = cc in absurd (omega arith)
    going-by job.Storing p h r = let z : ◌≡◌ {A = ℕ} 0 1 = cc in absurd (omega arith)
    going-by job.Ready p h r = let z : ◌≡◌ {A = ℕ} 0 1 = cc in absurd (omega arith)
    going-by (job.Delay k) p h r = let z : ◌≡◌ {A = ℕ} 0 1 = cc in absurd (omega arith)
    going-by (job.Wait c t) p h r = let z : ◌≡◌ {A = ℕ} 0 1 = cc in absurd (omega arith)

    pub going-left : {u : Option Travel} → u ≡ under_of e.run.job → u ≡ Some m → d ≡ glided g.at g.rest e
        → ◌≡◌ {A = Left Engine} (record { state = d; calls = g.calls; len = g.len; out = last }) (left_by (glide_job e.run.job limit e) out)
    going-left p h r = going-by e.run.job refl (sym p ∙ h) r
