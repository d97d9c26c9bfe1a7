-- What holds of our board after any events from a fresh one on, whatever is lent: where something is under way, axes are set, and no line is
-- begun unless it stands; and what stands is under way. Assumes nothing.
use Prim.Native.Nat.{ℕ}
use mathlib.Core.Bool.{Bool, true, false, not, ◌&&◌, ◌||◌, true≢false}
use mathlib.Core.List.{List, [], ◌∷◌}
use mathlib.Core.Path.{◌≡◌, refl, sym, ◌∙◌, ap, subst}
use lib.Dec.{leb, eqb}
use Rattle.count.specs.Pick.{pick}
use Rattle.count.proofs.laws.Truth.{never, and_left}
use Rattle.travel.specs.Next.{pulse_of}
use Rattle.record.specs.Memory.{Memory}
use Rattle.record.specs.Table.{fetch_of}
use Rattle.engine.specs.declared.Job.{Job}
use Rattle.engine.specs.declared.Job.TheVariants as job
use Rattle.engine.specs.declared.Engine.{Engine}
use Rattle.engine.specs.State.{ceased, reset_of, heard}
use Rattle.board.specs.declared.Line.{Line}
use Rattle.board.specs.declared.Board.{Board}
use Rattle.board.specs.Calls.{Ticked}
use Rattle.board.specs.State.{board, no_line, Said, said}
use Rattle.board.specs.Receive.{holds_by, ends_by, ear_by, ear_of, stopped, broken, reset_said, ordinary, gathering, hearing}
use Rattle.board.specs.Calls.{clocking, fresh}
use Rattle.promise.specs.Machine.{ours, Event, next, after_all}
use Rattle.promise.specs.Stop.{call, own, rests_by, rests, RunsClear}
use Rattle.promise.proofs.laws.KeepsCalls.{by_call}
use Rattle.promise.proofs.laws.KeepsOn.{event-kept, all-kept}
use Rattle.promise.proofs.laws.StopBoard.{Clear, ClearIf, Fit, clear_of, Held, left, held-byte}
use Rattle.promise.proofs.laws.StopQuiet.{quiet-byte}
use Rattle.promise.proofs.laws.StopOne.{one}
use Rattle.promise.proofs.laws.StopAxes.{Axed, gather-axed, heard-axes, tick-axed}

pub record Runs (b : Board) : Type 0 where
  pub fit : Fit b
  pub axes : Axed b.engine
  pub stands : b.standing ≡ true → rests b ≡ false

-- ---- a board that rests

rest-clear : (j : Job) (l : Line) → rests_by j ≡ true → Clear j l
rest-clear job.Idle l h = tt
rest-clear job.Storing l h = tt
rest-clear (job.Direct m) l h = never h
rest-clear job.Ready l h = never h
rest-clear (job.Moving m) l h = never h
rest-clear (job.Delay q) l h = never h
rest-clear (job.Wait c t) l h = never h

at_rest : (e : Engine) (l : Line) → leb l.len 80 ≡ true → rests_by e.run.job ≡ true → Runs (board e false l)
at_rest e l s h = record {
  fit = record { short = s; clear = rest-clear e.run.job l h };
  axes = λ q. absurd (true≢false (sym h ∙ q));
  stands = λ q. never q;
}

-- ---- a byte

pick-runs : (t : Bool) (x y : Said) → Runs x.board → Runs y.board → Runs (pick t x y).board
pick-runs true x y p q = p
pick-runs false x y p q = q

holds_on : (j : Job) → holds_by j ≡ true → rests_by j ≡ false
holds_on job.Idle h = never h
holds_on job.Storing h = never h
holds_on (job.Direct m) h = refl
holds_on job.Ready h = refl
holds_on (job.Moving m) h = refl
holds_on (job.Delay q) h = never h
holds_on (job.Wait c t) h = never h

module _ (e : Engine) (l : Line) (mem : Memory) where
  stop-runs : (s : Bool) → Runs (board e s l) → Runs (stopped (board e s l) mem).board
  unfolding stopped
  stop-runs s h = by (holds_by e.run.job && not s) refl
    where
      by : (t : Bool) → holds_by e.run.job && not s ≡ t → Runs (pick t (said (board e true l) (70 ∷ []) mem) (said (board e s l) [] mem)).board
      by true q = record {
        fit = record { short = h.fit.short; clear = tt };
        axes = h.axes;
        stands = λ p. holds_on e.run.job (and_left (holds_by e.run.job) (not s) q);
      }
      by false q = h

  break-runs : (s : Bool) → Runs (board e s l) → Runs (broken (board e s l) mem).board
  unfolding broken
  break-runs s h =
      pick-runs (ends_by e.run.job || s) (said (board (ceased e) false l) (70 ∷ []) mem) (said (board e s l) [] mem)
      (at_rest (ceased e) l h.fit.short refl) h

  reset_runs : (s : Bool) → Runs (reset_said (board e s l) mem).board
  unfolding reset_said reset_of
  reset_runs s = at_rest _ no_line refl refl

  module _ (v : ℕ) (ports : List ℕ) where
    -- while something stands, the engine stays
    stood : (q : Board × Memory) → Held e mem q → Runs (board e true l) → Runs q.0
    stood q g h =
        let p : q.0.engine ≡ e = ap (λ (b : Board). b.engine) g.twin in
        let r : rests_by q.0.engine.run.job ≡ rests_by e.run.job = ap (λ (x : Engine). rests_by x.run.job) p in
        record {
          fit = g.fit;
          axes = λ n. ap (λ (x : Engine). eqb x.axes 0) p ∙ h.axes (sym r ∙ n);
          stands = λ n. r ∙ h.stands refl;
        }

    quiet : rests_by e.run.job ≡ true → Runs (board e false l) → Runs (gathering v ports (board e false l) mem).board
    quiet r h =
        let g = quiet-byte ports e l mem v h.fit.short (λ k. rest-clear e.run.job k r) in
        record { fit = g.fit; axes = gather-axed ports e l mem r v; stands = λ n. never (sym g.standing ∙ n) }

    waited : (c t : ℕ) → e.run.job ≡ job.Wait c t → Runs (board e false l) → Runs (board (heard v e) false l)
    unfolding heard
    waited c t q h =
        let n : l ≡ no_line = subst (λ (j : Job). Clear j l) q h.fit.clear in
        record {
          fit = record { short = h.fit.short; clear = clear_of (heard v e).run.job n };
          axes = λ p. ap (λ (x : ℕ). eqb x 0) (heard-axes e.run.job v e) ∙ h.axes (ap rests_by q);
          stands = λ p. never p;
        }

    ear-runs : (s : Bool) → Runs (board e s l) → Runs (ordinary (ear_of (board e s l)) v ports (board e s l) mem).board
    unfolding ear_of
    ear-runs true h = stood (left (gathering v ports (board e true l) mem)) (held-byte e mem ports l v h.fit.short) h
    ear-runs false h = by e.run.job refl
      where
        by : (j : Job) → e.run.job ≡ j → Runs (ordinary (ear_by j) v ports (board e false l) mem).board
        by job.Idle q = quiet (ap rests_by q) h
        by job.Storing q = quiet (ap rests_by q) h
        by (job.Direct m) q = h
        by job.Ready q = h
        by (job.Moving m) q = h
        by (job.Delay n) q = h
        by (job.Wait c t) q = waited c t q h

pub byte-runs : (v : ℕ) (ports : List ℕ) (b : Board) (mem : Memory) → Runs b → Runs (hearing v ports b mem).board
unfolding hearing
byte-runs v ports b mem h =
    pick-runs (eqb v 253) (stopped b mem) _ (stop-runs b.engine b.line mem b.standing h)
    (pick-runs (eqb v 254) (reset_said b mem) _ (reset_runs b.engine b.line mem b.standing)
    (pick-runs (eqb v 255) (broken b mem) (ordinary (ear_of b) v ports b mem) (break-runs b.engine b.line mem b.standing h)
    (ear-runs b.engine b.line mem v ports b.standing h)))

-- ---- a clock call

pub clock-runs : (b : Board) (mem : Memory) → Runs b → Runs (clocking b mem).board
clock-runs b mem h = record {
  fit = (one (b, mem) (call own) h.fit tt).1;
  axes = by_call b mem (λ (t : Ticked). Axed t.board.engine) (λ n. h.axes)
      (λ s q. tick-axed pulse_of (fetch_of b.engine.held mem) b.engine h.axes);
  stands = by_call b mem (λ (t : Ticked). t.board.standing ≡ true → rests t.board ≡ false) (λ n. h.stands)
      (λ s q p. never (sym q ∙ p));
}

-- ---- after any events

pub all_runs : (es : List Event) → Runs (after_all ours es fresh)
all_runs es = all-kept Runs byte-runs clock-runs es fresh (at_rest fresh.engine no_line refl refl)

pub event-runs : (e : Event) (b : Board) → Runs b → Runs (next ours e b)
event-runs e b h = event-kept Runs byte-runs clock-runs e b h

-- where something is under way and does not stand, no line is begun
pub clear-line : (b : Board) → Fit b → rests b ≡ false → b.standing ≡ false → b.line ≡ no_line
clear-line b f r s = by b.standing b.engine.run.job f.clear r s
  where
    by : (t : Bool) (j : Job) → ClearIf t j b.line → rests_by j ≡ false → t ≡ false → b.line ≡ no_line
    by true j c r s = absurd (true≢false s)
    by false job.Idle c r s = absurd (true≢false r)
    by false job.Storing c r s = absurd (true≢false r)
    by false (job.Direct m) c r s = c
    by false job.Ready c r s = c
    by false (job.Moving m) c r s = c
    by false (job.Delay q) c r s = c
    by false (job.Wait v t) c r s = c

pub ours-clear : RunsClear ours
ours-clear es r = let h = all_runs es in (h.axes r, λ s. clear-line (after_all ours es fresh) h.fit r s)

-- and what stands is under way, with axes set
pub stands-clear : (es : List Event) → (after_all ours es fresh).standing ≡ true →
    (rests (after_all ours es fresh) ≡ false) × (eqb (after_all ours es fresh).engine.axes 0 ≡ false)
stands-clear es s = let h = all_runs es in (h.stands s, h.axes (h.stands s))
