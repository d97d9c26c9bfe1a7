-- The outcomes of `run`, case by case. Assumes nothing.
use Prim.Native.Nat.{ℕ}
use mathlib.Core.Path.{◌≡◌, ap, sym, ◌∙◌}
use mathlib.Core.Bool.{Bool, true, false, not}
use mathlib.Core.List.{List}
use lib.ListN.{length}
use borrow.Author.Tests.{eq-eqb, ne_eqb}
use Rattle.record.specs.Memory.{Memory, RightMemory}
use Rattle.engine.specs.declared.Engine.{Engine}
use Rattle.board.specs.declared.Board.{Board}
use Rattle.board.specs.State.{sound}
use Rattle.course.specs.declared.Went.{Went}
use Rattle.course.specs.Run.{runs_now, Course, course, allowed, RunOutcome, did_run, ran, run_outcome}
use Rattle.course.specs.work.Work.{stood}
use Rattle.course.specs.work.Machine.{Left, left_by}
use Rattle.course.specs.work.Going.{go_way, went_of}
use Rattle.course.proofs.laws.Boards.{with_engine, course-is-go, stands}

module _ (limit : ℕ) (b : Board) (m : Memory) (out : List ℕ) where
  pub refused-102 : (length m.store ≡ 16384 → ⊥) → did_run (stood 102 b) out ≡ run_outcome limit b m out
  unfolding run_outcome
  refused-102 h = rw (ne_eqb (length m.store) 16384 h)

  pub refused-103 : length m.store ≡ 16384 → sound b ≡ false → did_run (stood 103 b) out ≡ run_outcome limit b m out
  unfolding run_outcome
  refused-103 l s = rw (eq-eqb (length m.store) 16384 l, s)

  pub refused-104 : length m.store ≡ 16384 → sound b ≡ true → (length m.table ≡ 1000 → ⊥) → did_run (stood 104 b) out ≡ run_outcome limit b m out
  unfolding run_outcome
  refused-104 l s h = rw (eq-eqb (length m.store) 16384 l, s, ne_eqb (length m.table) 1000 h)

  module _ (l : RightMemory m) where
    pub unrefused : sound b ≡ true → run_outcome limit b m out ≡ ran (course (allowed limit out) m b) out
    unfolding run_outcome
    unrefused s = rw (eq-eqb (length m.store) 16384 l.0, s, eq-eqb (length m.table) 1000 l.1)

    pub rests-there : sound b ≡ true → b.standing ≡ true → did_run (stood 0 b) out ≡ run_outcome limit b m out
    rests-there s n = sym (unrefused s ∙ ap (λ (c : Course). ran c out) (stands m (allowed limit out) b n))

    -- the engine's run, with its text
    pub went : sound b ≡ true → b.standing ≡ false → {w : Went} {last : List ℕ} {next : Board} {over : Bool}
        → went_of w last ≡ left_by (go_way m (allowed limit out) b.engine) out → next ≡ with_engine b w.engine → over ≡ not (runs_now next)
        → did_run (record { board = next; calls = w.calls; over = over; len = w.len; refusal = 0 }) last ≡ run_outcome limit b m out
    went s n {w} {last} {next} {over} q e o =
        (λ i. did_run (record { board = e i; calls = w.calls; over = o' i; len = w.len; refusal = 0 }) last)
        ∙ ap outcome q
        ∙ sym (unrefused s ∙ ap (λ (c : Course). ran c out) (course-is-go m l (allowed limit out) b s n))
      where
        o' : over ≡ not (runs_now (with_engine b w.engine))
        o' = o ∙ ap (λ (x : Board). not (runs_now x)) e

        outcome : Left Engine → RunOutcome
        outcome x = did_run (record { board = with_engine b x.state; calls = x.calls; over = not (runs_now (with_engine b x.state)); len = x.len; refusal = 0 }) x.out
