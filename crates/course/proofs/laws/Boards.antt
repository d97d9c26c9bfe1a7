-- The engine's run is the run of clock calls that 01 speaks of, on a sound board that does not stand. Assumes nothing.
use Prim.Native.Nat.{ℕ, zero, suc}
use mathlib.Core.Path.{◌≡◌, refl, ap, sym, ◌∙◌}
use mathlib.Core.Bool.{Bool, true, false}
use lib.Dec.{leb}
use lib.ListN.{length}
use borrow.Author.Tests.{eq-eqb}
use Rattle.count.specs.Pick.{pick}
use Rattle.count.proofs.laws.Truth.{and_right, and-true, and-false}
use Rattle.travel.specs.Next.{pulse_of}
use Rattle.travel.specs.work.Beat.{next_of}
use Rattle.record.specs.Memory.{Memory, RightMemory}
use Rattle.record.specs.Table.{fetch_of}
use Rattle.engine.specs.declared.Engine.{Engine}
use Rattle.engine.specs.declared.Answer.TheVariants as answer
use Rattle.engine.specs.declared.Told.{Told}
use Rattle.engine.specs.Tick.{ticked, runs_of}
use Rattle.engine.specs.Sound.{sound_of}
use Rattle.engine.proofs.laws.Laws.{rules-agree}
use Rattle.engine.proofs.laws.Kept.{tick-keeps}
use Rattle.board.specs.declared.Board.{Board}
use Rattle.board.specs.Calls.{Ticked}
use Rattle.board.specs.State.{board, sound}
use Rattle.board.specs.Calls.{clocked, went_on, clocking}
use Rattle.board.proofs.laws.Hears.{sound-engine}
use Rattle.course.specs.Text.{turning, answer_text}
use Rattle.course.specs.Run.{runs_now, Course, no_calls, then, course}
use Rattle.course.proofs.laws.Portions.{course-on, course-off, course-none}
use Rattle.course.proofs.laws.Machine.{way_on, way-off, way-none}
use Rattle.course.specs.work.Machine.{Way}
use Rattle.course.specs.work.Going.{tick_next, tick_said, go_way}

-- the board with another engine
abbrev pub with_engine : Board → Engine → Board
with_engine b e = board e b.standing b.line

-- a run of the engine as one of the board
abbrev pub on_board : Board → Way Engine → Course
on_board b w = record { board = with_engine b w.state; calls = w.calls; text = w.text }

module _ (m : Memory) (l : RightMemory m) where
  -- a clock call that is not refused
  unrefused : (b : Board) → sound b ≡ true
      → clocking b m ≡ pick b.standing (clocked 0 b answer.Nothing) (went_on b (ticked pulse_of (fetch_of b.engine.held m) b.engine))
  unfolding clocking
  unrefused b s = rw (eq-eqb (length m.store) 16384 l.0, s, eq-eqb (length m.table) 1000 l.1)

  -- and meets nothing that stands
  pub clock-is : (b : Board) → sound b ≡ true → b.standing ≡ false → clocking b m ≡ went_on b (ticked next_of (fetch_of b.engine.held m) b.engine)
  clock-is b s n =
      unrefused b s
      ∙ ap (λ (x : Bool). pick x (clocked 0 b answer.Nothing) (went_on b (ticked pulse_of (fetch_of b.engine.held m) b.engine))) n
      ∙ ap (λ (t : Told). went_on b t) (sym (rules-agree (fetch_of b.engine.held m) b.engine (sound-engine b s)))

  -- and its board is sound and does not stand
  pub next-sound : (b : Board) → sound b ≡ true → sound (with_engine b (tick_next m b.engine)) ≡ true
  unfolding sound
  next-sound b s =
      let k = tick-keeps (fetch_of b.engine.held m) b.engine (sound-engine b s) in
      rw (k, and_right (sound_of b.engine) (leb b.line.len 80) s)

  runs_same : (b : Board) → b.standing ≡ false → runs_now b ≡ runs_of b.engine
  unfolding runs_now
  runs_same b n = rw n (and-true (runs_of b.engine))

  go-by : (k : ℕ) (b : Board) (x : Bool) → runs_of b.engine ≡ x → sound b ≡ true → b.standing ≡ false
      → course k m (with_engine b (tick_next m b.engine)) ≡ on_board (with_engine b (tick_next m b.engine)) (go_way m k (tick_next m b.engine))
      → course (suc k) m b ≡ on_board b (go_way m (suc k) b.engine)
  go-by k b true r s n h =
      let c = clock-is b s n in
      course-on m k b (runs_same b n ∙ r)
      ∙ ap (λ (t : Ticked). then (answer_text (turning b.engine) t.answer) (course k m t.board)) c
      ∙ ap (λ (d : Course). then (tick_said m b.engine) d) h
      ∙ sym (ap (λ (w : Way Engine). on_board b w) (way_on runs_of (tick_next m) (tick_said m) k b.engine r))
  go-by k b false r s n h =
      course-off m (suc k) b (runs_same b n ∙ r)
      ∙ sym (ap (λ (w : Way Engine). on_board b w) (way-off runs_of (tick_next m) (tick_said m) (suc k) b.engine r))

  -- THE ENGINE'S RUN IS THE BOARD'S
  pub course-is-go : (k : ℕ) (b : Board) → sound b ≡ true → b.standing ≡ false → course k m b ≡ on_board b (go_way m k b.engine)
  course-is-go zero b s n =
      course-none m b ∙ sym (ap (λ (w : Way Engine). on_board b w) (way-none runs_of (tick_next m) (tick_said m) zero b.engine refl))
  course-is-go (suc k) b s n = go-by k b (runs_of b.engine) refl s n (course-is-go k (with_engine b (tick_next m b.engine)) (next-sound b s) n)

-- what stands does not run
pub stands : (m : Memory) (k : ℕ) (b : Board) → b.standing ≡ true → course k m b ≡ no_calls b
unfolding runs_now
stands m k b n = course-off m k b (rw n (and-false (runs_of b.engine)))
