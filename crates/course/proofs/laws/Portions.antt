-- Portions compose: two runs in a row are one run of the sum of what each was allowed, and the portions of a walk end to end are the
-- whole output, whatever the buffers' lengths. Assumes nothing.
use Prim.Native.Nat.{ℕ, zero, suc, ◌+◌, ◌≤◌}
use mathlib.Core.Path.{◌≡◌, refl, sym, ap, ◌∙◌}
use mathlib.Core.Bool.{Bool, true, false}
use mathlib.Core.List.{List, ◌++◌, append_assoc}
use native.Mathlib.Omega.{arith}
use Rattle.record.specs.Memory.{Memory}
use Rattle.board.specs.declared.Board.{Board}
use Rattle.board.specs.Calls.{clocking}
use Rattle.course.specs.Text.{turning, answer_text}
use Rattle.course.specs.Run.{runs_now, Course, no_calls, then, course}

-- one run and another that goes on from it
abbrev pub joins : Course → Course → Course
joins c d = record { board = d.board; calls = c.calls + d.calls; text = c.text ++ d.text }

joins-none : (b : Board) (c : Course) → joins (no_calls b) c ≡ c
joins-none b c =
    let p : 0 + c.calls ≡ c.calls = omega arith in
    λ i. record { board = c.board; calls = p i; text = c.text }

then-joins : (t : List ℕ) (c d : Course) → then t (joins c d) ≡ joins (then t c) d
then-joins t c d =
    let p : 1 + (c.calls + d.calls) ≡ 1 + c.calls + d.calls = omega arith in
    let q = append_assoc t c.text d.text in
    λ i. record { board = d.board; calls = p i; text = sym q i }

module _ (m : Memory) where
  -- a board on which nothing runs stays
  pub course-off : (k : ℕ) (b : Board) → runs_now b ≡ false → course k m b ≡ no_calls b
  unfolding course
  course-off zero b e = refl
  course-off (suc k) b e = rw (e, course)

  pub course-on : (k : ℕ) (b : Board) → runs_now b ≡ true
      → course (suc k) m b ≡ then (answer_text (turning b.engine) (clocking b m).answer) (course k m (clocking b m).board)
  unfolding course
  course-on k b e = rw (e, course)

  pub course-none : (b : Board) → course 0 m b ≡ no_calls b
  unfolding course
  course-none b = refl

  abbrev Plus : ℕ → ℕ → Board → Type 0
  Plus j k b = course (j + k) m b ≡ joins (course j m b) (course k m (course j m b).board)

  plus-by : (j k : ℕ) (b : Board) (t : Bool) → runs_now b ≡ t → Plus j k (clocking b m).board
      → course (suc (j + k)) m b ≡ joins (course (suc j) m b) (course k m (course (suc j) m b).board)
  plus-by j k b true e h =
      let on = course-on j b e in
      course-on (j + k) b e
      ∙ ap (λ (c : Course). then (answer_text (turning b.engine) (clocking b m).answer) c) h
      ∙ then-joins (answer_text (turning b.engine) (clocking b m).answer) (course j m (clocking b m).board) (course k m (course j m (clocking b m).board).board)
      ∙ sym (ap (λ (c : Course). joins c (course k m c.board)) on)
  plus-by j k b false e h =
      let off = course-off (suc j) b e in
      course-off (suc (j + k)) b e
      ∙ sym (joins-none b (no_calls b))
      ∙ sym (ap (λ (c : Course). joins (no_calls b) c) (course-off k b e))
      ∙ sym (ap (λ (c : Course). joins c (course k m c.board)) off)

  -- TWO RUNS IN A ROW ARE ONE
  pub course-plus : (j k : ℕ) (b : Board) → Plus j k b
  course-plus zero k b =
      let z : 0 + k ≡ k = omega arith in
      rw z (sym (ap (λ (c : Course). joins c (course k m c.board)) (course-none b) ∙ joins-none b (course k m b)))
  course-plus (suc j) k b =
      let z : suc j + k ≡ suc (j + k) = omega arith in
      rw z (plus-by j k b (runs_now b) refl (course-plus j k (clocking b m).board))

  -- no more calls than allowed
  few-by : (k : ℕ) (b : Board) (t : Bool) → runs_now b ≡ t → (course k m (clocking b m).board).calls ≤ k → (course (suc k) m b).calls ≤ suc k
  few-by k b true e h = rw (course-on k b e) (omega arith)
  few-by k b false e h = rw (course-off (suc k) b e) (omega arith)

  pub course-few : (k : ℕ) (b : Board) → (course k m b).calls ≤ k
  course-few zero b = rw (course-none b) (omega arith)
  course-few (suc k) b = few-by k b (runs_now b) refl (course-few k (clocking b m).board)

  -- a run that still runs has made as many calls as it was allowed
  full_by : (k : ℕ) (b : Board) (t : Bool) → runs_now b ≡ t
      → (runs_now (course k m (clocking b m).board).board ≡ true → (course k m (clocking b m).board).calls ≡ k)
      → runs_now (course (suc k) m b).board ≡ true → (course (suc k) m b).calls ≡ suc k
  full_by k b true e h r =
      let on = course-on k b e in
      let g = rw on at r in
      ap (λ (c : Course). c.calls) on ∙ omega (arith, h g)
  full_by k b false e h r =
      let off = course-off (suc k) b e in
      let g : runs_now b ≡ true = sym (ap (λ (c : Course). runs_now c.board) off) ∙ r in
      let z : ◌≡◌ {A = ℕ} 0 1 = cc in absurd (omega arith)

  pub course-full : (k : ℕ) (b : Board) → runs_now (course k m b).board ≡ true → (course k m b).calls ≡ k
  course-full zero b r = ap (λ (c : Course). c.calls) (course-none b)
  course-full (suc k) b r = full_by k b (runs_now b) refl (course-full k (clocking b m).board) r
