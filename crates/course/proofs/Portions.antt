-- The outcomes of a walk's portions, case by case. Assumes nothing.
use Prim.Native.Nat.{ℕ, ◌+◌, ◌-◌, ◌/◌, ◌≤◌, min}
use native.Mathlib.Nat.{min-le_left}
use mathlib.Core.Path.{◌≡◌, ap, sym, ◌∙◌}
use mathlib.Core.Bool.{Bool, true, false, not, ◌&&◌}
use mathlib.Core.List.{List, [], ◌++◌}
use native.Mathlib.Omega.{arith}
use lib.Dec.{leb}
use lib.ListN.{length}
use borrow.Author.Tests.{eqb-true, leb-true}
use Rattle.count.specs.Pick.{pick}
use Rattle.count.specs.Text.{written, wrote}
use Rattle.count.proofs.laws.Digits.{wrote-long}
use Rattle.count.proofs.laws.Truth.{and_parts}
use Rattle.record.specs.Memory.{Memory, RightMemory, store_fits, table_fits}
use Rattle.board.specs.declared.Board.{Board}
use Rattle.board.specs.State.{sound}
use Rattle.course.specs.Run.{Ran}
use Rattle.course.specs.declared.Walk.{Walk}
use Rattle.course.specs.Text.{limit_text, end_text}
use Rattle.course.specs.Run.{course, allowed, RunOutcome, did_run, refused_run, ran, run_outcome}
use Rattle.course.proofs.laws.Portions.{course-few}
use Rattle.course.specs.Walk.{most, ready, Done, done, walk, further, on_done, tail_done}
use Rattle.course.specs.Walk.{done_of}
use Rattle.course.specs.work.Work.{Wrote, same}
use Rattle.course.proofs.Outcomes.{unrefused}

-- a text that was written into a part of at least so many bytes
pub written_of : {room k : ℕ} {t s o : List ℕ} → room ≤ length s → Wrote t s k o → written k o ≡ wrote room t s
written_of {room} {k} {t} {s} h w = (λ i. written (w.long i) (w.text i)) ∙ sym (wrote-long room t s h)

pub tail-over : {k : ℕ} {o : List ℕ} (w : Walk) (s : List ℕ) → 64 ≤ length s → w.over ≡ true → Wrote (end_text w.board) s k o → written k o ≡ tail_done w s
unfolding tail_done
tail-over w s h e t = written_of h t ∙ sym (ap (λ (b : Bool). wrote 64 (pick b [] limit_text ++ end_text w.board) s) e)

pub tail-on : {k : ℕ} {o : List ℕ} (w : Walk) (s : List ℕ) → 64 ≤ length s → w.over ≡ false → Wrote (limit_text ++ end_text w.board) s k o → written k o ≡ tail_done w s
unfolding tail_done
tail-on w s h e t = written_of h t ∙ sym (ap (λ (b : Bool). wrote 64 (pick b [] limit_text ++ end_text w.board) s) e)

-- ---- a walk that is ready

pub pick_yes : {A : Type 0} (x y : A) (b : Bool) → b ≡ true → pick b x y ≡ x
pick_yes x y b e = rw e

pub pick_no : {A : Type 0} (x y : A) (b : Bool) → b ≡ false → pick b x y ≡ y
pick_no x y b e = rw e

-- a run makes no more calls than its limit
few-by : (x y z : Bool) (limit : ℕ) (b : Board) (m : Memory) (out : List ℕ)
    → (pick (not x) (refused_run 102 b out) (pick (not y) (refused_run 103 b out) (pick (not z) (refused_run 104 b out) (ran (course (allowed limit out) m b) out)))).result.calls ≤ limit
unfolding allowed
few-by false y z limit b m out = omega arith
few-by true false z limit b m out = omega arith
few-by true true false limit b m out = omega arith
few-by true true true limit b m out = omega (arith, course-few m (min limit (length out / 13)) b, min-le_left limit (length out / 13))

pub run-few : (limit : ℕ) (b : Board) (m : Memory) (out : List ℕ) {r : Ran} {last : List ℕ} → did_run r last ≡ run_outcome limit b m out → r.calls ≤ limit
unfolding run_outcome
run-few limit b m out q =
    let c = ap (λ (x : RunOutcome). x.result.calls) q in
    omega (arith, c, few-by (store_fits m) (sound b) (table_fits m) limit b m out)

module _ (w : Walk) (m : Memory) (out : List ℕ) where
  abbrev onward : Done
  onward = let c = course (allowed (most - w.calls) out) m w.board in done (further c w.calls) c.text m out

  pub ready-parts : ready w m out ≡ true → (64 ≤ length out) × RightMemory m × (sound w.board ≡ true)
  unfolding ready
  ready-parts e =
      let o = and_parts (leb 64 (length out) && store_fits m && sound w.board) (table_fits m) e in
      let p = and_parts (leb 64 (length out) && store_fits m) (sound w.board) o.0 in
      let q = and_parts (leb 64 (length out)) (store_fits m) p.0 in
      (leb-true 64 (length out) q.0, (eqb-true (length m.store) 16384 q.1, eqb-true (length m.table) 1000 o.1), p.1)

  -- ---- a run that goes on

  pub on-over : w.over ≡ true → done_of (same w) m out ≡ on_done w m out
  unfolding on_done
  on-over o = sym (pick_no onward (done w [] m out) (not w.over && ready w m out) (rw o))

  pub on-unready : w.over ≡ false → ready w m out ≡ false → done_of (same w) m out ≡ on_done w m out
  unfolding on_done
  on-unready o e = sym (pick_no onward (done w [] m out) (not w.over && ready w m out) (λ i. not (o i) && e i))

  pub went_on : w.over ≡ false → ready w m out ≡ true → on_done w m out ≡ onward
  unfolding on_done
  went_on o e = pick_yes onward (done w [] m out) (not w.over && ready w m out) (λ i. not (o i) && e i)

  pub on-made : w.over ≡ false → ready w m out ≡ true → {r : Ran} {last : List ℕ}
      → did_run r last ≡ run_outcome (most - w.calls) w.board m out
      → done_of (record { walk = walk r.board (w.calls + r.calls) r.over; len = r.len }) m last ≡ on_done w m out
  on-made o e {r} {last} q =
      let p = ready-parts e in
      ap made (q ∙ unrefused (most - w.calls) w.board m out p.1 p.2) ∙ sym (went_on o e)
    where
      made : RunOutcome → Done
      made x = done_of (record { walk = walk x.result.board (w.calls + x.result.calls) x.result.over; len = x.result.len }) m x.out
