-- `course::Walk::go_on` meets its contract, case by case. Assumes nothing.
use Prim.Native.Nat.{ℕ, ◌+◌}
use mathlib.Core.Path.{ap, sym, ◌∙◌}
use native.Mathlib.Omega.{arith}
use Rattle.record.specs.Memory.{memory}
use Rattle.course.specs.declared.Portion.{Portion}
use Rattle.course.specs.Run.{run_outcome}
use Rattle.course.specs.Walk.{walk, ready}
use Rattle.course.specs.Walk.{done_of}
use Rattle.course.proofs.Portions.{on-over, on-unready, on-made, run-few}
use Rattle.course.proofs.Walk.go_on.Goals as goal

pub returns-then-self : goal.returns-then-self
returns-then-self c =
    let a = c.args in
    let m = memory a.store.now a.table.now in
    ap (λ (p : Portion). done_of p m a.out.now) c.stay.ensures ∙ on-over a.self m a.out.now c.if-self.true

pub returns-then-not-is_ready : goal.returns-then-not-is_ready
unfolding ready
returns-then-not-is_ready c =
    let a = c.args in
    let m = memory a.store.now a.table.now in
    ap (λ (p : Portion). done_of p m a.out.now) c.stay-then-not-is_ready.ensures ∙ on-unready a.self m a.out.now c.if-self.false (sym c.is_ready.ensures ∙ c.if-not-is_ready.true)

pub sum_of-requires : goal.sum_of-requires
sum_of-requires c = omega (arith, run-few _ _ _ _ c.run-ran.ensures, c.left_of.ensures)

pub returns : goal.returns
unfolding ready
returns c =
    let a = c.args in
    let m = memory a.store.now a.table.now in
    let r = c.run-ran in
    let l = c.len.ensures in
    ap (λ (n : ℕ). done_of (record { walk = walk r.result.board n r.result.over; len = c.len.result }) m r.new.out) c.sum_of.ensures
    ∙ ap (λ (k : ℕ). done_of (record { walk = walk r.result.board (a.self.calls + r.result.calls) r.result.over; len = k }) m r.new.out) l
    ∙ on-made a.self m a.out.now c.if-self.false (sym c.is_ready.ensures ∙ c.if-not-is_ready.false) (r.ensures ∙ ap (λ (n : ℕ). run_outcome n a.self.board m a.out.now) c.left_of.ensures)
