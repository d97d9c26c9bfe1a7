-- `course::go` meets its contract: each turn is a clock call and the pulses that follow it. Assumes nothing.
use Prim.Native.Nat.{ℕ, ◌-◌, ◌+◌}
use mathlib.Core.Path.{◌≡◌, refl, sym, ◌∙◌}
use mathlib.Core.List.{List}
use native.Mathlib.Omega.{arith}
use borrow.Rule.Slice.PartMut.{put_mid}
use lib.ListN.{length}
use Rattle.record.specs.Memory.{memory}
use Rattle.engine.specs.Tick.{runs_of}
use Rattle.course.proofs.laws.Machine.{way-off, way-none}
use Rattle.course.specs.work.Going.{tick_next, tick_said}
use Rattle.course.proofs.Loop.{kept-first, kept-last}
use Rattle.course.proofs.Pulses.{behind-long}
use Rattle.course.proofs.Turns.{RKept, turned, gone}
use Rattle.course.proofs.going.go.Goals as goal
use Rattle.course.proofs.going.go.Goals.{After-put_answer-k, After-glide_on-w}

-- the buffer after the clock call's text
abbrev out1 : (c : After-put_answer-k) → List ℕ
out1 c = let l = c.loop-n in put_mid l.at (length l.out - l.at) l.out c.put_answer-k.new.out

-- the invariant after the clock call
mid : (c : After-put_answer-k)
    → RKept (memory c.args.store.now c.args.table.now) c.args.limit c.args.start c.args.out.now
    (c.loop-n.n + 1) c.tick-t.result.engine (out1 c) (c.loop-n.at + c.put_answer-k.result)
mid c =
    let l = c.loop-n in
    let a = c.args in
    turned (memory a.store.now a.table.now) a.limit a.start a.out.now l.invariant.1 l.n l.e l.out l.at l.invariant.0 c.tick-t.result c.put_answer-k.new.out c.put_answer-k.result
    c.tick-t.ensures c.loop-n-test.true (sym c.runs.ensures ∙ c.if-not-runs.false) (rw c.is_turning-turns.ensures at c.put_answer-k.ensures.0) c.put_answer-k.ensures.1

-- and after the pulses behind it, where `out1` is the buffer after the clock call's text
both : (c : After-glide_on-w) (out1 : List ℕ)
    → RKept (memory c.args.store.now c.args.table.now) c.args.limit c.args.start c.args.out.now
    (c.loop-n.n + 1) c.tick-t.result.engine out1 (c.loop-n.at + c.put_answer-k.result)
    → out1 ≡ put_mid c.loop-n.at (length c.loop-n.out - c.loop-n.at) c.loop-n.out c.put_answer-k.new.out
    → RKept (memory c.args.store.now c.args.table.now) c.args.limit c.args.start c.args.out.now
    (c.loop-n.n + 1 + c.glide_on-w.result.calls) c.glide_on-w.result.engine
    (put_mid (c.loop-n.at + c.put_answer-k.result) (length out1 - (c.loop-n.at + c.put_answer-k.result)) out1 c.glide_on-w.new.out)
    (c.loop-n.at + c.put_answer-k.result + c.glide_on-w.result.len)
both c out1 m e =
    let l = c.loop-n in
    let a = c.args in
    gone (memory a.store.now a.table.now) a.limit a.start a.out.now l.invariant.1 (l.n + 1) c.tick-t.result.engine out1 (l.at + c.put_answer-k.result) m
    c.glide_on-w.result c.glide_on-w.new.out (rw e c.glide_on-w.ensures.0) c.glide_on-w.ensures.1

pub loop-n-init : goal.loop-n-init
loop-n-init c =
    let a = c.args in
    let m = memory a.store.now a.table.now in
    (kept-first runs_of (tick_next m) (tick_said m) a.limit a.start a.out.now, c.requires)

pub shape_of-out-then-not-runs : goal.shape_of-out-then-not-runs
shape_of-out-then-not-runs c = c.loop-n.invariant.0.long

pub returns-then-not-runs : goal.returns-then-not-runs
returns-then-not-runs c =
    let l = c.loop-n in
    let a = c.args in
    let m = memory a.store.now a.table.now in
    kept-last runs_of (tick_next m) (tick_said m) a.limit a.start a.out.now l.n l.e l.out l.at l.invariant.0 (way-off runs_of (tick_next m) (tick_said m) _ _ (sym c.runs.ensures ∙ c.if-not-runs.true))

pub put_answer-k-requires : goal.put_answer-k-requires
put_answer-k-requires c = let l = c.loop-n in rw (behind-long l.at l.out) (omega (arith, l.invariant.0.short, l.invariant.0.long, l.invariant.1, c.loop-n-test.true))

pub overflow_add-mid : goal.overflow_add-mid
overflow_add-mid c = omega (arith, (mid (goal.at.overflow_add-mid c).After-put_answer-k).room, (mid (goal.at.overflow_add-mid c).After-put_answer-k).long)

pub slice_bounds-glide_on-count : goal.slice_bounds-glide_on-count
slice_bounds-glide_on-count c = (mid (goal.at.slice_bounds-glide_on-count c).After-put_answer-k).room

pub slice_bounds-glide_on-start : goal.slice_bounds-glide_on-start
slice_bounds-glide_on-start c = (mid (goal.at.slice_bounds-glide_on-start c).After-put_answer-k).room

pub glide_on-w-requires : goal.glide_on-w-requires
glide_on-w-requires c = let l = c.loop-n in rw (behind-long (l.at + c.put_answer-k.result) (out1 (goal.at.glide_on-w-requires c).After-put_answer-k)) (omega (arith, (mid (goal.at.glide_on-w-requires c).After-put_answer-k).short, (mid (goal.at.glide_on-w-requires c).After-put_answer-k).long, (mid (goal.at.glide_on-w-requires c).After-put_answer-k).few, l.invariant.1))

pub overflow_add-at : goal.overflow_add-at
overflow_add-at c = let b = both (goal.at.overflow_add-at c).After-glide_on-w _ (mid (goal.at.overflow_add-at c).After-put_answer-k) refl in omega (arith, b.short, b.few, c.ranges.limit)

pub overflow_add-n : goal.overflow_add-n
overflow_add-n c = let b = both (goal.at.overflow_add-n c).After-glide_on-w _ (mid (goal.at.overflow_add-n c).After-put_answer-k) refl in omega (arith, b.few, c.ranges.limit)

pub loop-n-smaller : goal.loop-n-smaller
loop-n-smaller c = omega (arith, c.loop-n-test.true)

pub loop-n-preserved : goal.loop-n-preserved
loop-n-preserved c = (both (goal.at.loop-n-preserved c).After-glide_on-w _ (mid (goal.at.loop-n-preserved c).After-put_answer-k) refl, c.loop-n.invariant.1)

pub shape_of-out : goal.shape_of-out
shape_of-out c = c.loop-n.invariant.0.long

pub returns : goal.returns
returns c =
    let l = c.loop-n in
    let a = c.args in
    let m = memory a.store.now a.table.now in
    kept-last runs_of (tick_next m) (tick_said m) a.limit a.start a.out.now l.n l.e l.out l.at l.invariant.0 (way-none runs_of (tick_next m) (tick_said m) _ _ (omega arith))
