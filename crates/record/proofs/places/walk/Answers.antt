-- `record::walk` meets its contract: one record a turn. Assumes nothing.
use Rattle.std.proofs.Common.{◌≡◌, ◌+◌, ◌-◌, suc, sym, ◌∙◌, arith}
use Rattle.record.specs.Places.{spot_from}
use Rattle.record.proofs.laws.Walk.{step-wrong, step-on, step_room}
use Rattle.record.proofs.places.walk.Goals as goal

pub returns-in_default : goal.returns-in_default
returns-in_default c =
    let a = c.args in
    let i = c.loop.counter in
    let m : a.k - i ≡ suc (a.k - (i + 1)) = omega arith in
    sym (rw m at c.loop.invariant.1 ∙ step-wrong a.axes (a.k - (i + 1)) a.s.now c.loop.at c.record_in.ensures c.in_default.not-Got)

pub loop-preserved : goal.loop-preserved
loop-preserved c =
    let a = c.args in
    let i = c.loop.counter in
    let m : a.k - i ≡ suc (a.k - (i + 1)) = omega arith in
    let e = c.in-Got.ensures in
    rw (c.from-at.ensures, c.len.ensures)
    (step_room a.axes (a.k - (i + 1)) a.s.now c.loop.at e c.loop.invariant.0, rw m at c.loop.invariant.1 ∙ step-on a.axes (a.k - (i + 1)) a.s.now c.loop.at e)

pub returns : goal.returns
unfolding spot_from
returns c =
    let z : c.args.k - c.loop.counter ≡ 0 = omega arith in
    sym (c.loop.invariant.1 ∙ rw z)
