-- `record::put_lines` meets its contract: one record a turn. Assumes nothing.
use Rattle.std.proofs.Common.{◌≡◌, ◌+◌, ◌-◌, suc, [], ◌∷◌, set, drop, arith}
use Rattle.record.specs.Places.{records_from}
use Rattle.record.specs.Listing.{list_text}
use Rattle.record.proofs.laws.Walk.{step-none, step_room}
use Rattle.record.proofs.laws.Writing.{write-one, write-left, write-end, lines-turn, lines-done}
use Rattle.record.specs.work.Writing.{list_in}
use Rattle.record.proofs.listing.put_lines.Goals as goal

pub unreachable-requires : goal.unreachable-requires
unreachable-requires c =
    let a = c.args in
    let i = c.loop.counter in
    let m : a.k - i ≡ suc (a.k - (i + 1)) = omega arith in
    step-none a.axes (a.k - (i + 1)) a.s.now c.loop.at c.record_in.ensures c.in_default.not-Got (rw m at c.loop.invariant.1)

pub loop-preserved : goal.loop-preserved
loop-preserved c =
    let a = c.args in
    let i = c.loop.counter in
    let m : a.k - i ≡ suc (a.k - (i + 1)) = omega arith in
    let e = c.in-Got.ensures in
    let p = c.put_line-out in
    let w = rw m at c.loop.invariant.2 in
    let t = lines-turn (list_text (list_in (records_from a.axes a.k a.s.now))) a.text.now c.loop.text p.new.text a.s.now a.axes (a.k - (i + 1)) c.loop.at c.loop.out e (rw m at c.loop.invariant.1) (omega arith) w p.auto.text p.ensures.0 p.ensures.1 in
    rw (c.from-at.ensures, c.len.ensures) (step_room a.axes (a.k - (i + 1)) a.s.now c.loop.at e c.loop.invariant.0, t.0, t.1)

pub returns : goal.returns
returns c =
    let a = c.args in
    let T = list_text (list_in (records_from a.axes a.k a.s.now)) in
    let z : a.k - c.loop.counter ≡ 0 = omega arith in
    let e = lines-done a.axes (a.k - c.loop.counter) (drop c.loop.at a.s.now) z c.loop.invariant.1 in
    let w = write-one T a.text.now c.loop.text c.loop.out (omega arith) 57 (13 ∷ []) (write-left e c.loop.invariant.2) in
    let v = write-one T a.text.now (set c.loop.text c.loop.out 57) (c.loop.out + 1) (omega arith) 13 [] w in
    let d = write-end T a.text.now (set (set c.loop.text c.loop.out 57) (c.loop.out + 1) 13) (c.loop.out + 1 + 1) v in
    (omega (arith, d.0), d.1)
