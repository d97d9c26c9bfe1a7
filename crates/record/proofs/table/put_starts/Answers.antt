-- `record::put_starts` meets its contract: one entry a turn. Assumes nothing.
use Rattle.std.proofs.Common.{◌≡◌, ◌+◌, ◌-◌, ℕ, suc, List, set, length-set, refl, ap, ◌∙◌, arith}
use Rattle.std.proofs.Math.Seq.{paste-zero}
use Rattle.record.specs.Places.{records_from}
use Rattle.record.specs.Table.{starts_of}
use Rattle.record.proofs.laws.Walk.{step-none, step_room}
use Rattle.record.proofs.laws.Fills.{turn-paste, start_first, start-here, start-next}
use Rattle.record.proofs.table.put_starts.Goals as goal

pub loop-i-init : goal.loop-i-init
loop-i-init c =
    let a = c.args in
    (omega arith, refl, paste-zero a.table.now 0 (starts_of (records_from a.axes a.n a.s.now)), start_first a.axes a.n a.s.now c.requires.0)

pub unreachable-requires : goal.unreachable-requires
unreachable-requires c =
    let a = c.args in
    let i = c.loop-i.i in
    let m : a.n - i ≡ suc (a.n - (i + 1)) = omega arith in
    step-none a.axes (a.n - (i + 1)) a.s.now c.loop-i.at c.record_in.ensures c.in_default.not-Got (rw m at c.loop-i.invariant.3.listed)

pub loop-i-preserved : goal.loop-i-preserved
loop-i-preserved c =
    let a = c.args in
    let i = c.loop-i.i in
    let at = c.loop-i.at in
    let v = c.loop-i.invariant in
    let e = c.in-Got.ensures in
    let p = c.loop-i-test.true in
    let q = start-here a.axes a.n a.s.now at i e p v.3 in
    rw (c.from-at.ensures, c.len.ensures) (
      step_room a.axes 0 a.s.now at e v.0,
      length-set c.loop-i.table i at ∙ v.1,
      ap (λ (t : List ℕ). set t i at) v.2 ∙ turn-paste a.table.now (starts_of (records_from a.axes a.n a.s.now)) i at (omega (arith, c.requires.1)) q.0 q.1,
      start-next a.axes a.n a.s.now at i e p v.3,
    )
