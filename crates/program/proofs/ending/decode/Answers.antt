-- `program::ending::decode` meets its contract. Assumes nothing.
use Rattle.std.proofs.Common.{◌≡◌, ◌+◌, ◌-◌, suc, arith}
use Rattle.program.proofs.Gather.{start, lost, gone-on, over}
use Rattle.program.proofs.ending.decode.Goals as goal

pub loop-i-init : goal.loop-i-init
loop-i-init c = record { near = omega arith; left = start _ _ (omega arith) c.requires.1 c.requires.2 }

pub returns-in_default : goal.returns-in_default
returns-in_default c =
    let n = c.args.held.records in
    let m : n - c.loop-i.i ≡ suc (n - (c.loop-i.i + 1)) = omega arith in
    lost _ _ _ _ _ _ c.record_at.ensures (n - (c.loop-i.i + 1)) (rw m at c.loop-i.invariant.left) c.in_default.not-Got

pub loop-i-preserved : goal.loop-i-preserved
loop-i-preserved c =
    let n = c.args.held.records in
    let m : n - c.loop-i.i ≡ suc (n - (c.loop-i.i + 1)) = omega arith in
    let e = c.in-Got.ensures in
    record {
      near = omega arith;
      left = rw (c.from-at.ensures, c.len.ensures) (gone-on _ _ _ _ _ _ e (n - (c.loop-i.i + 1)) (rw m at c.loop-i.invariant.left) c.kind_of.ensures c.offset_of.ensures);
    }

pub returns : goal.returns
returns c = over _ _ _ _ _ _ c.end.ensures _ c.loop-i.invariant.left (omega arith)
