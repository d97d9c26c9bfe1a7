-- `join::joining::put_bytes` meets its contract: one byte a turn. Assumes nothing.
use Rattle.std.proofs.Common.{ℕ, List, ◌+◌, set, get_or, length-set, refl, ap, ◌∙◌, arith}
use Rattle.std.proofs.Math.Seq.{paste-zero}
use Rattle.std.proofs.lemmas.List.Edits.{paste_more}
use Rattle.join.proofs.joining.put_bytes.Goals as goal

pub loop-i-init : goal.loop-i-init
loop-i-init c = (refl, paste-zero _ c.args.at c.args.other.now)

pub loop-i-preserved : goal.loop-i-preserved
loop-i-preserved c =
    let a = c.args in
    let p = c.requires in
    let i = c.loop-i.i in
    let v = c.loop-i.invariant in (
      length-set c.loop-i.store (a.at + i) (get_or a.other.now i 0) ∙ v.0,
      ap (λ (s : List ℕ). set s (a.at + i) (get_or a.other.now i 0)) v.1 ∙ paste_more a.store.now a.at a.other.now i 0 (omega (arith, p.0, c.loop-i-test.true)) (omega (arith, p.1, c.loop-i-test.true)),
    )
