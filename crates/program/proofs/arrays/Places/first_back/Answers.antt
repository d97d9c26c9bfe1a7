-- `program::arrays::Places::first_back` meets its contract. Assumes nothing.
use mathlib.Core.Path.{sym, ◌∙◌}
use native.Mathlib.Omega.{arith}
use Rattle.program.proofs.laws.Backs.{passed_on, entry_of}
use Rattle.program.proofs.arrays.Places.first_back.Goals as goal

pub loop-i-preserved : goal.loop-i-preserved
loop-i-preserved c =
    let p = c.requires in
    let f = entry_of _ _ _ _ _ _ p.0 c.loop-i.invariant.0 c.loop-i-test.true c.back_at-i.ensures in
    let g = f.from in
    let h = c.loop-i.invariant.0 in
    (omega arith, f.most, passed_on _ _ _ _ _ _ _ c.loop-i.invariant.2 h (sym c.reaches.ensures ∙ c.if-reaches.false) p.2 f)
