-- `program::ranges::Noted::parted` meets its contract. Assumes nothing.
use native.Mathlib.Omega.{arith}
use Rattle.program.proofs.laws.Backs.{at_mark, near-mark, part-first, alike-start, part-hit, alike_next, alike_end}
use Rattle.program.proofs.ranges.Noted.parted.Goals as goal

pub returns-then-first-hi : goal.returns-then-first-hi
returns-then-first-hi c =
    part-first _ _ _ _ _ c.requires.0 _ (at_mark _ _ _ _ _ c.mark_of-m.ensures c.first_back-first.ensures) c.if-first-hi.true c.requires.1

pub loop-k-init : goal.loop-k-init
loop-k-init c =
    let p = c.requires in
    (omega arith, omega arith, alike-start _ _ _ _ _ p.0 _ (at_mark _ _ _ _ _ c.mark_of-m.ensures c.first_back-first.ensures) c.if-first-hi.false)

pub returns-then-i-self : goal.returns-then-i-self
returns-then-i-self c =
    let p = c.requires in
    part-hit _ _ _ _ _ p.0 _ _ c.loop-k.invariant.0 (at_mark _ _ _ _ _ c.mark_of-s.ensures c.first_back-i.ensures) (near-mark _ _ _ c.mark_of-m.ensures c.reaches-near.ensures) c.if-i-self.true

pub loop-k-preserved : goal.loop-k-preserved
loop-k-preserved c =
    let p = c.requires in
    let f = c.first_back-i.ensures in
    let g = f.from in
    let h = f.most in
    let i = c.loop-k.invariant.0 in
    (omega arith, omega arith, alike_next _ _ _ _ _ p.0 _ _ i (at_mark _ _ _ _ _ c.mark_of-s.ensures f) (near-mark _ _ _ c.mark_of-m.ensures c.reaches-near.ensures) c.if-i-self.false c.loop-k.invariant.2)

pub returns : goal.returns
returns c =
    let p = c.requires in
    alike_end _ _ _ _ _ p.0 _ c.loop-k-test.false c.loop-k.invariant.2
