-- `sheet::chains::test` meets its contract: one link a turn. Assumes nothing.
use mathlib.Core.Path.{◌≡◌, refl, sym, ap, ◌∙◌}
use mathlib.Core.Bool.{Bool, true, false}
use lib.IntN.{ℤ, pos, ◌+ℤ◌}
use lib.ListN.{get_or}
use mir.Syntax.{w64}
use mir.Val.{SFits, to_z, of_z}
use borrow.Author.Rules.{rules}
use Rattle.std.proofs.lemmas.Result.{err_from_is_err_and}
use Rattle.count.specs.Numbers.{within}
use Rattle.sheet.specs.Chain.{sum_right}
use Rattle.sheet.proofs.Sums.{sum_fits, made, made-is}
use Rattle.sheet.proofs.Turns.{told, after-stops, after-goes, fault-end}
use Rattle.sheet.proofs.chains.test.Goals as goal

-- the test was of the sum with the distance as it is
tested : (s t : ℤ) (a b : Bool) → SFits w64 t → a ≡ sum_right (s +ℤ to_z w64 (of_z w64 t)) → a ≡ b → sum_right (s +ℤ t) ≡ b
tested s t a b f e h = sym (ap sum_right (made s t f)) ∙ sym e ∙ h

pub loop-t-init : goal.loop-t-init
unfolding sum_right within
loop-t-init c = record { right = refl; fault = refl }

pub returns-then-not-sum_right : goal.returns-then-not-sum_right
returns-then-not-sum_right c =
    let s = to_z w64 c.loop-t.sum-bits in
    let t = get_or c.args.thousandths.now c.loop-t.t-index (pos 0) in
    let f : SFits w64 t = search rules in
    let e : sum_right (s +ℤ t) ≡ false = tested s t c.sum_right.result false f c.sum_right.ensures c.if-not-sum_right.true in
    sym (c.loop-t.invariant.fault ∙ after-stops c.args.thousandths.now c.loop-t.t-index c.loop-t-test.true c.args.axis s c.loop-t.last e)

pub overflow_add-sum : goal.overflow_add-sum
overflow_add-sum c =
    let s = to_z w64 c.loop-t.sum-bits in
    let t = get_or c.args.thousandths.now c.loop-t.t-index (pos 0) in
    let f : SFits w64 t = search rules in
    let e : sum_right (s +ℤ t) ≡ true = tested s t c.sum_right.result true f c.sum_right.ensures c.if-not-sum_right.false in
    rw (made s t f) (sum_fits (s +ℤ t) e)

pub next-last-requires : goal.next-last-requires
next-last-requires c =
    let s = to_z w64 c.loop-t.sum-bits in
    let t = get_or c.args.thousandths.now c.loop-t.t-index (pos 0) in
    let f : SFits w64 t = search rules in
    let e : sum_right (s +ℤ t) ≡ true = tested s t c.sum_right.result true f c.sum_right.ensures c.if-not-sum_right.false in
    rw (made-is s t f e) e

pub loop-t-preserved : goal.loop-t-preserved
loop-t-preserved c =
    let l = c.args.thousandths.now in
    let s = to_z w64 c.loop-t.sum-bits in
    let t = get_or l c.loop-t.t-index (pos 0) in
    let f : SFits w64 t = search rules in
    let e : sum_right (s +ℤ t) ≡ true = tested s t c.sum_right.result true f c.sum_right.ensures c.if-not-sum_right.false in
    record {
      right = rw (made-is s t f e) e;
      fault = c.loop-t.invariant.fault ∙ after-goes l c.loop-t.t-index c.loop-t-test.true c.args.axis s c.loop-t.last e ∙ rw (c.next-last.ensures, made-is s t f e);
    }

pub returns-in_err-last : goal.returns-in_err-last
returns-in_err-last c =
    let p = err_from_is_err_and c.from_residual.result c.from_residual.ensures.1 in
    let e = fault-end c.args.axis c.loop-t.last (to_z w64 c.loop-t.sum-bits) c.args.thousandths.now c.loop-t.t-index c.loop-t-test.false in
    rw (p.1, p.2) (sym (c.loop-t.invariant.fault ∙ e ∙ ap told c.in_err-last.was))

pub returns : goal.returns
returns c =
    let e = fault-end c.args.axis c.loop-t.last (to_z w64 c.loop-t.sum-bits) c.args.thousandths.now c.loop-t.t-index c.loop-t-test.false in
    sym (c.loop-t.invariant.fault ∙ e ∙ ap told c.in_ok-last.was)
