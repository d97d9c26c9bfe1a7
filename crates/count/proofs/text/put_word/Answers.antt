-- `count::put_word` meets its contract. Assumes nothing.
use mathlib.Core.Path.{sym}
use Prim.Native.Nat.{◌≤◌}
use native.Mathlib.Omega.{arith}
use lib.ListN.{length}
use Rattle.count.specs.Text.{written, shown}
use Rattle.count.proofs.laws.Laws.{signed_low, signed_high}
use Rattle.count.proofs.laws.Digits.{wrote-short, wrote-long}
use Rattle.count.proofs.text.put_word.Goals as goal

pub returns-then-text-lt11 : goal.returns-then-text-lt11
returns-then-text-lt11 c = sym (wrote-short 11 _ _ c.if-text-lt11.true)

pub returns-then-w-le-MOST : goal.returns-then-w-le-MOST
unfolding shown
returns-then-w-le-MOST c =
    let p = c.put_digits in
    let l : 11 ≤ length c.args.text.now = omega arith in
    rw (wrote-long 11 _ c.args.text.now l, signed_low c.args.w (omega arith))
    (λ i. written (p.ensures.0 i) (p.ensures.1 i))

pub returns : goal.returns
unfolding shown
returns c =
    let p = c.put_minus in
    let l : 11 ≤ length c.args.text.now = omega arith in
    rw (wrote-long 11 _ c.args.text.now l, signed_high c.args.w (omega arith))
    (λ i. written (p.ensures.0 i) (p.ensures.1 i))
