-- `count::put_count` meets its contract. Assumes nothing.
use mathlib.Core.Path.{◌≡◌, sym, ap, ◌∙◌}
use Prim.Native.Nat.{ℕ, ◌-◌, ◌≤◌, ◌<◌}
use native.Mathlib.Omega.{arith}
use lib.IntN.{negsuc}
use lib.ListN.{length}
use Rattle.count.specs.Numbers.{half, value}
use Rattle.count.specs.Text.{written, shown}
use Rattle.count.proofs.laws.Laws.{sub-pos, sub-neg}
use Rattle.count.proofs.laws.Digits.{wrote-short, wrote-long}
use Rattle.count.proofs.text.put_count.Goals as goal

below : (c : ℕ) → c < half → value c ≡ negsuc (half - 1 - c)
below c h = sub-neg c half h ∙ ap negsuc (omega arith)

pub returns-then-text-lt11 : goal.returns-then-text-lt11
returns-then-text-lt11 c = sym (wrote-short 11 _ _ c.if-text-lt11.true)

pub returns-then-c-ge-HALF : goal.returns-then-c-ge-HALF
unfolding shown
returns-then-c-ge-HALF c =
    let p = c.put_digits in
    let l : 11 ≤ length c.args.text.now = omega arith in
    rw (wrote-long 11 _ c.args.text.now l, sub-pos c.args.c half c.if-c-ge-HALF.true)
    (λ i. written (p.ensures.0 i) (p.ensures.1 i))

pub returns : goal.returns
unfolding shown
returns c =
    let p = c.put_minus in
    let l : 11 ≤ length c.args.text.now = omega arith in
    rw (wrote-long 11 _ c.args.text.now l, below c.args.c c.if-c-ge-HALF.false)
    (λ i. written (p.ensures.0 i) (p.ensures.1 i))
