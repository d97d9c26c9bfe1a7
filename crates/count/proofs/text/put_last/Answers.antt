-- `count::put_last` meets its contract: each digit in front of those that were written. Assumes nothing.
use mathlib.Core.Path.{◌≡◌, sym, ◌∙◌}
use mathlib.Core.List.{List, ◌++◌}
use Prim.Native.Nat.{ℕ, zero, suc, ◌≤◌}
use native.Mathlib.Omega.{arith}
use lib.ListN.{length, drop}
use Rattle.count.specs.Text.{written, wrote, last_digits}
use Rattle.count.proofs.laws.Digits.{last_step, length-last, wrote-short, wrote-long}
use Rattle.count.proofs.text.put_last.Goals as goal

pub returns-then-text-count : goal.returns-then-text-count
returns-then-text-count c = sym (wrote-short c.args.count _ _ c.if-text-count.true)

pub loop-i-preserved : goal.loop-i-preserved
loop-i-preserved c =
    let l = c.loop-i in
    rw c.hex_digit.ensures (last_step c.args.base l.i l.rest l.text (omega arith) (omega arith) ∙ l.invariant)

done : (base k n i rest : ℕ) (s t : List ℕ) → i ≤ 0 → k ≤ length t → last_digits base i rest ++ drop i s ≡ last_digits base k n ++ drop k t
    → written k s ≡ wrote k (last_digits base k n) t
unfolding last_digits
done base k n zero rest s t h l e = rw (wrote-long k (last_digits base k n) t l, length-last base k n, ← e)
done base k n (suc i) rest s t h l e = absurd (omega arith)

pub returns : goal.returns
returns c =
    let a = c.args in
    let l = c.loop-i in
    done a.base a.count a.n l.i l.rest l.text a.text.now c.loop-i-test.false (omega arith) l.invariant
