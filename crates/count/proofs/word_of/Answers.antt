-- `count::word_of` meets its contract. Assumes nothing.
use mathlib.Core.Path.{◌≡◌, sym}
use mathlib.Core.Bool.{true}
use Prim.Native.Nat.{ℕ, zero, suc, ◌+◌, ◌%◌, ◌≤◌}
use native.Mathlib.Omega.{arith}
use Rattle.count.specs.Numbers.{word, with_sign}
use Rattle.count.proofs.laws.Laws.{word-neg, word-plus}
use Rattle.count.proofs.word_of.Goals as goal

-- what makes a size a multiple of 2 ^ 32 is its negative number's word
negative : (n r : ℕ) → n ≤ 4294967295 → r ≤ 4294967295 → (r + n) % 4294967296 ≡ 0 → r ≡ word (with_sign true n)
unfolding word
negative zero r f g e = omega arith
negative (suc n) r f g e = rw (word-neg n (omega arith)) (omega arith)

pub returns-then-minus : goal.returns-then-minus
returns-then-minus c = rw c.if-minus.true (negative c.args.size c.wrapping_neg.result (omega arith) (omega arith) c.wrapping_neg.ensures)

pub returns-else-minus : goal.returns-else-minus
returns-else-minus c = rw c.if-minus.false (sym (word-plus c.args.size (omega arith)))
