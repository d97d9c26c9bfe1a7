-- `count::count_word` meets its contract. Assumes nothing.
use mathlib.Core.Path.{◌≡◌, refl}
use mathlib.Core.Bool.{Bool, true, false}
use Prim.Native.Nat.{ℕ, ◌+◌, ◌%◌, ◌≤◌}
use native.Mathlib.Omega.{arith}
use borrow.Author.Tests.{ltb-true, ltb-false}
use lib.Dec.{ltb}
use Rattle.count.specs.Numbers.{half, value, word}
use Rattle.count.proofs.laws.Laws.{word-value-low, word-value-high}
use Rattle.count.proofs.count_word.Goals as goal

wraps : (c : ℕ) → c ≤ 4294967295 → (c + 4286578688) % 4294967296 ≡ word (value c)
wraps c f = by (ltb c half) refl
  where
    by : (t : Bool) → ltb c half ≡ t → (c + 4286578688) % 4294967296 ≡ word (value c)
    by true e =
        let l = ltb-true c half e in
        rw (word-value-low c l) (omega arith)
    by false e =
        let l = ltb-false c half e in
        rw (word-value-high c l f) (omega arith)

pub returns : goal.returns
returns c = wraps c.args.c (omega arith)
