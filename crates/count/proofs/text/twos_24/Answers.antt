-- `count::twos_24` meets its contract. Assumes nothing.
use mathlib.Core.Path.{◌≡◌, refl}
use mathlib.Core.Bool.{Bool, true, false}
use Prim.Native.Nat.{ℕ, suc, ◌+◌, ◌-◌, ◌%◌, ◌≤◌}
use native.Mathlib.Nat.{mod-eq_of_lt}
use native.Mathlib.Omega.{arith}
use borrow.Author.Tests.{ltb-true, ltb-false}
use lib.Dec.{ltb}
use Rattle.count.specs.Numbers.{half, full, value}
use Rattle.count.specs.Text.{twos24}
use Rattle.count.proofs.laws.Laws.{sub-pos, sub-neg}
use Rattle.count.proofs.text.twos_24.Goals as goal

wraps : (c : ℕ) → c ≤ 4294967295 → (c + 4286578688) % 4294967296 % 16777216 ≡ twos24 (value c)
unfolding twos24
wraps c f = by (ltb c half) refl
  where
    by : (t : Bool) → ltb c half ≡ t → (c + 4286578688) % 4294967296 % 16777216 ≡ twos24 (value c)
    by true e =
        let l = ltb-true c half e in
        let m : (half - suc c) % full ≡ half - suc c = mod-eq_of_lt (omega arith) in
        rw (sub-neg c half l, m) (omega arith)
    by false e =
        let l = ltb-false c half e in
        let m : (c + 4286578688) % 4294967296 ≡ c - half = omega arith in
        rw (sub-pos c half l, m) refl

pub returns : goal.returns
returns c = wraps c.args.c (omega arith)
