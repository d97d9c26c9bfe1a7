-- `sheet::nearest` meets its contract. Assumes nothing.
use borrow.Author.Rules.{rules}
use mathlib.Core.Path.{◌≡◌, sym, ap, ◌∙◌}
use mathlib.Core.Bool.{not}
use Prim.Native.Nat.{ℕ, ◌≤◌, ◌^◌}
use lib.Dec.{T, leb}
use lib.Ieee.{Float, binary64, to_bits, of_bits, fits, is_nan}
use borrow.Author.Tests.{le-leb, lt-leb}
use Rattle.sheet.specs.Sheet.{signed}
use Rattle.sheet.specs.work.Work.{capped, capped_whole}
use Rattle.sheet.proofs.Range.{plus-fits, plus-back, minus-fits, minus-back}
use Rattle.sheet.proofs.Sign.{only_nan, from-pattern, capped_small}
use Rattle.sheet.proofs.nearest.Goals as goal

-- the size is small, and with the sign on top of the bits it is the whole number
small : (n : ℕ) (x : Float) → n ≡ capped (of_bits binary64 (to_bits binary64 x)) → n ≤ 16777216
small n x e = rw e (capped_small (of_bits binary64 (to_bits binary64 x)))

wanted : (n : ℕ) (x : Float) → n ≡ capped (of_bits binary64 (to_bits binary64 x)) → T (fits binary64 x) → T (not (is_nan x)) → signed (leb (2 ^ 63) (to_bits binary64 x)) n ≡ capped_whole x
wanted n x e f h = from-pattern x f h n e

pub returns-then-is_nan : goal.returns-then-is_nan
unfolding capped_whole
returns-then-is_nan c = sym (ap capped_whole (only_nan c.args.x (sym c.is_nan.ensures.value ∙ c.if-is_nan.true)))

pub overflow_cast-result : goal.overflow_cast-result
overflow_cast-result c = plus-fits c.nearest_size-size.result (small c.nearest_size-size.result c.args.x c.nearest_size-size.ensures)

pub returns-then-bits-lt9223372036854775808 : goal.returns-then-bits-lt9223372036854775808
returns-then-bits-lt9223372036854775808 c = plus-back c.nearest_size-size.result (small c.nearest_size-size.result c.args.x c.nearest_size-size.ensures) ∙ rw (lt-leb _ _ c.if-bits-lt9223372036854775808.true) at (wanted c.nearest_size-size.result c.args.x c.nearest_size-size.ensures (search rules) (rw c.if-is_nan.false at c.is_nan.ensures.not_nan))

pub overflow_cast-result-2 : goal.overflow_cast-result-2
overflow_cast-result-2 c = plus-fits c.nearest_size-size.result (small c.nearest_size-size.result c.args.x c.nearest_size-size.ensures)

pub overflow_sub-result : goal.overflow_sub-result
overflow_sub-result c = minus-fits c.nearest_size-size.result (small c.nearest_size-size.result c.args.x c.nearest_size-size.ensures)

pub returns : goal.returns
returns c = minus-back c.nearest_size-size.result (small c.nearest_size-size.result c.args.x c.nearest_size-size.ensures) ∙ rw (le-leb _ _ c.if-bits-lt9223372036854775808.false) at (wanted c.nearest_size-size.result c.args.x c.nearest_size-size.ensures (search rules) (rw c.if-is_nan.false at c.is_nan.ensures.not_nan))
