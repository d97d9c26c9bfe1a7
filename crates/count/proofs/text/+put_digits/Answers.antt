-- `count::put_digits` meets its contract: the digits of a tenth of the number, and one behind them. Assumes nothing.
use Prim.Native.Nat.{◌+◌, ◌/◌, ◌%◌}
use mathlib.Core.Path.{refl, sym}
use mathlib.Core.List.{[], ◌∷◌}
use native.Mathlib.Omega.{arith}
use lib.ListN.{length-append}
use Rattle.count.specs.Text.{digits}
use lib.Seq.{sets-eq}
use Rattle.count.proofs.laws.Lists.{put-behind}
use Rattle.count.proofs.laws.Digits.{digits-small, digits-large, digits_long}
use Rattle.count.proofs.text.+put_digits.Goals as goal

pub returns-then-n-lt10 : goal.returns-then-n-lt10
returns-then-n-lt10 t c =
    let e = digits-small c.args.n c.if-n-lt10.true in
    rw e (refl, sets-eq ((48 + c.args.n) ∷ []) c.args.text.now 0 (omega arith))

pub bounds-text-k : goal.bounds-text-k
bounds-text-k t c =
    let l = digits_long (c.args.n / 10) (omega arith) in
    omega arith

pub returns : goal.returns
returns t c =
    let n = c.args.n in
    let e = digits-large n c.if-n-lt10.false (omega arith) in
    let l = digits_long (n / 10) (omega arith) in
    rw (e, c.put_digits-k.ensures.1, c.put_digits-k.ensures.0)
    (sym (length-append (digits (n / 10)) ((48 + n % 10) ∷ [])), put-behind (digits (n / 10)) c.args.text.now (48 + n % 10) (omega (arith, c.put_digits-k.ensures.0)))
