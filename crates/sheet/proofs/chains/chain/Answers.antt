-- `sheet::chain` meets its contract: each return by the tests that led there. Assumes nothing.
use mathlib.Core.Path.{◌≡◌, sym, ap, ◌∙◌}
use mathlib.Core.Bool.{true, false, not, ◌||◌}
use Prim.Native.Nat.{ℕ, ◌<◌, ◌≤◌}
use lib.Dec.{eqb, ltb}
use borrow.Author.Tests.{lt-ltb, le-ltb, eq-eqb, ne_eqb}
use Rattle.std.proofs.lemmas.Result.{err_from_is_err_and}
use Rattle.sheet.specs.Chain.{chained, chain_of}
use Rattle.sheet.proofs.Refusals.{number-some}
use Rattle.sheet.proofs.laws.Links.{chain-refuses, chain-delivers}
use Rattle.sheet.proofs.chains.chain.Goals as goal
use Rattle.sheet.proofs.chains.chain.Goals.{then-n-gt1000-via-then-n-gt1000, then-n-gt1000-via-else-n-gt1000+then-steps-n}

-- what the first test has said
too-many : (n m : ℕ) → 1000 < n → (ltb 1000 n || not (eqb m n)) ≡ true
too-many n m h = rw (lt-ltb 1000 n h)

lengths-differ : (n m : ℕ) → n ≤ 1000 → (m ≡ n → ⊥) → (ltb 1000 n || not (eqb m n)) ≡ true
lengths-differ n m h g = rw (le-ltb 1000 n h, ne_eqb m n g)

lengths-right : (n m : ℕ) → n ≤ 1000 → m ≡ n → (ltb 1000 n || not (eqb m n)) ≡ false
lengths-right n m h g = rw (le-ltb 1000 n h, eq-eqb m n g)

pub returns-then-n-gt1000 : goal.returns-then-n-gt1000
unfolding chain_of
returns-then-n-gt1000 c =
    elim c.then-n-gt1000.branch [
      | then-n-gt1000-via-then-n-gt1000 w ↦ rw (too-many _ _ w.if-n-gt1000.true)
      | then-n-gt1000-via-else-n-gt1000+then-steps-n w ↦ rw (lengths-differ _ _ w.if-n-gt1000.false w.if-steps-n.true)
    ]

pub returns-then-not-axis_right : goal.returns-then-not-axis_right
unfolding chain_of
returns-then-not-axis_right c = rw (lengths-right _ _ c.if-n-gt1000.false c.if-steps-n.false, ← c.axis_right.ensures, c.if-not-axis_right.true)

pub returns-in_err-test : goal.returns-in_err-test
returns-in_err-test c =
    let p = err_from_is_err_and c.from_residual.result c.from_residual.ensures.1 in
    let e = c.in_err-test.field-0.0 in
    rw (p.1, p.2)
    (ap (λ (n : ℕ). chained n c.args.steps.now) c.in_err-test.ensures
    ∙ chain-refuses c.args.axis c.args.thousandths.now c.args.steps.now (lengths-right _ _ c.if-n-gt1000.false c.if-steps-n.false)
    (sym c.axis_right.ensures ∙ c.if-not-axis_right.false)
    (λ z. number-some e (c.in_err-test.ensures ∙ z)))

pub returns : goal.returns
returns c =
    rw (c.deliver.ensures.done, c.deliver.ensures.steps)
    (chain-delivers c.args.axis c.args.thousandths.now c.args.steps.now (lengths-right _ _ c.if-n-gt1000.false c.if-steps-n.false)
    (sym c.axis_right.ensures ∙ c.if-not-axis_right.false)
    (sym c.in_ok-test.ensures))
