-- `line::read_digits` meets its contract: the loop keeps what the whole text comes to, and the size below its power of ten. Assumes nothing.
use Prim.Native.Nat.{◌+◌, ◌-◌}
use mathlib.Core.Path.{◌≡◌, sym, ◌∙◌}
use native.Mathlib.Omega.{arith}
use lib.ListN.{drop_of_length-le}
use Rattle.count.specs.Pick.{tests}
use Rattle.count.proofs.laws.Lists.{next}
use Rattle.line.specs.work.Reading.{reading}
use Rattle.line.proofs.Digits.{eight, digit-more}
use Rattle.line.proofs.numbers.read_digits.Goals as goal
use Rattle.line.proofs.numbers.read_digits.Goals.{then-b-lt48-via-then-b-lt48, then-b-lt48-via-else-b-lt48+then-b-gt57, then-b-lt48-via-else-b-lt48+else-b-gt57+then-digits-ge8}

pub returns-then-digits-eq0 : goal.returns-then-digits-eq0
unfolding reading
returns-then-digits-eq0 c =
    sym (c.loop-i.invariant.2 ∙ search (tests, next))

pub returns-then-b-eq44 : goal.returns-then-b-eq44
unfolding reading
returns-then-b-eq44 c =
    sym (c.loop-i.invariant.2 ∙ search (tests, next, c.word_of.ensures))

pub returns-then-b-lt48 : goal.returns-then-b-lt48
unfolding reading
returns-then-b-lt48 c = elim c.then-b-lt48.branch [
  | then-b-lt48-via-then-b-lt48 w ↦ sym (c.loop-i.invariant.2 ∙ search (tests, next))
  | then-b-lt48-via-else-b-lt48+then-b-gt57 w ↦ sym (c.loop-i.invariant.2 ∙ search (tests, next))
  | then-b-lt48-via-else-b-lt48+else-b-gt57+then-digits-ge8 w ↦ sym (c.loop-i.invariant.2 ∙ search (tests, next))
]

pub overflow_mul-size : goal.overflow_mul-size
overflow_mul-size c =
    omega (arith, eight c.loop-i.size (c.loop-i.i - c.args.at) c.loop-i.invariant.1 c.loop-i.invariant.0)

pub overflow_add-size : goal.overflow_add-size
overflow_add-size c =
    omega (arith, eight c.loop-i.size (c.loop-i.i - c.args.at) c.loop-i.invariant.1 c.loop-i.invariant.0)

pub loop-i-preserved : goal.loop-i-preserved
unfolding reading
loop-i-preserved c =
    let e : c.loop-i.i + 1 - c.args.at ≡ c.loop-i.i - c.args.at + 1 = omega arith in (
      omega arith,
      rw e (digit-more _ _ _ c.loop-i.invariant.1 (omega arith)),
      rw e (c.loop-i.invariant.2 ∙ search (tests, next, c.from.ensures)),
    )

pub returns-then-s-at : goal.returns-then-s-at
unfolding reading
returns-then-s-at c =
    sym (search (tests, drop_of_length-le))

pub returns : goal.returns
unfolding reading
returns c =
    let n : c.loop-i.i - c.args.at ≡ 0 → ⊥ = λ h. omega arith in
    sym (c.loop-i.invariant.2 ∙ search (tests, drop_of_length-le, c.word_of-2.ensures))
