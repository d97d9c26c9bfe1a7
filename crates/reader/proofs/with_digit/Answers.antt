-- `reader::with_digit` meets its contract: by its tests.
use Rattle.std.proofs.Common.{◌≡◌, ◌&&◌, true, false, sym, refl, lt-ltb, le-ltb, ltb}
use Rattle.count.proofs.laws.Truth.{and-false}
use Rattle.reader.specs.Reader.{is_digit, with_digit}
use Rattle.reader.proofs.with_digit.Goals as goal
use Rattle.reader.proofs.with_digit.Goals.{else-size-lt100000000-via-then-size-lt100000000+else-is_ascii_digit, else-size-lt100000000-via-else-size-lt100000000}

pub returns-then-is_ascii_digit : goal.returns-then-is_ascii_digit
unfolding with_digit
returns-then-is_ascii_digit c =
    let digit : is_digit c.args.b ≡ true = sym c.if-is_ascii_digit.ensures.value in
    rw (c.from.ensures, lt-ltb _ _ c.if-size-lt100000000.true, digit) refl

pub returns-else-size-lt100000000 : goal.returns-else-size-lt100000000
unfolding with_digit
returns-else-size-lt100000000 c =
    let none : ltb c.args.size 100000000 && is_digit c.args.b ≡ false =
    elim c.else-size-lt100000000.branch [
      | else-size-lt100000000-via-then-size-lt100000000+else-is_ascii_digit w ↦ let digit : is_digit c.args.b ≡ false = sym w.if-is_ascii_digit.ensures.value in rw (digit, and-false) refl
      | else-size-lt100000000-via-else-size-lt100000000 w ↦ rw (le-ltb c.args.size 100000000 w.if-size-lt100000000.false) refl
    ] in
    rw none refl
