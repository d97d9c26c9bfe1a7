-- `line::direct_line` meets its contract: `@0`, the letter, and what is behind it. Assumes nothing.
use mathlib.Core.Path.{refl, sym, ◌∙◌}
use Rattle.line.specs.Letter.{Wrong}
use Rattle.line.specs.Said.{letter_said}
use Rattle.line.proofs.Shapes.{direct-short, direct-first, direct-second, direct-lettered, direct-axes}
use Rattle.line.proofs.letters.direct_line.Goals as goal
use Rattle.line.proofs.letters.direct_line.Goals.{then-line-lt3-via-then-line-lt3, then-line-lt3-via-else-line-lt3+then-line-ne64, then-line-lt3-via-else-line-lt3+else-line-ne64+then-line-ne48}

pub returns-then-line-lt3 : goal.returns-then-line-lt3
returns-then-line-lt3 c = elim c.then-line-lt3.branch [
  | then-line-lt3-via-then-line-lt3 w ↦ sym (direct-short c.args.line.now w.if-line-lt3.true)
  | then-line-lt3-via-else-line-lt3+then-line-ne64 w ↦ sym (direct-first c.args.line.now w.if-line-lt3.false w.if-line-ne64.true)
  | then-line-lt3-via-else-line-lt3+else-line-ne64+then-line-ne48 w ↦ sym (direct-second c.args.line.now w.if-line-lt3.false w.if-line-ne64.false w.if-line-ne48.true)
]

pub returns-in_err-read_behind-in-Some : goal.returns-in_err-read_behind-in-Some
returns-in_err-read_behind-in-Some c =
    let k = c.in-Some in
    rw c.from_residual.ensures
    (sym (direct-lettered c.args.line.now c.if-line-lt3.false c.if-line-ne64.false c.if-line-ne48.false (letter_said k.letter) (sym k.ensures.found) k.ensures.lettered
    ∙ rw (sym c.read_behind.ensures ∙ c.in_err-read_behind-in-Some.was)))

pub returns-in_ok-read_behind-in-Some : goal.returns-in_ok-read_behind-in-Some
returns-in_ok-read_behind-in-Some c =
    let k = c.in-Some in
    rw c.with_letter.ensures
    (sym (direct-lettered c.args.line.now c.if-line-lt3.false c.if-line-ne64.false c.if-line-ne48.false (letter_said k.letter) (sym k.ensures.found) k.ensures.lettered
    ∙ rw (sym c.read_behind.ensures ∙ c.in_ok-read_behind-in-Some.was)))

pub returns-in_err-read_numbers-in-None : goal.returns-in_err-read_numbers-in-None
returns-in_err-read_numbers-in-None c =
    rw c.from_residual-in_err-read_numbers-in-None.ensures
    (sym (direct-axes c.args.line.now c.if-line-lt3.false c.if-line-ne64.false c.if-line-ne48.false Wrong (sym c.in-None.ensures.found) refl
    ∙ rw (sym c.read_numbers.ensures ∙ c.in_err-read_numbers-in-None.was)))

pub returns-in_ok-read_numbers-in-None : goal.returns-in_ok-read_numbers-in-None
returns-in_ok-read_numbers-in-None c =
    rw c.with_letter-in-None.ensures
    (sym (direct-axes c.args.line.now c.if-line-lt3.false c.if-line-ne64.false c.if-line-ne48.false Wrong (sym c.in-None.ensures.found) refl
    ∙ rw (sym c.read_numbers.ensures ∙ c.in_ok-read_numbers-in-None.was)))
