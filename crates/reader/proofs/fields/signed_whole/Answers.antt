-- `reader::signed_whole` meets its contract: each return by the tests that led there.
use Rattle.std.proofs.Common.{rules, ◌≡◌, ◌<◌, ◌≤◌, ◌≢◌, sym, ◌∙◌, arith, length}
use Rattle.reader.proofs.laws.Fields.{signed-outside, signed-letters, signed_is}
use Rattle.reader.proofs.fields.signed_whole.Goals as goal
use Rattle.reader.proofs.fields.signed_whole.Goals.{then-is_empty-via-then-is_empty, then-is_empty-via-else-is_empty+then-digits-gt19}

pub returns-then-is_empty : goal.returns-then-is_empty
returns-then-is_empty c =
    let s = c.args.digits.now in
    let outside : 1 ≤ length s → 19 < length s = elim c.then-is_empty.branch [
      | then-is_empty-via-then-is_empty w ↦ (λ h. let e : length s ≡ 0 = search rules in absurd (omega arith))
      | then-is_empty-via-else-is_empty+then-digits-gt19 w ↦ (λ h. w.if-digits-gt19.true)
    ] in
    sym (signed-outside c.args.minus s outside)

pub returns-in_err-size : goal.returns-in_err-size
returns-in_err-size c = c.from_residual.ensures ∙ sym (signed-letters c.args.minus c.args.digits.now (sym c.in_err-size.ensures))

pub returns : goal.returns
returns c =
    let s = c.args.digits.now in
    let some : length s ≢ 0 = search rules in
    c.sized_whole.ensures ∙ sym (signed_is c.args.minus s c.in_ok-size.size (omega arith) c.if-digits-gt19.false (sym c.in_ok-size.ensures))
