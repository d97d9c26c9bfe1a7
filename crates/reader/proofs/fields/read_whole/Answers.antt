-- `reader::read_whole` meets its contract: by its first byte.
use Rattle.std.proofs.Common.{true, List, ℕ, ap, sym, ◌∙◌}
use Rattle.reader.specs.Fields.{signed_whole}
use Rattle.reader.proofs.laws.Fields.{whole-minus, whole-plus}
use Rattle.reader.proofs.fields.read_whole.Goals as goal

pub returns-in-Some : goal.returns-in-Some
returns-in-Some c =
    let found = c.in-Some.ensures.cases in
    c.signed_whole.ensures ∙ ap (λ (s : List ℕ). signed_whole true s) found.1 ∙ sym (whole-minus c.args.field.now found.0)

pub returns-in-None : goal.returns-in-None
returns-in-None c = c.signed_whole-in-None.ensures ∙ sym (whole-plus c.args.field.now c.in-None.ensures.cases)
