-- `reader::all_hex` meets its contract: as `all` says.
use Rattle.std.proofs.Common.{rules, refl, ◌∙◌, sym}
use Rattle.std.proofs.lemmas.Iterator.{YieldsList-from_slice}
use Rattle.std.proofs.lemmas.Iterator.Search.{all_from_yields_List}
use Rattle.reader.specs.Fields.{is_hex}
use Rattle.reader.proofs.laws.Fields.{every_is}
use Rattle.reader.proofs.fields.all_hex.Goals as goal

pub returns : goal.returns
returns c =
    all_from_yields_List is_hex _ _ _ c.all.ensures.ran (YieldsList-from_slice _ c.iter.ensures.rest) (λ x b q h. (refl, search rules))
    ∙ sym (every_is is_hex c.args.field.now)
