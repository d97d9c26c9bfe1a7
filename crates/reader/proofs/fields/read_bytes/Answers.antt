-- `reader::read_bytes` meets its contract: each return by the tests that led there. Assumes nothing.
use mathlib.Core.Path.{sym, ◌∙◌}
use Rattle.reader.proofs.laws.Pairs.{pairs-room, bytes-none, bytes-wrong, bytes_read}
use Rattle.reader.proofs.fields.read_bytes.Goals as goal

pub returns-then-is_dash : goal.returns-then-is_dash
returns-then-is_dash c =
    let a = c.args in
    bytes-none a.field.now a.bytes.now (sym c.is_dash.ensures ∙ c.if-is_dash.true)

pub returns-then-not-are_pairs : goal.returns-then-not-are_pairs
returns-then-not-are_pairs c =
    let a = c.args in
    bytes-wrong a.field.now a.bytes.now (sym c.is_dash.ensures ∙ c.if-is_dash.false) (sym c.are_pairs.ensures ∙ c.if-not-are_pairs.true)

pub put_pairs-requires : goal.put_pairs-requires
put_pairs-requires c = pairs-room _ _ (sym c.are_pairs.ensures ∙ c.if-not-are_pairs.false)

pub returns : goal.returns
returns c =
    let a = c.args in
    bytes_read a.field.now a.bytes.now (sym c.is_dash.ensures ∙ c.if-is_dash.false) (sym c.are_pairs.ensures ∙ c.if-not-are_pairs.false) c.put_pairs.ensures
