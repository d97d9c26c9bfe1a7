-- `reader::is_dash` meets its contract.
use Rattle.std.proofs.Common.{◌∙◌}
use Rattle.reader.proofs.laws.Pairs.{dash-is}
use Rattle.reader.proofs.fields.is_dash.Goals as goal

pub returns : goal.returns
returns c = c.eq.ensures ∙ rw c.as_slice.ensures (dash-is c.args.field.now)
