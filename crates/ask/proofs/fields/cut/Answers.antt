-- A field is no longer than what is left.
use Rattle.std.proofs.Common.{arith}
use Rattle.reader.proofs.laws.Fields.{field-most}
use Rattle.ask.proofs.fields.cut.Goals as goal

pub split_at-requires : goal.split_at-requires
split_at-requires c = omega (arith, c.field_end.ensures, field-most c.args.text.now)
