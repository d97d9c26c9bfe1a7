-- `reader::are_pairs` meets its contract. Assumes nothing.
use Rattle.reader.specs.Fields.{are_pairs}
use Rattle.reader.proofs.fields.are_pairs.Goals as goal

pub returns : goal.returns
unfolding are_pairs
returns c = rw c.all_hex.ensures
