-- `port::State::is_known` meets its contract. Assumes nothing.
use borrow.Author.Rules.{rules}
use Rattle.port.specs.Code.{known}
use Rattle.port.proofs.State.is_known.Goals as goal

pub returns : goal.returns
unfolding known
returns c = search rules
