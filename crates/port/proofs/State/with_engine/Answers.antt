-- `port::State::with_engine` meets its contract. Assumes nothing.
use Rattle.port.proofs.laws.Codes.{straight-under, round_under-over, kind-under}
use Rattle.port.proofs.State.with_engine.Goals as goal

pub returns : goal.returns
returns c = simp (c.byte_over.ensures, c.kind_over.ensures, c.code_of.ensures, c.direction_code.ensures, c.number.ensures, c.as_flag.ensures, c.number_over.ensures, c.round_over.ensures, c.straight_over.ensures, c.under_way-under.ensures, straight-under, round_under-over, kind-under)
