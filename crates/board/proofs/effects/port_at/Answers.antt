-- `board::effects::port_at` meets its contract. Assumes nothing.
use mathlib.Core.Path.{◌≡◌, sym}
use native.Mathlib.Omega.{arith}
use lib.ListN.{length, get_or-eq_default}
use borrow.Author.Rules.{rules}
use Rattle.board.proofs.effects.port_at.Goals as goal

pub returns : goal.returns
returns c = let long : length c.args.ports ≡ 4 = search rules in sym (get_or-eq_default c.args.ports 0 (omega arith))
