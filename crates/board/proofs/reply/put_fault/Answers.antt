-- `board::reply::put_fault` meets its contract. Assumes nothing.
use Rattle.board.proofs.laws.Puts.{fault-put}
use Rattle.board.proofs.reply.put_fault.Goals as goal

pub returns : goal.returns
returns c = fault-put c.args.reply.now _ c.args.letter c.args.place _ c.told-reply c.put_place.ensures
