-- `board::reply::put_port` meets its contract. Assumes nothing.
use Rattle.board.proofs.laws.Puts.{port-put}
use Rattle.board.proofs.reply.put_port.Goals as goal

pub returns : goal.returns
returns c = port-put c.args.reply.now _ c.args.byte _ c.told-reply c.put_byte.ensures
