-- `board::reply::put_three` meets its contract. Assumes nothing.
use Rattle.board.proofs.laws.Puts.{positions-put}
use Rattle.board.proofs.reply.put_three.Goals as goal

pub returns : goal.returns
returns c = positions-put c.args.reply.now _ _ _ c.args.at.x c.args.at.y c.args.at.z c.told-reply c.put_at.ensures c.put_at-2.ensures c.put_at-3.ensures
