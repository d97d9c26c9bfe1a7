-- `board::reply::put_positions` meets its contract. Assumes nothing.
use Rattle.board.proofs.laws.Puts.{shown-three, shown-four}
use Rattle.board.proofs.reply.put_positions.Goals as goal

pub returns-then-axes-ne15 : goal.returns-then-axes-ne15
returns-then-axes-ne15 c = shown-three c.args.reply.now _ c.args.at c.args.axes _ c.if-axes-ne15.true c.put_three-three.ensures

pub returns : goal.returns
returns c = shown-four c.args.reply.now _ _ c.args.at c.args.axes _ c.if-axes-ne15.false c.put_three-three.ensures c.put_at.ensures
