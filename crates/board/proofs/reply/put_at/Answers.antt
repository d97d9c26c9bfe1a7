-- `board::reply::put_at` meets its contract. Assumes nothing.
use Rattle.board.proofs.laws.Puts.{report-put}
use Rattle.board.proofs.reply.put_at.Goals as goal

pub returns : goal.returns
returns c = report-put c.args.reply.now _ c.args.at c.args.c _ c.told-reply c.requires c.put_report.ensures
