-- `board::Spoke::answer` meets its contract. Assumes nothing.
use mathlib.Core.Path.{ap}
use Rattle.count.specs.Text.{Written}
use Rattle.board.proofs.laws.Puts.{front-put}
use Rattle.board.proofs.Spoke.answer.Goals as goal

pub returns : goal.returns
returns c =
    let s = c.args.self in
    let e = s.board.engine in
    let f = rw c.unwrap-front.ensures at c.first_chunk_mut.ensures.cases in
    let p = front-put c.args.reply.now _ _ s.say e.axes e.at _ c.requires f.same c.put-len.ensures in
    (rw (ap (λ (w : Written). w.len) p), ap (λ (w : Written). w.text) p)
