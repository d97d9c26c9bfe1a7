-- Bytes of a line taken all at once: `Walk::feed` cites it. That they are portions of one byte each, which print nothing, and that what is
-- still to be printed stays the same, are the laws `feed-is-next` and `feed-remaining` of proofs/laws/Feeds.antt.
use Rattle.std.specs.Prelude.{ℕ, true, not, ◌&&◌, List, eqb}
use Rattle.count.specs.Pick.{pick}
use Rattle.board.specs.work.Take.{taken_of}
use Rattle.course.specs.declared.Walk.{Walk}
use Rattle.course.specs.declared.Fed.{Fed}
use Rattle.course.specs.Walk.{walk}

-- what the board takes, if the run before is over; else nothing is taken and the walk is as given
unfoldable pub fed_of : List ℕ → Walk → Fed
fed_of input w =
    let t = taken_of input w.board in
    pick (w.over && not (eqb t.count 0)) (record { walk = walk t.board 0 true; count = t.count }) (record { walk = w; count = 0 })
