-- `circle::plan::bend_by` meets its contract. Assumes nothing.
use mathlib.Core.Path.{sym, ◌∙◌}
use Rattle.circle.proofs.laws.Work.{counted-parts, going-out, going_on, going-none}
use Rattle.circle.proofs.plan.bend_by.Goals as goal

pub returns-then-not-counted_at : goal.returns-then-not-counted_at
returns-then-not-counted_at c = let a = c.args in going-out a.circling a.at a.start.pair a.words (sym c.counted_at.ensures ∙ c.if-not-counted_at.true)

pub on_plane-requires : goal.on_plane-requires
on_plane-requires c = counted-parts c.args.at (sym c.counted_at.ensures ∙ c.if-not-counted_at.false)

pub returns-then-has_room : goal.returns-then-has_room
returns-then-has_room c = let a = c.args in going_on a.circling a.at a.start.pair a.words (sym c.counted_at.ensures ∙ c.if-not-counted_at.false) c.on_plane.ensures c.centre_of-centre.ensures (sym c.has_room.ensures ∙ c.if-has_room.true) c.arc_of.ensures

pub returns : goal.returns
returns c = let a = c.args in going-none a.circling a.at a.start.pair a.words (sym c.counted_at.ensures ∙ c.if-not-counted_at.false) c.on_plane.ensures c.centre_of-centre.ensures (sym c.has_room.ensures ∙ c.if-has_room.false)
