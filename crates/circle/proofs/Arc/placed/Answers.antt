-- `circle::Arc::placed` meets its contract. Assumes nothing.
use Rattle.circle.proofs.laws.Work.{pair_parts}
use Rattle.circle.proofs.laws.Arcs.{small-start}
use Rattle.circle.proofs.Arc.placed.Goals as goal

pub of-start-requires : goal.of-start-requires
of-start-requires c = pair_parts c.args.self.start (small-start c.args.self.start c.requires)

pub returns : goal.returns
returns c = rw (c.point_right.ensures, c.has_room.ensures, c.of-start.ensures, c.on_plane-p.ensures)
