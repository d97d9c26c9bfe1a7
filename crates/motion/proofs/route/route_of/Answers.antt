-- `motion::route::route_of` meets its contract. Assumes nothing.
use mathlib.Core.Bool.{true}
use Rattle.motion.specs.Plan.{asked, first_speed}
use Rattle.motion.proofs.Routes.{later-own, route-made}
use Rattle.motion.proofs.route.route_of.Goals as goal

pub narrow-requires : goal.narrow-requires
unfolding first_speed
narrow-requires c = rw c.first_speed.ensures c.requires.0

pub narrow-requires-2 : goal.narrow-requires-2
narrow-requires-2 c = let a = c.args in let q = asked a.axes a.three a.at a.at true a.words in rw (later-own q 5 c.has.ensures c.chosen-3.ensures) c.requires.1

pub narrow-requires-3 : goal.narrow-requires-3
narrow-requires-3 c = let a = c.args in let q = asked a.axes a.three a.at a.at true a.words in rw (later-own q 7 c.has.ensures c.chosen-4.ensures) c.requires.2

pub returns : goal.returns
unfolding first_speed
returns c = let a = c.args in let q = asked a.axes a.three a.at a.at true a.words in route-made q a.goals a.z2 c.chosen.ensures c.chosen-2.ensures c.narrow.ensures c.first_speed.ensures c.narrow-2.ensures (later-own q 5 c.has.ensures c.chosen-3.ensures) c.narrow-3.ensures (later-own q 7 c.has.ensures c.chosen-4.ensures)
