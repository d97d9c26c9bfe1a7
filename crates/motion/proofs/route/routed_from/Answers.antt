-- `motion::route::routed_from` meets its contract. Assumes nothing.
use Rattle.motion.specs.Plan.{asked, goal_of, first_speed, later_speed, route}
use Rattle.motion.proofs.Routes.{a-by, speeds-fit, out-x, out-y, out-z, out-a, out-z2, all_in}
use Rattle.motion.proofs.route.routed_from.Goals as goal

pub returns-in_err-x : goal.returns-in_err-x
unfolding goal_of
returns-in_err-x c = let a = c.args in let q = asked a.axes a.three a.at a.origin a.absolute a.words in rw c.from_residual.ensures (out-x q c.goal_on.ensures c.in_err-x.was)

pub returns-in_err-y : goal.returns-in_err-y
unfolding goal_of
returns-in_err-y c = let a = c.args in let q = asked a.axes a.three a.at a.origin a.absolute a.words in rw c.from_residual-in_err-y.ensures (out-y q c.goal_on.ensures c.in_ok-x.was c.goal_on-2.ensures c.in_err-y.was)

pub returns-in_err-z : goal.returns-in_err-z
unfolding goal_of
returns-in_err-z c = let a = c.args in let q = asked a.axes a.three a.at a.origin a.absolute a.words in rw c.from_residual-in_err-z.ensures (out-z q c.goal_on.ensures c.in_ok-x.was c.goal_on-2.ensures c.in_ok-y.was c.goal_on-3.ensures c.in_err-z.was)

pub returns-in_err-a : goal.returns-in_err-a
unfolding goal_of
returns-in_err-a c = let a = c.args in let q = asked a.axes a.three a.at a.origin a.absolute a.words in rw c.from_residual-in_err-a.ensures (out-a q c.goal_on.ensures c.in_ok-x.was c.goal_on-2.ensures c.in_ok-y.was c.goal_on-3.ensures c.in_ok-z.was (a-by q c.has.ensures c.chosen-w.ensures c.goal_on-4.ensures) c.in_err-a.was)

pub returns-in_err-z2 : goal.returns-in_err-z2
unfolding goal_of
returns-in_err-z2 c = let a = c.args in let q = asked a.axes a.three a.at a.origin a.absolute a.words in rw c.from_residual-in_err-z2.ensures (out-z2 q c.goal_on.ensures c.in_ok-x.was c.goal_on-2.ensures c.in_ok-y.was c.goal_on-3.ensures c.in_ok-z.was (a-by q c.has.ensures c.chosen-w.ensures c.goal_on-4.ensures) c.in_ok-a.was c.goal_z2.ensures c.in_err-z2.was)

pub route_of-requires : goal.route_of-requires
unfolding goal_of first_speed later_speed
route_of-requires c = let a = c.args in let q = asked a.axes a.three a.at a.origin a.absolute a.words in speeds-fit q (record { x = c.in_ok-x.x; y = c.in_ok-y.y; z = c.in_ok-z.z; a = c.in_ok-a.a }) c.requires c.goal_on-2.ensures c.in_ok-y.was

pub returns : goal.returns
unfolding goal_of first_speed later_speed route
returns c = let a = c.args in let q = asked a.axes a.three a.at a.origin a.absolute a.words in all_in q c.goal_on.ensures c.in_ok-x.was c.goal_on-2.ensures c.in_ok-y.was c.goal_on-3.ensures c.in_ok-z.was (a-by q c.has.ensures c.chosen-w.ensures c.goal_on-4.ensures) c.in_ok-a.was c.goal_z2.ensures c.in_ok-z2.was c.route_of.ensures
