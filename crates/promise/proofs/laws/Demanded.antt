-- THE THEOREMS: our machine has all three demands, and what the requests add. Assumes nothing.
use Rattle.promise.specs.Machine.{ours}
use Rattle.promise.specs.Demanded.{DemandOne, DemandTwo, Demanded, Requested}
use Rattle.promise.proofs.laws.Follows.{ours-follows}
use Rattle.promise.proofs.laws.KeepsAlways.{keeps-no-dead-end}
use Rattle.promise.proofs.laws.KeepsCalls.{keeps-refused-call, keeps-quiet, keeps-counted}
use Rattle.promise.proofs.laws.KeepsReturn.{keeps-refused-line, keeps-accepted-line, keeps-silent-return}
use Rattle.promise.proofs.laws.KeepsEvents.{keeps-sum-of-pulses}
use Rattle.promise.proofs.laws.KeepsEnd.{keeps-end-accepts, stored-then-listed}
use Rattle.promise.proofs.laws.KeepsTrip.{keeps-round-trip}
use Rattle.promise.proofs.laws.KeepsNamed.{keeps-end-names, accepted-exactly}
use Rattle.promise.proofs.laws.KeepsTurntable.{ours-turntable, turntable-printed}
use Rattle.promise.proofs.laws.KeepsCircles.{ours-circles}
use Rattle.promise.proofs.laws.KeepsSpaces.{keeps-spaces}
use Rattle.promise.proofs.laws.RouteStart.{ours-start-routes}
use Rattle.promise.proofs.laws.RouteSteps.{ours-routes}
use Rattle.promise.proofs.laws.ThreeLaws.{ours-demand-3}

pub ours-demand-1 : DemandOne ours
ours-demand-1 = record { refused-line = keeps-refused-line; refused-call = keeps-refused-call; no-dead-end = keeps-no-dead-end }

pub ours-demand-2 : DemandTwo ours
ours-demand-2 = record {
  follows = ours-follows;
  accepted-line = keeps-accepted-line;
  silent-return = keeps-silent-return;
  quiet = keeps-quiet;
  sum-of-pulses = keeps-sum-of-pulses;
  counted = keeps-counted;
  end-accepts = keeps-end-accepts;
  round_trip = keeps-round-trip;
  end_to_end = stored-then-listed;
  start-routes = ours-start-routes;
  routes = ours-routes;
}

pub ours-demanded : Demanded ours
ours-demanded = record { demand-1 = ours-demand-1; demand-2 = ours-demand-2; demand-3 = ours-demand-3 }

pub ours-requested : Requested ours
ours-requested = record { end-names = keeps-end-names; accepted-exactly = accepted-exactly; circles = ours-circles; turntable = ours-turntable; printed = turntable-printed; spaces = keeps-spaces }
