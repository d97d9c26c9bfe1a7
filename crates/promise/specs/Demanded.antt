-- THE DEMANDS: what is promised of the board, as one record over any machine (00, demands 1, 2 and 3), and what the requests add (02).
-- `ours-demanded` and `ours-requested` in proofs/laws/Demanded.antt are the theorems that ours has them.
use Rattle.std.specs.Prelude.{ℕ, List}
use Rattle.record.specs.declared.Held.{Held}
use Rattle.promise.specs.Machine.{Machine}
use Rattle.promise.specs.Demands.{RefusedLine, AcceptedLine, SilentReturn, RefusedCall, Quiet, SumOfPulses, Counted, NoDeadEnd, RoundTrip, EndAccepts, EndToEnd}
use Rattle.promise.specs.Follows.{Follows}
use Rattle.promise.specs.Named.{EndNames, AcceptedExactly}
use Rattle.promise.specs.Circles.{CirclesRequested}
use Rattle.promise.specs.Turntable.{TurntableRequested, TurntablePrinted}
use Rattle.promise.specs.Spaces.{SpacesChangeNothing}
use Rattle.promise.specs.Route.{Routes, StartRoutes}
use Rattle.promise.specs.Three.{DemandThree}

-- 1: a refused line sends its one character, at the end line with a fault six, and changes nothing but the line; a refused call writes
-- nothing, and no call is refused to a caller who lends what is asked. That each call has one outcome is what a machine is; of the contracts it is `one-history`.
pub record DemandOne (m : Machine) : Type 0 where
  pub refused-line : RefusedLine m
  pub refused-call : RefusedCall m
  pub no-dead-end : NoDeadEnd m

-- 2: replies, answers, pulses, positions, origins, outputs and stored bytes are the definitions'; and what these come to
pub record DemandTwo (m : Machine) : Type 0 where
  pub follows : Follows m
  pub accepted-line : AcceptedLine m
  pub silent-return : SilentReturn m
  pub quiet : Quiet m
  pub sum-of-pulses : SumOfPulses m
  pub counted : Counted m
  pub end-accepts : EndAccepts m
  pub round_trip : RoundTrip m
  pub end_to_end : EndToEnd m
  pub start-routes : StartRoutes m
  pub routes : Routes m

-- 3 stands in `Three.antt`
pub record Demanded (m : Machine) : Type 0 where
  pub demand-1 : DemandOne m
  pub demand-2 : DemandTwo m
  pub demand-3 : DemandThree m

-- the requests, by their numbers in 02
pub record Requested (m : Machine) : Type 0 where
  -- §1: which record is at fault, and why; accepted is what has no fault
  pub end-names : EndNames m
  pub accepted-exactly : (h : Held) (store : List ℕ) → AcceptedExactly h store
  -- §3: circles
  pub circles : CirclesRequested m
  -- §7: turntables
  pub turntable : TurntableRequested m
  pub printed : TurntablePrinted
  -- §8: lines that differ only in the spaces after their commas
  pub spaces : SpacesChangeNothing m
