-- Demand 3 in its own words, of any machine: what `Stop.antt` says of a schedule and of another, said of a run and of the same run never
-- stopped.
use Rattle.std.specs.Prelude.{ℕ, ◌≤◌, true, List, [], ◌∷◌, ◌++◌, map, ◌≡◌, eqb, ℤ}
use Rattle.count.specs.Pick.{pick}
use Rattle.count.specs.Paper.{Paper}
use Rattle.promise.specs.Machine.{Machine}
use Rattle.promise.specs.Steps.{Each}
use Rattle.promise.specs.Stop.{Step, Mildly, Unstopped, over, unsped, speeds_of, Place, board_at, last, answers, counted, taken, Begun, StopChangesNothing, StopsCanBeLeftOut, StopHolds, StopElseDoesNothing, StartGoesOn, StopAndStart, RunsClear, LineBegins}

-- of a list of answers those with a number: 1 the pulses, 3 the sent characters
abbrev pub only : ℕ → List Paper → List Paper
only n [] = []
only n (a ∷ l) = pick (eqb a.number n) (a ∷ []) [] ++ only n l

module _ (m : Machine) where
  -- the pulses with their axes, and the sent characters, of a schedule
  abbrev pub pulses : Place m → List Step → List Paper
  pulses p es = only 1 (map unsped (answers m p es))

  abbrev pub sent : Place m → List Step → List Paper
  sent p es = only 3 (map unsped (answers m p es))

  -- the same pulses and speeds, the same characters sent, and in the end the same positions, origins, outputs and memory
  pub record Equals (p : Place m) (es fs : List Step) : Type 0 where
    pub pulses : pulses p es ≡ pulses p fs
    pub speeds : speeds_of (answers m p es) ≡ speeds_of (answers m p fs)
    pub sent : sent p es ≡ sent p fs
    pub positions : (board_at m (last m p es)).engine.at ≡ (board_at m (last m p fs)).engine.at
    pub origins : (board_at m (last m p es)).engine.origin ≡ (board_at m (last m p fs)).engine.origin
    pub outputs : (board_at m (last m p es)).engine.output ≡ (board_at m (last m p fs)).engine.output
    pub held : (board_at m (last m p es)).engine.held ≡ (board_at m (last m p fs)).engine.held
    pub memory : (last m p es).1 ≡ (last m p fs).1

  -- one run has the pulses, speeds and sent characters of the other at its front
  pub record Agrees (p : Place m) (es fs : List Step) : Type 0 where
    pub more_pulses : List Paper
    pub more_speeds : List ℤ
    pub more_sent : List Paper
    pub pulses : pulses p fs ≡ pulses p es ++ more_pulses
    pub speeds : speeds_of (answers m p fs) ≡ speeds_of (answers m p es) ++ more_speeds
    pub sent : sent p fs ≡ sent p es ++ more_sent

  -- a schedule in which the run is never stopped
  pub record Never (fs : List Step) : Type 0 where
    pub mild : Mildly fs
    pub unstopped : Each Unstopped fs

  -- DEMAND 3, all of it
  pub record DemandThree : Type 0 where
    -- a run that ends, stopped as often as you like, and the same run never stopped, with the same characters at its waits
    pub ends : (p : Place m) (es fs : List Step) → Begun m p → Mildly es → Never fs →
        over (board_at m (last m p es)) ≡ true → over (board_at m (last m p fs)) ≡ true → taken m p es ≡ taken m p fs → Equals p es fs
    -- a run without end
    pub goes_on : (p : Place m) (es fs : List Step) (later : List ℕ) → Begun m p → Mildly es → Never fs →
        counted m p es ≤ counted m p fs → taken m p fs ≡ taken m p es ++ later → Agrees p es fs
    -- at every moment of either
    pub always : StopChangesNothing m
    -- the same run never stopped is there: the schedule with its stops, and what comes while it stands, left out
    pub left_out : StopsCanBeLeftOut m
    -- and stops are there: where 01 allows one it stands and sends F, elsewhere it does nothing, and an accepted S goes on
    pub holds : StopHolds m
    pub elsewhere : StopElseDoesNothing m
    pub start_goes_on : StartGoesOn m
    pub both : StopAndStart m
    -- a run begins with no line begun and axes set, from the first state on
    pub clear : RunsClear m
    pub begins : LineBegins m
