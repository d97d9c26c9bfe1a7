-- A run over a list of records (01, "Running a program", paragraphs 1 and 2): which lists are accepted, where a run stands after each
-- record, and where a loop's record has sent it. The laws stand in Discipline and Exact.
use Prim.Native.Nat.{ℕ, ◌<◌}
use mathlib.Core.Bool.{Bool, true, cond}
use mathlib.Core.List.{List, [], ◌∷◌}
use mathlib.Core.Path.{◌≡◌}
use lib.Dec.{ltb, eqb}
use lib.ListN.{length, get_or}
use Rattle.count.specs.Pick.{pick}
use Rattle.record.specs.declared.Record.{Record}
use Rattle.record.specs.Bytes.{is_right, made}
use Rattle.program.specs.declared.Loops.{Loops}
use Rattle.program.specs.Going.{Going, To, Waits, Wrong, Way}
use Rattle.program.specs.Program.{passes}
use Rattle.program.specs.Onward.{onward_of, no_loops}
use Rattle.program.proofs.laws.Flow.{noted}

-- the record at a place
abbrev pub record_in : List Record → ℕ → Record
record_in l i = get_or l i (made 0 [])

-- an accepted list of records: each is right under the axes, and the check passes
pub record Accepted (axes : ℕ) (l : List Record) : Type 0 where
  pub right : (i : ℕ) → i < length l → is_right axes (record_in l i) ≡ true
  pub passing : passes l ≡ true

-- ---- a run: it stands at a place with open loops, or has ended with G

pub data Standing : Type 0 where
  Stands : ℕ → Loops → Standing
  Lost : Standing

-- the Bool says what a wait hears: its character, or another
abbrev pub taken_by : Bool → Going → Way → Standing
taken_by b To w = Stands w.place w.loops
taken_by b Waits w = Stands (cond b w.target w.place) w.loops
taken_by b Wrong w = Lost

abbrev pub taken : Bool → Way → Standing
taken b w = taken_by b w.going w

-- one record; at the end place there is none, and the run stays there
abbrev pub step_of : List Record → Bool → ℕ → Loops → Standing
step_of l b p o = pick (ltb p (length l)) (taken b (onward_of (record_in l p) p (length l) o)) (Stands p o)

-- as many records as there are choices
unfoldable pub run_of : List Record → List Bool → Standing → Standing
run_of l [] s = s
run_of l (b ∷ bs) (Stands p o) = run_of l bs (step_of l b p o)
run_of l (b ∷ bs) Lost = Lost

-- a start is at place 0 with no loop open
abbrev pub begin : Standing
begin = Stands 0 no_loops

abbrev pub place_of : Standing → ℕ
place_of (Stands p o) = p
place_of Lost = 0

-- where the record at place i has sent the run, each time that it was run
unfoldable pub turns_of : List Record → ℕ → List Bool → Standing → List ℕ
turns_of l i [] s = []
turns_of l i (b ∷ bs) (Stands p o) = noted (eqb p i) (place_of (step_of l b p o)) (turns_of l i bs (step_of l b p o))
turns_of l i (b ∷ bs) Lost = []
