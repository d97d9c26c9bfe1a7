-- Where a record sends a run, as Onward tells it: to a place, into a wait, or nowhere (G); the next place, a wait's target, and the open
-- loops. A place or a target that there is none of is 0.
use Rattle.std.specs.Prelude.{ℕ}
use Rattle.program.specs.declared.Loops.{Loops}
use Rattle.program.specs.declared.Going as code
use Rattle.program.specs.declared.Going.TheVariants as sent
use Rattle.program.specs.declared.Way as made

pub data Going : Type 0 where
  To : Going
  Waits : Going
  Wrong : Going

pub record Way : Type 0 where
  pub going : Going
  pub place : ℕ
  pub target : ℕ
  pub loops : Loops

-- ---- as the code answers it

abbrev pub kind_in : code.Going → Going
kind_in (sent.To p) = To
kind_in (sent.Waits p t) = Waits
kind_in sent.Wrong = Wrong

abbrev pub place_in : code.Going → ℕ
place_in (sent.To p) = p
place_in (sent.Waits p t) = p
place_in sent.Wrong = 0

abbrev pub target_in : code.Going → ℕ
target_in (sent.To p) = 0
target_in (sent.Waits p t) = t
target_in sent.Wrong = 0

abbrev pub way_by : code.Going → Loops → Way
way_by g o = record { going = kind_in g; place = place_in g; target = target_in g; loops = o }

abbrev pub way_in : made.Way → Way
way_in w = way_by w.going w.loops
