-- `board::Line::gather_all` meets its contract. The invariant: what the whole input comes to is what its rest comes to, on the line so far.
-- Assumes nothing.
use mathlib.Core.Path.{◌≡◌}
use lib.ListN.{drop}
use Rattle.board.specs.work.Take.{lined_of}
use Rattle.board.proofs.laws.Takes.{lined_from}
use Rattle.board.proofs.Line.gather_all.Given as goal

abbrev pub invariant-loop-i : goal.invariant-loop-i
invariant-loop-i l = lined_of l.input record { bytes = l.initial.bytes; len = l.initial.len; over = l.initial.over } ≡ lined_from l.i (drop l.i l.input) record { bytes = l.bytes; len = l.len; over = l.over }
