-- No dead end: from a fresh board on every board passes the test of 103, and with buffers of the right lengths no call is ever refused.
-- Assumes nothing.
use mathlib.Core.Path.{◌≡◌}
use mathlib.Core.Bool.{true}
use mathlib.Core.List.{List}
use Rattle.board.specs.State.{sound}
use Rattle.board.specs.Calls.{fresh}
use Rattle.board.proofs.laws.Laws.{fresh-sound, hearing-sound, clocking-sound}
use Rattle.promise.specs.Machine.{ours, Event, after_all}
use Rattle.promise.specs.Demands.{NoDeadEnd}
use Rattle.promise.proofs.laws.KeepsOn.{all_sound, no-dead-end-by}

pub always-sound : (es : List Event) → sound (after_all ours es fresh) ≡ true
always-sound es = all_sound fresh-sound hearing-sound clocking-sound es fresh fresh-sound

pub keeps-no-dead-end : NoDeadEnd ours
keeps-no-dead-end = no-dead-end-by fresh-sound hearing-sound clocking-sound
