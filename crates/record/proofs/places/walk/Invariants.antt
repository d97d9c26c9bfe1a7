-- `record::walk` meets its contract: one record a turn. Assumes nothing.
use Rattle.std.proofs.Common.{◌≡◌, ◌≤◌, ◌-◌, length}
use Rattle.record.specs.Places.{spot_from}
use Rattle.record.proofs.places.walk.Given as goal

abbrev pub invariant-loop : goal.invariant-loop
invariant-loop l = (l.at ≤ length l.s) × (spot_from l.axes l.k l.s 0 ≡ spot_from l.axes (l.k - l.counter) l.s l.at)
