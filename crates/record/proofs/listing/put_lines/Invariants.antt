-- `record::put_lines` meets its contract: one record a turn. Assumes nothing.
use Rattle.std.proofs.Common.{◌≡◌, ◌≤◌, ◌-◌, true, length, drop}
use Rattle.record.specs.Places.{records_from, is_list}
use Rattle.record.specs.Listing.{list_text}
use Rattle.record.proofs.laws.Writing.{Writing}
use Rattle.record.specs.work.Writing.{list_in}
use Rattle.record.proofs.listing.put_lines.Given as goal

abbrev pub invariant-loop : goal.invariant-loop
invariant-loop l = (l.at ≤ length l.s) × (is_list (records_from l.axes (l.k - l.counter) (drop l.at l.s)) ≡ true) × Writing (list_text (list_in (records_from l.axes l.k l.s))) l.initial.text l.text l.out (list_text (list_in (records_from l.axes (l.k - l.counter) (drop l.at l.s))))
