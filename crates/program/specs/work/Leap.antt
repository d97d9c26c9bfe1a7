-- Where a record sends a run, told without the seven open loops: `program::leap` and `Lead::loops` cite it. A record opens a loop, counts
-- the last one or closes it, so one entry can have changed: the last of those open before or after. That the loops before, with this entry
-- set, are those that the record leads to is the law `leap-loops`.
use Rattle.std.specs.Prelude.{ℕ, ◌-◌, max, get_or, set}
use Rattle.record.specs.declared.Record.{Record}
use Rattle.program.specs.declared.Loops.{Loops}
use Rattle.program.specs.Going.{Going, Way, kind_in, place_in, target_in}
use Rattle.program.specs.declared.Loop.{Loop}
use Rattle.program.specs.declared.Lead as made
use Rattle.program.specs.Onward.{counter, opened, onward_of}

-- where a record sends a run, how many loops are open afterwards, and the one entry of theirs that can have changed
pub record Lead : Type 0 where
  pub going : Going
  pub place : ℕ
  pub target : ℕ
  pub depth : ℕ
  pub top : ℕ
  pub last : Loop

abbrev pub lead_in : made.Lead → Lead
lead_in l = record { going = kind_in l.going; place = place_in l.going; target = target_in l.going; depth = l.depth; top = l.top; last = l.last }

-- the entry that can have changed
abbrev pub top_of : Loops → Loops → ℕ
top_of before after = max before.depth after.depth - 1

abbrev pub leap_by : Loops → Way → Lead
leap_by o w = record {
  going = w.going;
  place = w.place;
  target = w.target;
  depth = w.loops.depth;
  top = top_of o w.loops;
  last = get_or w.loops.at (top_of o w.loops) (counter 0 0);
}

unfoldable pub leap_of : Record → ℕ → ℕ → Loops → Lead
leap_of r place end o = leap_by o (onward_of r place end o)

-- the loops before with that entry, and as many open as afterwards
abbrev pub loops_by : Lead → Loops → Loops
loops_by l o = opened (set o.at l.top l.last) l.depth
