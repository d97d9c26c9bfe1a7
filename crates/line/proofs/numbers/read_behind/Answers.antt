-- `line::read_behind` meets its contract: nothing, or at most one space and then numbers. Assumes nothing.
use mathlib.Core.Path.{ap, sym, ◌∙◌}
use Prim.Native.Nat.{◌<◌, ◌≤◌}
use native.Mathlib.Omega.{arith}
use lib.ListN.{length, drop_of_length-le}
use Rattle.line.specs.Lines.{behind}
use Rattle.line.specs.work.Reading.{items}
use Rattle.line.proofs.Shapes.{behind-spaced}
use Rattle.line.proofs.Spaces.{spaced-on}
use Rattle.line.proofs.numbers.read_behind.Goals as goal

pub returns-then-s-at : goal.returns-then-s-at
unfolding behind
returns-then-s-at c =
    let h : length c.args.s.now ≤ c.args.at = omega (arith, c.if-s-at.true) in
    rw (drop_of_length-le c.args.s.now h)

pub read_numbers-requires : goal.read_numbers-requires
read_numbers-requires c =
    rw c.past_space-from.ensures (spaced-on c.args.s.now c.args.at c.requires).1

pub returns : goal.returns
returns c =
    let h : c.args.at < length c.args.s.now = omega (arith, c.requires, c.if-s-at.false) in
    c.read_numbers.ensures
    ∙ rw c.past_space-from.ensures (sym (ap items (behind-spaced c.args.s.now c.args.at h)))
