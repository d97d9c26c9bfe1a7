-- `reader::hex_value` meets its contract: by its tests.
use Rattle.std.proofs.Common.{◌<◌, ◌≤◌, arith}
use Rattle.count.specs.Pick.{tests}
use Rattle.reader.specs.Reader.{hex_value}
use Rattle.reader.proofs.hex_value.Goals as goal

pub returns-in-48-to-57 : goal.returns-in-48-to-57
unfolding hex_value
returns-in-48-to-57 c =
    let low : 48 ≤ c.args.b = omega arith in
    let high : c.args.b ≤ 57 = omega arith in
    (rw c.from.ensures (search (tests)), omega (arith, c.from.ensures))

pub returns-in-97-to-102 : goal.returns-in-97-to-102
unfolding hex_value
returns-in-97-to-102 c =
    let above : 57 < c.args.b = omega arith in
    let low : 97 ≤ c.args.b = omega arith in
    let high : c.args.b ≤ 102 = omega arith in
    (rw c.from-in-97-to-102.ensures (search (tests)), omega (arith, c.from-in-97-to-102.ensures))

pub returns-in_default : goal.returns-in_default
unfolding hex_value
returns-in_default c =
    let under : c.args.b < 48 = omega arith in
    let low : c.args.b < 97 = omega arith in
    (search (tests), omega arith)

pub returns-in_default-2 : goal.returns-in_default-2
unfolding hex_value
returns-in_default-2 c =
    let above : 57 < c.args.b = omega arith in
    let low : c.args.b < 97 = omega arith in
    (search (tests), omega arith)

pub returns-in_default-3 : goal.returns-in_default-3
unfolding hex_value
returns-in_default-3 c =
    let above : 57 < c.args.b = omega arith in
    let high : 102 < c.args.b = omega arith in
    (search (tests), omega arith)
