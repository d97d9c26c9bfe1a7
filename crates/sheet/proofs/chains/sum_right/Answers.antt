-- `sheet::chains::sum_right` meets its contract: the sum is taken to the other side of each order. Assumes nothing.
use lib.IntN.{pos, negsuc, ◌-ℤ◌}
use mir.Syntax.{w64}
use mir.ValLaws.{to_z-of_z}
use Rattle.count.specs.Numbers.{within}
use Rattle.sheet.specs.Chain.{sum_right}
use Rattle.sheet.proofs.Sums.{move_low, move_high, low_fits, high_fits}
use Rattle.sheet.proofs.chains.sum_right.Goals as goal

pub returns : goal.returns
unfolding sum_right within
returns c =
    let s = c.args.sum in
    let t = c.args.t in
    rw (to_z-of_z w64 s c.ranges.sum, to_z-of_z w64 t c.ranges.t, to_z-of_z w64 (negsuc 999999999 -ℤ s) (low_fits s c.requires), to_z-of_z w64 (pos 1000000000 -ℤ s) (high_fits s c.requires), move_low (negsuc 999999999) s t, move_high (pos 1000000000) s t)
