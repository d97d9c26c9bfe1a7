-- `sheet::in_range` meets its contract. Assumes nothing.
use mathlib.Core.Path.{◌≡◌}
use mathlib.Core.Bool.{true, ◌&&◌}
use lib.IntN.{ℤ}
use lib.Signed.{le_z}
use mir.Syntax.{w32, w64}
use mir.Val.{SFits, to_z, of_z}
use mir.ValLaws.{to_z-of_z}
use Rattle.sheet.specs.Sheet.{found, in_range}
use Rattle.sheet.proofs.Range.{between-fits}
use Rattle.sheet.proofs.Sums.{wider}
use Rattle.sheet.proofs.in_range.Goals as goal

-- a number between the two is read back as it is
kept : (low n high f g : ℤ) → SFits w32 low → SFits w64 n → SFits w32 high → f ≡ to_z w32 (of_z w32 low) → g ≡ to_z w32 (of_z w32 high)
    → (le_z (to_z w64 (of_z w64 f)) (to_z w64 (of_z w64 n)) && le_z (to_z w64 (of_z w64 n)) (to_z w64 (of_z w64 g))) ≡ true
    → found (to_z w32 (of_z w32 (to_z w64 (of_z w64 n)))) ≡ in_range low n high
kept low n high f g a b c p q h =
    let e : (le_z low n && le_z n high) ≡ true = rw (p, q, to_z-of_z w32 low a, to_z-of_z w32 high c, to_z-of_z w64 low (wider low a), to_z-of_z w64 high (wider high c), to_z-of_z w64 n b) at h in
    rw (to_z-of_z w64 n b, to_z-of_z w32 n (between-fits low n high a c e), e)

pub returns-then-from-n : goal.returns-then-from-n
returns-then-from-n c =
    kept c.args.low c.args.n c.args.high c.from.result c.from-2.result c.ranges.low c.ranges.n c.ranges.high c.from.ensures c.from-2.ensures c.if-from-n.true
