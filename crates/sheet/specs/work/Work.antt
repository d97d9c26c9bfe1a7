-- What the private functions hand on between a float and its whole number. The definitions of 01 are in `Sheet.antt` and use nothing of this. Definitions only.
use Rattle.std.specs.Prelude.{ℕ, ◌<◌, ◌≤◌, ◌^◌, min, ℤ, pos, Float}
use Rattle.std.specs.Float.{nan, inf, fin}
use Rattle.sheet.specs.Sheet.{near, signed}

-- the digits of a float, and how many of them stand behind the point
pub record Room (digits places : ℕ) : Type 0 where
  pub short : digits < 2 ^ 53
  pub some : 0 < places
  pub few : places ≤ 53

-- the size of the nearest whole number, with every size from 2 ^ 24 up as 2 ^ 24, which is outside either range
unfoldable pub capped : Float → ℕ
capped nan = 16777216
capped (inf s) = 16777216
capped (fin s m e) = min (near m e) 16777216

-- the same with its sign
unfoldable pub capped_whole : Float → ℤ
capped_whole nan = pos 16777216
capped_whole (inf s) = signed s 16777216
capped_whole (fin s m e) = signed s (min (near m e) 16777216)
