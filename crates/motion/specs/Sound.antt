-- What 103 asks of a movement under way (01, "Calls", table, row 103).
use Rattle.std.specs.Prelude.{Bool, ◌&&◌, ℕ, ltb, leb, eqb}
use Rattle.count.specs.Sizes.{slowest, fastest}
use Rattle.count.specs.Numbers.{full}
use Rattle.count.specs.Axes.{on_all}
use Rattle.motion.specs.declared.Counters.{Counters}
use Rattle.motion.specs.declared.Move.{Move}
use Rattle.motion.specs.Axes.{on}
use Rattle.motion.specs.Phase.{count_after}
use Rattle.motion.specs.Next.{from_of, to_of, leg}

-- a speed: 30 to 10,000
abbrev pub speed_right : ℕ → Bool
speed_right v = leb slowest v && leb v fastest

-- counts of 24 bits
unfoldable pub counted : Counters → Bool
counted c = on_all (λ i. ltb (on i c) full)

-- the position that the pulse number gives
abbrev pub stands_at : Move → Counters → Bool
stands_at m at = on_all (λ i. eqb (on i at) (count_after m.made (on i (from_of m)) (on i (to_of m)) (leg m)))

-- speeds and resting points in range. The start counts as a resting point: it is where the movement before came to rest.
unfoldable pub in_range : Move → Bool
in_range m =
    (speed_right m.speed1 && speed_right m.speed2 && speed_right m.speed3)
    && (counted m.start && counted m.first && counted m.second && counted m.third)

-- and a pulse number within its phase, and a position that it gives
unfoldable pub under_way : Move → Counters → Bool
under_way m at = in_range m && (ltb m.phase 3 && leb m.made (leg m)) && stands_at m at
