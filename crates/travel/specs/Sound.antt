-- What 103 asks of what is under way.
use Rattle.std.specs.Prelude.{Bool}
use Rattle.motion.specs.declared.Counters.{Counters}
use Rattle.motion.specs.Sound.{under_way as straight_under_way}
use Rattle.circle.specs.Sound.{arc_under_way}
use Rattle.travel.specs.declared.Travel.{Travel}
use Rattle.travel.specs.declared.Travel.TheVariants as travel

unfoldable pub under_way : Travel → Counters → Bool
under_way (travel.Straight m) at = straight_under_way m at
under_way (travel.Round a) at = arc_under_way a at
