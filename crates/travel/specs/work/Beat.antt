-- A pulse without what moves, and the next pulse as the code makes it: `Travel::beat`, `Travel::beat_in`, `Travel::look`, `Travel::at_mark`,
-- `Travel::made` and `Travel::with_made` cite it. On what 103 lets pass the pulse is that of Next (the law `next-is-pulse`), and what is
-- left is told by its mark alone (the law `next-rest`).
use Rattle.std.specs.Prelude.{Bool, true, false, [], ℕ, Option, Some, None}
use Rattle.count.specs.Pick.{pick}
use Rattle.count.specs.Paper.{Paper, says}
use Rattle.motion.specs.declared.Counters.{Counters}
use Rattle.motion.specs.declared.Mark.{Mark}
use Rattle.motion.specs.declared.Beat.{Beat}
use Rattle.motion.specs.declared.Look.{Look}
use Rattle.motion.specs.declared.Look.TheVariants as look
use Rattle.motion.specs.Next.{at_phase}
use Rattle.motion.specs.work.Here.{next_of as straight_of, within_of as straight_in}
use Rattle.circle.specs.Arc.{arc_beat, with_made as arc_made}
use Rattle.travel.specs.declared.Travel.{Travel}
use Rattle.travel.specs.declared.Travel.TheVariants as travel
use Rattle.travel.specs.Next.{Stepped, Next, straight_next, arc_next, next_paper}
use Rattle.travel.specs.Next.Next.{Made, Over}
use Rattle.travel.specs.Sound.{under_way}

-- the next pulse, and the next of the phase under way; an arc has one phase
unfoldable pub next_of : Travel → Counters → Next
next_of (travel.Straight m) at = straight_next (straight_of m at)
next_of (travel.Round a) at = arc_next a (arc_beat a at)

unfoldable pub within_of : Travel → Counters → Next
within_of (travel.Straight m) at = straight_next (straight_in m at)
within_of (travel.Round a) at = arc_next a (arc_beat a at)

-- whether one is made
abbrev pub made : Next → Bool
made (Made s) = true
made Over = false

-- where it stands
abbrev pub made_of : Travel → ℕ
made_of (travel.Straight m) = m.made
made_of (travel.Round a) = a.made

abbrev pub with_made : Travel → ℕ → Travel
with_made (travel.Straight m) k = travel.Straight (at_phase m m.phase k)
with_made (travel.Round a) k = travel.Round (arc_made a k)

abbrev pub mark_of : Travel → Mark
mark_of (travel.Straight m) = record { phase = m.phase; made = m.made }
mark_of (travel.Round a) = record { phase = 0; made = a.made }

abbrev pub at_mark : Travel → Mark → Travel
at_mark (travel.Straight m) k = travel.Straight (at_phase m k.phase k.made)
at_mark (travel.Round a) k = travel.Round (arc_made a k.made)

-- a pulse without what moves, and with it
abbrev pub beat_of : Stepped → Beat
beat_of s = record { signs = s.signs; speed = s.speed; at = s.at; mark = mark_of s.rest }

abbrev pub beaten : Next → Option Beat
beaten (Made s) = Some (beat_of s)
beaten Over = None

abbrev pub stepped_back : Travel → Beat → Stepped
stepped_back m b = record { signs = b.signs; speed = b.speed; at = b.at; rest = at_mark m b.mark }

abbrev pub next_back : Travel → Option Beat → Next
next_back m (Some b) = Made (stepped_back m b)
next_back m None = Over

-- the next pulse of what 103 lets pass
abbrev pub looked_by : Next → Look
looked_by (Made s) = look.Made (beat_of s)
looked_by Over = look.Over

unfoldable pub look_of : Travel → Counters → Look
look_of m at = pick (under_way m at) (looked_by (next_of m at)) look.Wrong

-- on paper a pulse is a pulse, whatever it hands on of what moves; what 103 refuses is 103
abbrev pub beaten_paper : Travel → Option Beat → Paper
beaten_paper m b = next_paper (next_back m b)

abbrev pub look_paper : Travel → Look → Paper
look_paper m look.Wrong = says 103 []
look_paper m (look.Made b) = next_paper (Made (stepped_back m b))
look_paper m look.Over = next_paper Over
