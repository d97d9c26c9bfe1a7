-- A pulse without the movement: `Move::beat`, `Move::beat_in` and `Move::look` cite it. The pulse is that of Here, and what is left of the
-- movement is told by its mark alone (the laws `next-back` and `within-back`).
use Rattle.std.specs.Prelude.{[], Option, Some, None}
use Rattle.count.specs.Pick.{pick}
use Rattle.count.specs.Paper.{Paper, says}
use Rattle.motion.specs.declared.Counters.{Counters}
use Rattle.motion.specs.declared.Move.{Move}
use Rattle.motion.specs.declared.Stepped.{Stepped}
use Rattle.motion.specs.declared.Mark.{Mark}
use Rattle.motion.specs.declared.Beat.{Beat}
use Rattle.motion.specs.declared.Look.{Look}
use Rattle.motion.specs.declared.Look.TheVariants as look
use Rattle.motion.specs.Next.{at_phase, next_paper}
use Rattle.motion.specs.Sound.{under_way}
use Rattle.motion.specs.work.Here.{next_of}

-- where a movement stands, and the movement that stands elsewhere
abbrev pub mark_of : Move → Mark
mark_of m = record { phase = m.phase; made = m.made }

abbrev pub at_mark : Move → Mark → Move
at_mark m k = at_phase m k.phase k.made

-- a pulse without the movement, and with it
abbrev pub beat_of : Stepped → Beat
beat_of s = record { signs = s.signs; speed = s.speed; at = s.at; mark = mark_of s.rest }

abbrev pub beaten : Option Stepped → Option Beat
beaten (Some s) = Some (beat_of s)
beaten None = None

abbrev pub stepped_back : Move → Beat → Stepped
stepped_back m b = record { signs = b.signs; speed = b.speed; at = b.at; rest = at_mark m b.mark }

abbrev pub next_back : Move → Option Beat → Option Stepped
next_back m (Some b) = Some (stepped_back m b)
next_back m None = None

-- the next pulse of a movement that 103 lets pass
abbrev pub looked_by : Option Stepped → Look
looked_by (Some s) = look.Made (beat_of s)
looked_by None = look.Over

unfoldable pub look_of : Move → Counters → Look
look_of m at = pick (under_way m at) (looked_by (next_of m at)) look.Wrong

-- on paper a pulse is a pulse, whatever of the movement it hands on; what 103 refuses is 103
abbrev pub beaten_paper : Move → Option Beat → Paper
beaten_paper m b = next_paper (next_back m b)

abbrev pub look_paper : Move → Look → Paper
look_paper m look.Wrong = says 103 []
look_paper m (look.Made b) = next_paper (Some (stepped_back m b))
look_paper m look.Over = next_paper None
