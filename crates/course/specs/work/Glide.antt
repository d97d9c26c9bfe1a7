-- The pulses of a phase as a machine of its own, on what moves and the counters alone: the inner loop of a run.
use Rattle.std.specs.Prelude.{ℕ, Bool, List, []}
use Rattle.motion.specs.declared.Counters.{Counters}
use Rattle.travel.specs.declared.Travel.{Travel}
use Rattle.travel.specs.Next.{Next}
use Rattle.travel.specs.Next.Next.{Made, Over}
use Rattle.travel.specs.work.Beat.{within_of, made}
use Rattle.course.specs.declared.Glided.{Glided}
use Rattle.course.specs.Text.{pulse_text}
use Rattle.course.specs.work.Machine.{way, Left, left_by}

pub record Gone : Type 0 where
  pub rest : Travel
  pub at : Counters

abbrev pub here : Travel → Counters → Gone
here m at = record { rest = m; at = at }

abbrev pub gone_by : Next → Gone → Gone
gone_by (Made s) g = here s.rest s.at
gone_by Over g = g

abbrev pub said_by : Bool → Next → List ℕ
said_by turns (Made s) = pulse_text turns s.signs s.speed
said_by turns Over = []

unfoldable pub glides : Gone → Bool
glides g = made (within_of g.rest g.at)

abbrev pub glide_on : Gone → Gone
glide_on g = gone_by (within_of g.rest g.at) g

abbrev pub glide_said : Bool → Gone → List ℕ
glide_said turns g = said_by turns (within_of g.rest g.at)

abbrev pub glided : Glided → List ℕ → Left Gone
glided r out = record { state = here r.rest r.at; calls = r.calls; len = r.len; out = out }

abbrev pub gliding : Bool → ℕ → Travel → Counters → List ℕ → Left Gone
gliding turns limit m at out = left_by (way glides glide_on (glide_said turns) limit (here m at)) out
