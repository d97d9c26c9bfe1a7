-- One pulse on the counters, whatever it is a pulse of (01, "Calls", on the axis counters).
use Rattle.std.specs.Prelude.{ℕ, ◌+◌, Bool, true, [], ltb, Option, Some, None}
use Rattle.count.specs.Pick.{pick}
use Rattle.count.specs.Paper.{Paper, says}
use Rattle.count.specs.Numbers.{full}
use Rattle.count.specs.Axes.{on_all}
use Rattle.motion.specs.declared.Sign.{Sign}
use Rattle.motion.specs.declared.Sign.TheVariants.{Minus, Rest, Plus}
use Rattle.motion.specs.declared.Signs.{Signs}
use Rattle.motion.specs.declared.Counters.{Counters}
use Rattle.motion.specs.Axes.{on, shows, point_then}
use Rattle.motion.specs.Phase.{moved_all}

-- a count has a step left in the direction of a sign if the step ends within 24 bits
abbrev pub has_step : ℕ → Sign → Bool
has_step c Minus = ltb 0 c
has_step c Rest = true
has_step c Plus = ltb (c + 1) full

abbrev pub have_steps : Counters → Signs → Bool
have_steps c s = on_all (λ i. has_step (on i c) (shows i s))

-- the counters with one pulse's signs, or that one of them has no such step
unfoldable pub step_to : Counters → Signs → Option Counters
step_to c s = pick (have_steps c s) (Some (moved_all c s)) None

-- a pulse with where it leads, or nothing
abbrev pub moved_paper : Option Counters → Paper
moved_paper (Some c) = says 1 (point_then c [])
moved_paper None = says 5 []
