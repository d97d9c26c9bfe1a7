-- Stands in contracts of functions that are not exported: nothing of it need be believed. Its laws: proofs/laws/Room.antt.
use Rattle.std.specs.Prelude.{ℕ, ◌≤◌, ◌<◌}
use Rattle.motion.specs.declared.Sign.{Sign}
use Rattle.motion.specs.declared.Sign.TheVariants.{Minus, Rest, Plus}
use Rattle.motion.specs.declared.Signs.{Signs}
use Rattle.motion.specs.declared.Counters.{Counters}
use Rattle.count.specs.Numbers.{far}
use Rattle.count.specs.Axes.{Each}
use Rattle.motion.specs.Axes.{on, shows}

abbrev pub RoomFor : ℕ → Sign → Type 0
RoomFor c Minus = 0 < c
RoomFor c Rest = 0 ≤ c
RoomFor c Plus = c < 4294967295

abbrev pub HasRoom : Counters → Signs → Type 0
HasRoom c s = Each (λ i. RoomFor (on i c) (shows i s))

-- no axis has further to go than a phase has pulses
abbrev pub NoFurther : Counters → Counters → ℕ → Type 0
NoFurther from to n = Each (λ i. far (on i from) (on i to) ≤ n)
