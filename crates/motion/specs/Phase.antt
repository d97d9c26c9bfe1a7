-- One phase of a movement (01, "Movement", paragraph 2): how many pulses it has, and what each of them does to an axis.
use Rattle.std.specs.Prelude.{ℕ, ◌+◌, ◌-◌, ◌*◌, ◌/◌, List, ltb, eqb, ℤ, pos, negsuc}
use Rattle.count.specs.Chars.{ch}
use Rattle.count.specs.Pick.{pick}
use Rattle.count.specs.Numbers.{far}
use Rattle.count.specs.Axes.{greatest, each_then}
use Rattle.motion.specs.declared.Sign.{Sign}
use Rattle.motion.specs.declared.Sign.TheVariants.{Minus, Rest, Plus}
use Rattle.motion.specs.declared.Signs.{Signs}
use Rattle.motion.specs.declared.Counters.{Counters}
use Rattle.motion.specs.Axes.{on, point, shows}

-- the greatest distance of an axis between two resting points
abbrev pub most : Counters → Counters → ℕ
most from to = greatest (λ i. far (on i from) (on i to))

-- the pulses of a phase, n: the greatest distance. A phase with a distance beyond 24 bits, which no sound movement has, has none.
unfoldable pub pulses : Counters → Counters → ℕ
pulses from to = pick (ltb 16777215 (most from to)) 0 (most from to)

-- after pulse k of n an axis of distance d has made (2k·d + n) divided by 2n, rounded down, steps; in a phase without a pulse none
unfoldable pub steps : ℕ → ℕ → ℕ → ℕ
steps k d n = pick (eqb n 0) 0 ((2 * k * d + n) / (2 * n))

-- a step in the sign of the distance
abbrev pub towards : ℕ → ℕ → Sign
towards from to = pick (ltb to from) Minus Plus

-- 01's rule: what the pulse after pulse k of n shows on an axis that goes from one count to another. Without a pulse that is rest.
unfoldable pub sign_at : ℕ → ℕ → ℕ → ℕ → Sign
sign_at k from to n = pick (eqb (steps (k + 1) (far from to) n) (steps k (far from to) n)) Rest (towards from to)

-- and where that axis stands after pulse k of n. Without a pulse that is where it was.
unfoldable pub count_after : ℕ → ℕ → ℕ → ℕ → ℕ
count_after k from to n = pick (ltb to from) (from - steps k (far from to) n) (from + steps k (far from to) n)

-- a count with one pulse's sign
abbrev pub moved : ℕ → Sign → ℕ
moved c Minus = c - 1
moved c Rest = c
moved c Plus = c + 1

-- the counters with one pulse's signs
abbrev pub moved_all : Counters → Signs → Counters
moved_all c s = point (λ i. moved (on i c) (shows i s))

-- a sign as a number, and as it is printed
abbrev pub sign_value : Sign → ℤ
sign_value Minus = negsuc 0
sign_value Rest = pos 0
sign_value Plus = pos 1

abbrev pub sign_byte : Sign → ℕ
sign_byte Minus = ch "-"
sign_byte Rest = ch "."
sign_byte Plus = ch "+"

-- the numbers of a pulse, x, y, z and a, before others
abbrev pub signs_then : Signs → List ℤ → List ℤ
signs_then s l = each_then (λ i. sign_value (shows i s)) l
