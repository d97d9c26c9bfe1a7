-- The next pulse by the test on where an axis stands, as the code makes it, without a division. `Move::next` and `Move::within` cite it;
-- on a movement that 103 lets pass it is the pulse of Next (the laws `here-is-at` and `next-is-pulse`), which the board and every promise
-- cite.
use Rattle.motion.specs.declared.Stepped.{Stepped}
use Rattle.std.specs.Prelude.{ℕ, ◌+◌, ◌*◌, ltb, Option}
use Rattle.count.specs.Pick.{pick}
use Rattle.count.specs.Numbers.{far}
use Rattle.motion.specs.declared.Sign.{Sign}
use Rattle.motion.specs.declared.Sign.TheVariants.{Rest}
use Rattle.motion.specs.declared.Counters.{Counters}
use Rattle.motion.specs.declared.Move.{Move}
use Rattle.motion.specs.Phase.{towards}
use Rattle.motion.specs.Next.{within_by, next_by}

-- at count `at` the axis has made s = |at - from| steps, and the pulse after pulse k makes one more exactly if 2n·(s + 1) ≤ 2(k + 1)·d + n
unfoldable pub sign_here : ℕ → ℕ → ℕ → ℕ → ℕ → Sign
sign_here at from to k n = pick (ltb (2 * (k + 1) * far from to + n) (2 * n * (far from at + 1))) Rest (towards from to)

-- the next pulse of a movement
unfoldable pub next_of : Move → Counters → Option Stepped
next_of m at = next_by sign_here m at

-- of the phase under way alone
unfoldable pub within_of : Move → Counters → Option Stepped
within_of m at = within_by sign_here m at
