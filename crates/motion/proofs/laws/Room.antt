-- What the functions that change a count ask of it: that a sign fits on a count of 32 bits. Every count of a movement has room for the
-- sign of its next pulse, sound or not (the law `room_of`), so that no exported function asks it.
use mathlib.Core.Path.{◌≡◌, refl}
use mathlib.Core.Bool.{Bool, true, false}
use Prim.Native.Nat.{ℕ, ◌+◌, ◌*◌, ◌≤◌, ◌<◌}
use native.Mathlib.Nat.{mul-le-mul_right, mul-le-mul_left}
use native.Mathlib.Omega.{arith}
use lib.Dec.{ltb}
use borrow.Author.Tests.{ltb-true, ltb-false}
use Rattle.count.specs.Pick.{pick}
use Rattle.count.specs.Numbers.{far}
use Rattle.motion.specs.declared.Sign.{Sign}
use Rattle.motion.specs.declared.Sign.TheVariants.{Minus, Rest, Plus}
use Rattle.motion.specs.work.Here.{sign_here}
use Rattle.motion.specs.work.Room.{RoomFor}

-- an axis that moves has not reached its end: its count has room for the step
module _ (at from to k n : ℕ) (l : k < n) (f : far from to ≤ n) (a : at ≤ 4294967295) (b : from ≤ 4294967295) (e : to ≤ 4294967295) where
  near : 2 * n * (far from at + 1) ≤ 2 * (k + 1) * far from to + n → far from at < far from to
  near h = by_cases (ltb (far from at) (far from to)) refl
    where
      by_cases : (t : Bool) → ltb (far from at) (far from to) ≡ t → far from at < far from to
      by_cases true g = ltb-true _ _ g
      by_cases false g =
          let q = ltb-false (far from at) (far from to) g in
          absurd (omega (arith, mul-le-mul_left n q, mul-le-mul_right (far from to) l))

  room_by : (t u : Bool) → ltb (2 * (k + 1) * far from to + n) (2 * n * (far from at + 1)) ≡ t → ltb to from ≡ u
      → RoomFor at (pick t Rest (pick u Minus Plus))
  room_by true u p q = omega arith
  room_by false true p q = omega (arith, near (ltb-false _ _ p), ltb-true to from q)
  room_by false false p q = omega (arith, near (ltb-false _ _ p), ltb-false to from q)

  pub room-here : RoomFor at (sign_here at from to k n)
  unfolding sign_here
  room-here = room_by (ltb (2 * (k + 1) * far from to + n) (2 * n * (far from at + 1))) (ltb to from) refl refl

  -- the same of the sign that the code has
  pub room_of : {s : Sign} → s ≡ sign_here at from to k n → RoomFor at s
  room_of p = rw p room-here
