-- What the code's own tests rest on: products that fit, and the pulse of a phase from its parts. Assumes nothing.
use Rattle.std.specs.Prelude.{Some, None}
use mathlib.Core.Path.{◌≡◌}
use Prim.Native.Nat.{ℕ, ◌*◌, ◌≤◌, ◌<◌}
use native.Mathlib.Nat.{mul-le-mul_right, mul-le-mul_left}
use native.Mathlib.Omega.{arith}
use borrow.Author.Tests.{lt-ltb, le-ltb}
use Rattle.count.specs.Numbers.{far}
use Rattle.motion.specs.declared.Counters.{Counters}
use Rattle.motion.specs.declared.Signs.{Signs}
use Rattle.motion.specs.declared.Move.{Move}
use Rattle.motion.specs.declared.Beat.{Beat}
use Rattle.count.specs.declared.Axis.{Axis}
use Rattle.count.proofs.laws.Axes.{each_of}
use Rattle.motion.specs.Axes.{on}
use Rattle.motion.specs.Phase.{pulses}
use Rattle.motion.specs.work.Room.{NoFurther}
use Rattle.motion.specs.Next.{leg, from_of, to_of, signs_by, stepped}
use Rattle.motion.specs.work.Here.{sign_here, within_of}
use Rattle.motion.specs.work.Beat.{beat_of, beaten}
use Rattle.motion.proofs.laws.Pulses.{pulses-small, most-on}

-- products of the formula fit 64 bits
pub product : (k a p q : ℕ) → k ≤ p → a ≤ q → k * a ≤ p * q
product k a p q h l = omega (arith, mul-le-mul_right a h, mul-le-mul_left p l)

pub ready : (f t : Counters) (k n : ℕ) → n ≡ pulses f t → k < n → (n < 16777216) × NoFurther f t n
ready f t k n e l =
    let h : k < pulses f t = rw e at l in
    rw e (pulses-small f t, each_of (λ (i : Axis). far (on i f) (on i t) ≤ pulses f t) (most-on f t k h))

-- the pulse of a phase from its parts, as the code has them
module _ (m : Move) (at : Counters) {f t : Counters} {n : ℕ} (p : f ≡ from_of m) (q : t ≡ to_of m) (e : n ≡ pulses f t) where
  pub leg-is : n ≡ leg m
  leg-is = rw (e, p, q)

  pub beat-made : {s : Signs} {b : Beat} → m.made < n → s ≡ signs_by sign_here at f t m.made n → b ≡ beat_of (stepped m at s) → Some b ≡ beaten (within_of m at)
  unfolding within_of
  beat-made h u v =
      let l = leg-is in
      rw (v, u, l, p, q, lt-ltb m.made (leg m) (rw l at h))

  pub beat-over : n ≤ m.made → None ≡ beaten (within_of m at)
  unfolding within_of
  beat-over h =
      let l = leg-is in
      rw (le-ltb m.made (leg m) (rw l at h))
