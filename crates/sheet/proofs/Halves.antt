-- A number of digits divided by a power of two: the rest decides whether the nearest whole number is the quotient or one more. Assumes nothing.
use mathlib.Core.Path.{◌≡◌, sym, ap, ◌∙◌}
use Prim.Native.Nat.{ℕ, ◌+◌, ◌-◌, ◌*◌, ◌/◌, ◌%◌, ◌^◌, ◌≤◌, ◌<◌}
use native.Mathlib.Nat.{div-eq_of_lt-le, div-add-mod', mod-lt, div-le_self}
use native.Mathlib.Omega.{arith}
use lib.Pow.{pow-add, pow_pos, shl_exact}
use mir.Syntax.{w64}
use mir.Val.{Fits}
use Rattle.sheet.specs.Sheet.{half_up}

-- q is k units and a rest r, and the unit two halves
down_by : (q u h k r : ℕ) → u ≡ 2 * h → k * u + r ≡ q → r < h → half_up q u ≡ k
unfolding half_up
down_by q u h k r e d l = div-eq_of_lt-le (2 * u) (omega arith) (omega arith)

up_by : (q u h k r : ℕ) → u ≡ 2 * h → k * u + r ≡ q → r < u → h ≤ r → half_up q u ≡ k + 1
unfolding half_up
up_by q u h k r e d g l = div-eq_of_lt-le (2 * u) (omega arith) (omega arith)

-- the unit as the code makes it
pub unit_is : (p : ℕ) → p ≤ 53 → (1 * 2 ^ p) % 2 ^ 64 ≡ 2 ^ p
unit_is p h = shl_exact 1 p 64 (omega arith) (omega arith) ∙ once (2 ^ p)
  where
    once : (k : ℕ) → 1 * k ≡ k
    once k = omega arith

module _ (q p : ℕ) (some : 0 < p) where
  two-halves : 2 ^ p ≡ 2 * (2 ^ p / 2)
  two-halves = even (2 ^ p) (2 ^ (p - 1)) (ap (λ (k : ℕ). 2 ^ k) (last p some) ∙ pow-add 2 (p - 1) 1)
    where
      even : (n k : ℕ) → n ≡ k * 2 ^ 1 → n ≡ 2 * (n / 2)
      even n k e = omega arith

      last : (p : ℕ) → 0 < p → p ≡ p - 1 + 1
      last p h = omega arith

  pub down : q % 2 ^ p < 2 ^ p / 2 → q / 2 ^ p ≡ half_up q (2 ^ p)
  down l = sym (down_by q (2 ^ p) (2 ^ p / 2) (q / 2 ^ p) (q % 2 ^ p) two-halves (div-add-mod' q (2 ^ p)) l)

  pub up : 2 ^ p / 2 ≤ q % 2 ^ p → q / 2 ^ p + 1 ≡ half_up q (2 ^ p)
  up l = sym (up_by q (2 ^ p) (2 ^ p / 2) (q / 2 ^ p) (q % 2 ^ p) two-halves (div-add-mod' q (2 ^ p)) (mod-lt q (pow_pos p)) l)

pub one_more : (q p : ℕ) → q < 2 ^ 53 → Fits w64 (q / 2 ^ p + 1)
one_more q p h = record { fits = room (q / 2 ^ p) (div-le_self q (2 ^ p)) }
  where
    room : (k : ℕ) → k ≤ q → k + 1 < 2 ^ 64
    room k g = omega arith
