-- The whole part of a root, and what the code asks in its place by squares. Assumes nothing.
use mathlib.Core.Path.{◌≡◌, refl, sym}
use mathlib.Core.Bool.{Bool, true, false, ◌&&◌}
use Prim.Native.Nat.{ℕ, zero, suc, ◌+◌, ◌-◌, ◌*◌, ◌≤◌, ◌<◌}
use native.Mathlib.Nat.{mul-le-mul_right, mul-le-mul_left}
use native.Mathlib.Omega.{arith}
use lib.Dec.{ltb, leb}
use borrow.Author.Tests.{lt-ltb, le-ltb, le-leb, lt-leb, ltb-true, ltb-false, leb-true, leb-false}
use Rattle.count.specs.Pick.{pick}
use Rattle.count.specs.Numbers.{full}
use Rattle.circle.specs.Plan.{root_up_to, root, reaches}

-- squares keep the order
pub square-up : (a b : ℕ) → a ≤ b → a * a ≤ b * b
square-up a b h = omega (arith, mul-le-mul_right a h, mul-le-mul_left b h)

-- ---- what the root is

pub record Rooted (r n : ℕ) : Type 0 where
  pub low : r * r ≤ n
  pub high : n < (r + 1) * (r + 1)

-- from a number whose next has a square above n
module _ (k n : ℕ) (rec : n < (k + 1) * (k + 1) → Rooted (root_up_to k n) n) (h : n < (suc k + 1) * (suc k + 1)) where
  down_by : (b : Bool) → leb (suc k * suc k) n ≡ b → Rooted (pick b (suc k) (root_up_to k n)) n
  down_by true e = record { low = leb-true (suc k * suc k) n e; high = h }
  down_by false e = rec (omega (arith, leb-false (suc k * suc k) n e))

root-down : (k n : ℕ) → n < (k + 1) * (k + 1) → Rooted (root_up_to k n) n
unfolding root_up_to
root-down zero n h = record { low = omega arith; high = omega arith }
root-down (suc k) n h = down_by k n (root-down k n) h (leb (suc k * suc k) n) refl

enough : (n : ℕ) → n < (n + 1) * (n + 1)
enough n = omega arith

pub rooted : (n : ℕ) → Rooted (root n) n
rooted n = root-down n n (enough n)

-- there is one only
pub root-one : (n r s : ℕ) → Rooted r n → Rooted s n → r ≡ s
root-one n r s p q = by (ltb r s) (ltb s r) refl refl
  where
    by : (a b : Bool) → ltb r s ≡ a → ltb s r ≡ b → r ≡ s
    by true b e f = absurd (omega (arith, p.high, q.low, square-up (r + 1) s (omega (arith, ltb-true r s e))))
    by false true e f = absurd (omega (arith, q.high, p.low, square-up (s + 1) r (omega (arith, ltb-true s r f))))
    by false false e f = omega (arith, ltb-false r s e, ltb-false s r f)

-- ---- compared by squares

-- a number above the root has a square above n, and the reverse
pub above_root : (n m : ℕ) → leb (root n + 1) m ≡ ltb n (m * m)
above_root n m = by (leb (root n + 1) m) refl
  where
    by : (b : Bool) → leb (root n + 1) m ≡ b → b ≡ ltb n (m * m)
    by true e = sym (lt-ltb n (m * m) (omega (arith, (rooted n).high, square-up (root n + 1) m (leb-true (root n + 1) m e))))
    by false e = sym (le-ltb n (m * m) (omega (arith, (rooted n).low, square-up m (root n) (omega (arith, leb-false (root n + 1) m e)))))

-- what a distance of at most the root and one more has
pub near-root : (n d : ℕ) → leb d (root n + 1) ≡ leb ((d - 1) * (d - 1)) n
near-root n d = by (leb d (root n + 1)) refl
  where
    by : (b : Bool) → leb d (root n + 1) ≡ b → b ≡ leb ((d - 1) * (d - 1)) n
    by true e = sym (le-leb ((d - 1) * (d - 1)) n (omega (arith, (rooted n).low, square-up (d - 1) (root n) (omega (arith, leb-true d (root n + 1) e)))))
    by false e = sym (lt-leb ((d - 1) * (d - 1)) n (omega (arith, (rooted n).high, square-up (root n + 1) (d - 1) (omega (arith, leb-false d (root n + 1) e)))))

-- the reach above a count
above-full : (r c : ℕ) → ltb (c + (r + 1)) full ≡ leb (r + 1) (16777215 - c)
above-full r c = by (ltb (c + (r + 1)) full) refl
  where
    by : (b : Bool) → ltb (c + (r + 1)) full ≡ b → b ≡ leb (r + 1) (16777215 - c)
    by true e = sym (le-leb (r + 1) (16777215 - c) (omega (arith, ltb-true (c + (r + 1)) full e)))
    by false e = sym (lt-leb (r + 1) (16777215 - c) (omega (arith, ltb-false (c + (r + 1)) full e)))

-- 9'S TEST needs no root
pub reaches-root : (n c : ℕ) → reaches (root n + 1) c ≡ ltb n (c * c) && ltb n ((16777215 - c) * (16777215 - c))
reaches-root n c = rw (above_root n c, above-full (root n) c, above_root n (16777215 - c))
