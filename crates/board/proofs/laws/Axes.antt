-- The numbers of axes lines, n and N: those that are allowed are bytes, and what an axes line sets is known where what was set is. Assumes
-- nothing.
use Prim.Native.Nat.{ℕ, ◌<◌}
use mathlib.Core.Path.{◌≡◌, refl, sym, ◌∙◌}
use mathlib.Core.Bool.{Bool, true, false, not, ◌&&◌, ◌||◌}
use native.Mathlib.Omega.{arith}
use borrow.Author.Tests.{eqb-true, leb-true}
use lib.Dec.{eqb, leb}
use lib.IntN.{pos}
use Rattle.count.specs.Pick.{pick}
use Rattle.count.specs.Numbers.{within, signed}
use Rattle.count.specs.declared.Axis.TheVariants.{X, A}
use Rattle.count.specs.Axes.{has}
use Rattle.count.proofs.laws.Laws.{within-up}
use Rattle.count.proofs.laws.Truth.{never, and_left, and_right}
use Rattle.record.specs.Fault.{named_by}
use Rattle.engine.specs.declared.Engine.{Engine}
use Rattle.engine.specs.State.{beside_a, turntable_of, anew_of, axes_of}
use Rattle.engine.specs.Sound.{axes_known}
use Rattle.board.specs.Direct.{axes_allowed}

-- ---- an axes line

one_of : (w : ℕ) (a b c d r : Bool) → eqb w 1 ≡ a → eqb w 3 ≡ b → eqb w 7 ≡ c → eqb w 8 ≡ d → a || b || c || (d && r) ≡ true → w < 256
one_of w true b c d r p q s t e = omega (arith, eqb-true w 1 p)
one_of w false true c d r p q s t e = omega (arith, eqb-true w 3 q)
one_of w false false true d r p q s t e = omega (arith, eqb-true w 7 s)
one_of w false false false true r p q s t e = omega (arith, eqb-true w 8 t)
one_of w false false false false r p q s t e = never e

pub allowed-small : (axes w : ℕ) → axes_allowed axes w ≡ true → w < 256
allowed-small axes w e = one_of w _ _ _ _ (not (eqb axes 1 || eqb axes 3)) refl refl refl refl e

-- A beside axes that are known, but not 1 or 3
beside-by : (axes : ℕ) (z a b c d f : Bool) → eqb axes 0 ≡ z → eqb axes 1 ≡ a → eqb axes 3 ≡ b → eqb axes 7 ≡ c → eqb axes 8 ≡ d → eqb axes 15 ≡ f
    → z || (a || b || c || d || f) ≡ true → not (a || b) ≡ true → axes_known (beside_a axes) ≡ true
beside-by axes true a b c d f p q r s t u e g = rw (eqb-true axes 0 p)
beside-by axes false true b c d f p q r s t u e g = never g
beside-by axes false false true c d f p q r s t u e g = never g
beside-by axes false false false true d f p q r s t u e g = rw (eqb-true axes 7 s)
beside-by axes false false false false true f p q r s t u e g = rw (eqb-true axes 8 t)
beside-by axes false false false false false true p q r s t u e g = rw (eqb-true axes 15 u)
beside-by axes false false false false false false p q r s t u e g = never e

-- what it sets
known_by : (z a b c d f : Bool) → a || b || c || d ≡ true → d ≡ false → z || (a || b || c || d || f) ≡ true
known_by true a b c d f e g = refl
known_by false true b c d f e g = refl
known_by false false true c d f e g = refl
known_by false false false true d f e g = refl
known_by false false false false true f e g = refl
known_by false false false false false f e g = never e

module _ (e : Engine) (w : ℕ) where
  allowed-by : (b : Bool) → eqb w 8 ≡ b → axes_known e.axes ≡ true → eqb w 1 || eqb w 3 || eqb w 7 || (b && not (eqb e.axes 1 || eqb e.axes 3)) ≡ true
      → axes_known (pick b (turntable_of e) (anew_of w e)).axes ≡ true
  allowed-by true p k h = beside-by e.axes _ _ _ _ _ _ refl refl refl refl refl refl k (eight (eqb w 1) (eqb w 3) (eqb w 7) _ one three seven h)
    where
      one : eqb w 1 ≡ false
      one = rw (eqb-true w 8 p)

      three : eqb w 3 ≡ false
      three = rw (eqb-true w 8 p)

      seven : eqb w 7 ≡ false
      seven = rw (eqb-true w 8 p)

      eight : (a b c d : Bool) → a ≡ false → b ≡ false → c ≡ false → a || b || c || (true && d) ≡ true → d ≡ true
      eight true b c d q r s t = never (sym q)
      eight false true c d q r s t = never (sym r)
      eight false false true d q r s t = never (sym s)
      eight false false false d q r s t = t
  allowed-by false p k h = known_by (eqb w 0) (eqb w 1) (eqb w 3) (eqb w 7) (eqb w 8) (eqb w 15) (rw p h) p

  pub allowed-known : axes_known e.axes ≡ true → axes_allowed e.axes w ≡ true → axes_known (axes_of w e).axes ≡ true
  allowed-known k h = allowed-by (eqb w 8) refl k h

-- ---- n and N

pub named-below : (axes w : ℕ) → named_by axes (signed w) ≡ true → w < 256
unfolding named_by
named-below axes w e = by (has axes X && within (pos 1) (pos 7) (signed w) && within (pos 1) (pos axes) (signed w)) refl e
  where
    up_to : (least most : ℕ) → most < 256 → within (pos least) (pos most) (signed w) ≡ true → w < 256
    up_to least most l g = omega (arith, l, leb-true w most (and_right (leb least w) (leb w most) (sym (within-up least most w (omega (arith, l))) ∙ g)))

    by : (t : Bool) → has axes X && within (pos 1) (pos 7) (signed w) && within (pos 1) (pos axes) (signed w) ≡ t
        → t || (has axes A && within (pos 8) (pos 8) (signed w)) ≡ true → w < 256
    by true p q = up_to 1 7 (omega arith) (and_right (has axes X) _ (and_left (has axes X && within (pos 1) (pos 7) (signed w)) _ p))
    by false p q = up_to 8 8 (omega arith) (and_right (has axes A) _ q)
