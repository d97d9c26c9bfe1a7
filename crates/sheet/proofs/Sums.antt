-- Sums of whole numbers as the machine holds them: an order with a term moved to its other side, and the sizes that fit. Assumes nothing.
use mathlib.Core.Path.{◌≡◌, refl, sym, ap, ◌∙◌}
use mathlib.Core.Bool.{Bool, true, false, cond}
use Prim.Native.Nat.{ℕ, zero, suc, ◌+◌, ◌-◌, ◌≤◌, ◌<◌, ◌^◌}
use native.Mathlib.Omega.{arith}
use lib.Dec.{T, leb, ltb, leb-suc-suc, le→leb, lt→ltb}
use lib.Ieee.{binary64, in_float}
use lib.IntN.{ℤ, pos, negsuc, neg_ℤ, sub_ℕ, ◌+ℤ◌, ◌-ℤ◌, +ℤ_assoc, +ℤ_comm, neg_ℤ-+ℤ, neg_ℤ-neg_ℤ}
use lib.Signed.{le_z, non_neg, mag}
use mir.Syntax.{w32, w64}
use mir.Val.{SFits, to_z, of_z}
use mir.ValLaws.{to_z-of_z}
use borrow.Author.Tests.{leb-true, ltb-true, ltb-false, le-leb, lt-leb}
use Rattle.count.specs.Numbers.{within}
use Rattle.count.proofs.laws.Truth.{and_left}
use Rattle.sheet.specs.Chain.{sum_right}

-- ---- a ≤ b exactly if b - a is not negative

sub-sign : (a b : ℕ) → non_neg (sub_ℕ a b) ≡ leb b a
sub-sign a b = go (ltb a b) refl
  where
    go : (t : Bool) → ltb a b ≡ t → non_neg (cond t (negsuc (b - suc a)) (pos (a - b))) ≡ leb b a
    go true e = let l : a < b = ltb-true a b e in sym (lt-leb b a l)
    go false e = let l : b ≤ a = ltb-false a b e in sym (le-leb b a l)

le_is : (a b : ℤ) → le_z a b ≡ non_neg (b -ℤ a)
le_is (pos zero) (pos b) = le-leb 0 b (omega arith)
le_is (pos (suc a)) (pos b) = sym (sub-sign b (suc a))
le_is (pos zero) (negsuc b) = sym (sub-sign 0 (suc b) ∙ lt-leb (suc b) 0 (omega arith))
le_is (pos (suc a)) (negsuc b) = refl
le_is (negsuc a) (pos b) = refl
le_is (negsuc a) (negsuc b) = sym (sub-sign (suc a) (suc b) ∙ leb-suc-suc b a)

-- ---- a term on the other side

pub move_low : (a s t : ℤ) → le_z (a -ℤ s) t ≡ le_z a (s +ℤ t)
move_low a s t = le_is (a -ℤ s) t ∙ ap non_neg same ∙ sym (le_is a (s +ℤ t))
  where
    same : t -ℤ (a -ℤ s) ≡ (s +ℤ t) -ℤ a
    same =
        ap (λ (z : ℤ). t +ℤ z) (neg_ℤ-+ℤ a (neg_ℤ s) ∙ ap (λ (z : ℤ). neg_ℤ a +ℤ z) (neg_ℤ-neg_ℤ s) ∙ +ℤ_comm (neg_ℤ a) s)
        ∙ sym (+ℤ_assoc t s (neg_ℤ a))
        ∙ ap (λ (z : ℤ). z +ℤ neg_ℤ a) (+ℤ_comm t s)

pub move_high : (b s t : ℤ) → le_z t (b -ℤ s) ≡ le_z (s +ℤ t) b
move_high b s t = le_is t (b -ℤ s) ∙ ap non_neg same ∙ sym (le_is (s +ℤ t) b)
  where
    same : (b -ℤ s) -ℤ t ≡ b -ℤ (s +ℤ t)
    same = +ℤ_assoc b (neg_ℤ s) (neg_ℤ t) ∙ ap (λ (z : ℤ). b +ℤ z) (sym (neg_ℤ-+ℤ s t))

-- ---- sizes

sub-size : (a b : ℕ) → mag (sub_ℕ a b) ≤ a + b
sub-size a b = go (ltb a b) refl
  where
    go : (t : Bool) → ltb a b ≡ t → mag (cond t (negsuc (b - suc a)) (pos (a - b))) ≤ a + b
    go true e = omega arith
    go false e = omega arith

plus-size : (x y : ℤ) → mag (x +ℤ y) ≤ mag x + mag y + 1
plus-size (pos a) (pos b) = omega arith
plus-size (pos a) (negsuc b) = omega (arith, sub-size a (suc b))
plus-size (negsuc a) (pos b) = omega (arith, sub-size b (suc a))
plus-size (negsuc a) (negsuc b) = omega arith

minus-size : (x y : ℤ) → mag (x -ℤ y) ≤ mag x + mag y + 2
minus-size x y = omega (arith, plus-size x (neg_ℤ y), turned y)
  where
    turned : (y : ℤ) → mag (neg_ℤ y) ≤ mag y + 1
    turned (pos zero) = omega arith
    turned (pos (suc n)) = omega arith
    turned (negsuc n) = omega arith

-- a sum that is right is small
pub sum-size : (t : ℤ) → sum_right t ≡ true → mag t ≤ 1000000000
unfolding sum_right within
sum-size (pos n) h = leb-true n 1000000000 h
sum-size (negsuc n) h = omega (arith, leb-true n 999999999 (and_left (leb n 999999999) true h))

pub sum_fits : (t : ℤ) → sum_right t ≡ true → SFits w64 t
sum_fits t h = record { sfits = omega (arith, sum-size t h) }

pub low_fits : (s : ℤ) → sum_right s ≡ true → SFits w64 (negsuc 999999999 -ℤ s)
low_fits s h = record { sfits = omega (arith, sum-size s h, minus-size (negsuc 999999999) s) }

pub high_fits : (s : ℤ) → sum_right s ≡ true → SFits w64 (pos 1000000000 -ℤ s)
high_fits s h = record { sfits = omega (arith, sum-size s h, minus-size (pos 1000000000) s) }

-- a term that fits is read back as it is, and so is the sum with it where that is right
pub made : (s t : ℤ) → SFits w64 t → s +ℤ to_z w64 (of_z w64 t) ≡ s +ℤ t
made s t f = ap (λ (z : ℤ). s +ℤ z) (to_z-of_z w64 t f)

pub made-is : (s t : ℤ) → SFits w64 t → sum_right (s +ℤ t) ≡ true → to_z w64 (of_z w64 (s +ℤ to_z w64 (of_z w64 t))) ≡ s +ℤ t
made-is s t f h = ap (λ (z : ℤ). to_z w64 (of_z w64 z)) (made s t f) ∙ to_z-of_z w64 (s +ℤ t) (sum_fits (s +ℤ t) h)

-- a float counts so far without a gap
pub sum_exact : (t : ℤ) → sum_right t ≡ true → T (in_float binary64 t)
unfolding in_float
sum_exact (pos n) h = le→leb n (2 ^ 53) (omega (arith, sum-size (pos n) h))
sum_exact (negsuc n) h = lt→ltb n (2 ^ 53) (omega (arith, sum-size (negsuc n) h))

-- ---- numbers of 32 bits as such of 64, and their differences

pub wider : (z : ℤ) → SFits w32 z → SFits w64 z
wider z h = record { sfits = omega (arith, h.sfits) }

pub gap-fits : (x y : ℤ) → SFits w32 x → SFits w32 y → SFits w64 (x -ℤ y)
gap-fits x y h g = record { sfits = omega (arith, h.sfits, g.sfits, minus-size x y) }
