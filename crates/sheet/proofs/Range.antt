-- From the cut whole number that the code keeps to the answer, and whole numbers as the machine holds them. Assumes nothing.
use mathlib.Core.Path.{◌≡◌, refl, sym, ap, ◌∙◌}
use mathlib.Core.Bool.{Bool, true, false, ◌&&◌}
use Prim.Native.Nat.{ℕ, zero, suc, ◌≤◌, ◌<◌, min}
use native.Mathlib.Omega.{arith}
use lib.Dec.{leb}
use lib.IntN.{ℤ, pos, negsuc, neg_ℤ, ◌-ℤ◌, +ℤ_idl}
use lib.Signed.{le_z}
use lib.Ieee.{Float, nan, inf, fin}
use mir.Syntax.{w32, w64}
use mir.Val.{SFits, to_z, of_z}
use mir.ValLaws.{to_z_pos, to_z-of_z}
use borrow.Author.Tests.{leb-true, leb-false, le-leb, lt-leb}
use Rattle.count.proofs.laws.Truth.{and_left, and_right}
use Rattle.sheet.specs.Sheet.{Converted, near, signed, refused, whole_steps, whole_speed, rounded}
use Rattle.sheet.specs.work.Work.{capped_whole}

-- what refuses every size from 2 ^ 24 up answers the same of a size and of the size cut there
cut : (f : ℕ → Converted) → ((k : ℕ) → 16777216 ≤ k → f k ≡ refused 203) → (k : ℕ) → f k ≡ f (min k 16777216)
cut f out k = go (leb k 16777216) refl
  where
    go : (b : Bool) → leb k 16777216 ≡ b → f k ≡ f (min k 16777216)
    go true e =
        let l : k ≤ 16777216 = leb-true k 16777216 e in
        let m : min k 16777216 ≡ k = omega arith in
        rw m
    go false e =
        let l : 16777216 < k = leb-false k 16777216 e in
        let m : min k 16777216 ≡ 16777216 = omega arith in
        out k (omega arith) ∙ sym (ap f m ∙ out 16777216 (omega arith))

-- a range that refuses the sizes from 2 ^ 24 up with either sign
abbrev Refuses : (ℤ → Converted) → Type 0
Refuses f = (s : Bool) (k : ℕ) → 16777216 ≤ k → f (signed s k) ≡ refused 203

by-cut : (f : ℤ → Converted) → Refuses f → (x : Float) → f (capped_whole x) ≡ rounded f x
unfolding rounded capped_whole
by-cut f out nan = out false 16777216 (omega arith)
by-cut f out (inf s) = out s 16777216 (omega arith)
by-cut f out (fin s m e) = sym (cut (λ (k : ℕ). f (signed s k)) (out s) (near m e))

steps-refuses : Refuses whole_steps
unfolding whole_steps
steps-refuses false k h = rw (lt-leb k 8388607 (omega arith))
steps-refuses true zero h = absurd (omega arith)
steps-refuses true (suc k) h = rw (lt-leb k 8388607 (omega arith))

speed-refuses : Refuses whole_speed
unfolding whole_speed
speed-refuses false k h = rw (le-leb 30 k (omega arith), lt-leb k 10000 (omega arith))
speed-refuses true zero h = absurd (omega arith)
speed-refuses true (suc k) h = refl

pub steps_by : (x : Float) → whole_steps (capped_whole x) ≡ rounded whole_steps x
steps_by x = by-cut whole_steps steps-refuses x

pub speed_by : (x : Float) → whole_speed (capped_whole x) ≡ rounded whole_speed x
speed_by x = by-cut whole_speed speed-refuses x

-- ---- a size as an i64 of either sign

pub plus-fits : (n : ℕ) → n ≤ 16777216 → SFits w64 (pos n)
plus-fits n h = record { sfits = omega arith }

minus_is : (n : ℕ) → n ≤ 16777216 → pos 0 -ℤ to_z w64 n ≡ neg_ℤ (pos n)
minus_is n h = rw (to_z_pos w64 n (omega arith)) (+ℤ_idl (neg_ℤ (pos n)))

neg-fits : (n : ℕ) → n ≤ 16777216 → SFits w64 (neg_ℤ (pos n))
neg-fits zero h = record { sfits = omega arith }
neg-fits (suc k) h = record { sfits = omega arith }

pub minus-fits : (n : ℕ) → n ≤ 16777216 → SFits w64 (pos 0 -ℤ to_z w64 n)
minus-fits n h = rw (minus_is n h) (neg-fits n h)

pub plus-back : (n : ℕ) → n ≤ 16777216 → to_z w64 n ≡ pos n
plus-back n h = to_z_pos w64 n (omega arith)

pub minus-back : (n : ℕ) → n ≤ 16777216 → to_z w64 (of_z w64 (pos 0 -ℤ to_z w64 n)) ≡ neg_ℤ (pos n)
minus-back n h = to_z-of_z w64 (pos 0 -ℤ to_z w64 n) (minus-fits n h) ∙ minus_is n h

signed-fits : (s : Bool) (n : ℕ) → n ≤ 16777216 → SFits w64 (signed s n)
signed-fits false n h = plus-fits n h
signed-fits true n h = neg-fits n h

-- what the machine reads back from a cut whole number is that number
pub capped_back : (x : Float) → to_z w64 (of_z w64 (capped_whole x)) ≡ capped_whole x
unfolding capped_whole
capped_back nan = to_z-of_z w64 (pos 16777216) (plus-fits 16777216 (omega arith))
capped_back (inf s) = to_z-of_z w64 (signed s 16777216) (signed-fits s 16777216 (omega arith))
capped_back (fin s m e) = to_z-of_z w64 (signed s (min (near m e) 16777216)) (signed-fits s (min (near m e) 16777216) (omega arith))

-- ---- a whole number in range as an i32

pub between-fits : (low z high : ℤ) → SFits w32 low → SFits w32 high → (le_z low z && le_z z high) ≡ true → SFits w32 z
between-fits low (pos k) (pos h) a b e = let l : k ≤ h = leb-true k h (and_right (le_z low (pos k)) (leb k h) e) in record { sfits = omega (arith, b.sfits) }
between-fits low (pos k) (negsuc h) a b e = let f : false ≡ true = and_right (le_z low (pos k)) false e in cc
between-fits (negsuc n) (negsuc k) high a b e = let l : k ≤ n = leb-true k n (and_left (leb k n) (le_z (negsuc k) high) e) in record { sfits = omega (arith, a.sfits) }
between-fits (pos n) (negsuc k) high a b e = let f : false ≡ true = and_left false (le_z (negsuc k) high) e in cc

pub steps-fit : (z : ℤ) → (le_z (negsuc 8388607) z && le_z z (pos 8388607)) ≡ true → SFits w32 z
steps-fit z h = between-fits (negsuc 8388607) z (pos 8388607) (record { sfits = omega arith }) (record { sfits = omega arith }) h
