-- A size with its sign, in 64 bits or not, as a conversion that may fail tests it.
use Rattle.std.proofs.Common.{◌≡◌, Bool, true, false, ℕ, ℤ, pos, negsuc, Result, Ok, Err, Some, None, FitsSigned, w64, refl, ap, ◌-ℤ◌, neg_ℤ, to_z, of_z, arith, ◌^◌, ◌<◌, zero, suc}
use Rattle.std.specs.Int.{w128}
use Rattle.std.proofs.lemmas.Int.{ints}
use mir.ValLaws.{to_z-of_z}
use Rattle.std.specs.Result.{OkIff, result_ok}
use Rattle.std.proofs.lemmas.Bool.{leb-true, leb-false}
use Rattle.count.specs.Pick.{pick}
use Rattle.count.specs.Numbers.{within, with_sign}
use Rattle.count.proofs.laws.Truth.{and-true}
use Rattle.reader.specs.Fields.{in64}
use Rattle.reader.specs.work.Sizes.{sized_whole}

fits_from_in64 : (z : ℤ) → in64 z ≡ true → FitsSigned w64 z
unfolding within
fits_from_in64 (pos n) h = record { sfits = omega (arith, leb-true n 9223372036854775807 h) }
fits_from_in64 (negsuc n) h = record { sfits = omega (arith, leb-true n 9223372036854775807 (rw and-true at h)) }

not_in64 : (z : ℤ) → in64 z ≡ false → FitsSigned w64 z → ⊥
unfolding within
not_in64 (pos n) h f = omega (arith, leb-false n 9223372036854775807 h, f.sfits)
not_in64 (negsuc n) h f = omega (arith, leb-false n 9223372036854775807 (rw and-true at h), f.sfits)

pub sized_by : {E : Type 0} (minus : Bool) (n : ℕ) (z : ℤ) (r : Result ℤ E) → z ≡ with_sign minus n → OkIff r (FitsSigned w64 z) z → result_ok r ≡ sized_whole minus n
unfolding sized_whole
sized_by {E = E} minus n z r e p = rw (← e) (go (in64 z) refl r p)
  where
    go : (t : Bool) → in64 z ≡ t → (r : Result ℤ E) → OkIff r (FitsSigned w64 z) z → result_ok r ≡ pick t (Some z) None
    go true h (Ok x) p = ap Some p.1
    go true h (Err x) p = absurd (p (fits_from_in64 z h))
    go false h (Ok x) p = absurd (not_in64 z h p.0)
    go false h (Err x) p = refl

-- a size of 64 bits with a minus, at 128
pub minus_wide : (n : ℕ) → n < 2 ^ 64 → to_z w128 (of_z w128 (pos 0 -ℤ to_z w128 (of_z w128 (pos n)))) ≡ neg_ℤ (pos n)
minus_wide n h = rw (to_z-of_z w128 (pos n) (record { sfits = omega arith })) (go n h)
  where
    less : (n : ℕ) → pos 0 -ℤ pos n ≡ neg_ℤ (pos n)
    less n = omega (arith, ints)

    go : (n : ℕ) → n < 2 ^ 64 → to_z w128 (of_z w128 (pos 0 -ℤ pos n)) ≡ neg_ℤ (pos n)
    go zero h = refl
    go (suc k) h = rw (less (suc k)) (to_z-of_z w128 (negsuc k) (record { sfits = omega arith }))
