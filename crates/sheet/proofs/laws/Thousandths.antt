-- A sum in thousandths of a mm as a distance in mm: it is the float nearest to the sum / 1,000, and 202 asks the same of both. Assumes nothing.
use mathlib.Core.Path.{◌≡◌, refl, sym, ap, subst, ◌∙◌}
use mathlib.Core.Bool.{Bool, true, false, ◌&&◌, cond}
use Prim.Native.Nat.{ℕ, suc, ◌+◌, ◌*◌, ◌≤◌, ◌<◌, ◌^◌}
use native.Mathlib.Omega.{arith}
use lib.Dec.{T, leb, ltb, leb-suc-suc}
use lib.IntN.{ℤ, pos, negsuc}
use lib.Ieee.{Float, nan, inf, fin, binary64, up, down, unlike, odd, units, round, of_int, neg, div, lt, eq, le}
use lib.Ieee.Fits.{down_pos}
use lib.Ieee.Exact.{HasValue, odd_sign}
use lib.Ieee.Back.{round_whole}
use lib.Ieee.Scale.{round_same}
use lib.Ieee.Order.{round_mono, kept, drop as dropped}
use lib.Ieee.Positive.{positive, le→cross, above_of_le, le_trans_positive, between as inbetween}
use borrow.Author.Tests.{leb-true, leb-false, lt-ltb}
use Rattle.count.specs.Numbers.{within}
use Rattle.count.proofs.laws.Truth.{and-true}
use Rattle.sheet.specs.Sheet.{float, minus_float, distance_right}
use Rattle.sheet.specs.Chain.{in_mm, sum_right}
use Rattle.sheet.proofs.Sign.{Signed, of-value}
use Rattle.sheet.proofs.laws.Floats.{le-neg, neg-neg, round-neg}

truth : (b : Bool) → T b → b ≡ true
truth true h = refl
truth false h = absurd h

-- ---- numbers that antt computes

thousand : float 1000 1 ≡ fin false 125 (pos 3)
unfolding float round
thousand = refl

abbrev bound : Float
bound = fin false 15625 (pos 6)

million : float 1000000 1 ≡ bound
unfolding float round
million = refl

minus-million : minus_float 1000000 1 ≡ neg bound
unfolding minus_float round neg
minus-million = refl

-- ---- the division

-- of what has the value n
divided : (x : Float) (s : Bool) (n : ℕ) → HasValue x s n 1 → div binary64 x (fin false 125 (pos 3)) ≡ round binary64 s n 1000
unfolding div
divided nan s n h = absurd h
divided (inf t) s n h = absurd h
divided (fin t m e) s n h = by t h.0
  where
    value : m * up e * 1 ≡ n * down e
    value = h.1

    by : (t : Bool) → t ≡ s → round binary64 (unlike t false) (m * up e * 1) (125 * 2 ^ 3 * down e) ≡ round binary64 s n 1000
    by true p = ap (λ (b : Bool). round binary64 b (m * up e * 1) (125 * 2 ^ 3 * down e)) p ∙ round_same binary64 s (m * up e * 1) (125 * 2 ^ 3 * down e) n 1000 (omega (arith, down_pos e)) (omega arith) (omega arith)
    by false p = ap (λ (b : Bool). round binary64 b (m * up e * 1) (125 * 2 ^ 3 * down e)) p ∙ round_same binary64 s (m * up e * 1) (125 * 2 ^ 3 * down e) n 1000 (omega (arith, down_pos e)) (omega arith) (omega arith)

-- one rounding: up to 2 ^ 53 thousandths, which is far beyond what 202 lets pass
pub one-rounding : (n : ℕ) → n ≤ 2 ^ 53 → in_mm (pos n) ≡ round binary64 false n 1000
unfolding in_mm of_int
one-rounding n h = rw thousand (divided (round binary64 false n 1) false n (round_whole binary64 false n h))

div-neg : (x : Float) → div binary64 (neg x) (fin false 125 (pos 3)) ≡ neg (div binary64 x (fin false 125 (pos 3)))
unfolding div neg
div-neg nan = refl
div-neg (inf true) = refl
div-neg (inf false) = refl
div-neg (fin true m e) = sym (neg-neg (round binary64 false (m * up e * 1) (125 * 2 ^ 3 * down e))) ∙ ap neg (sym (round-neg binary64 false (m * up e * 1) (125 * 2 ^ 3 * down e)))
div-neg (fin false m e) = round-neg binary64 false (m * up e * 1) (125 * 2 ^ 3 * down e)

-- a negative sum is the negation
pub minus-in-mm : (n : ℕ) → in_mm (negsuc n) ≡ neg (in_mm (pos (suc n)))
unfolding in_mm of_int
minus-in-mm n = rw thousand (ap (λ (x : Float). div binary64 x (fin false 125 (pos 3))) (round-neg binary64 false (suc n) 1) ∙ div-neg (round binary64 false (suc n) 1))

-- ---- signs

units-sign : (s : Bool) (q k : ℕ) → Signed s (units binary64 s q k)
unfolding units
units-sign s q k = go (ltb (q * 2 ^ k) (2 ^ (1074 + 1024)))
  where
    go : (b : Bool) → Signed s (cond b (odd 54 s q k 1074) (inf s))
    go true = of-value s (odd 54 s q k 1074) (q * 2 ^ k) (2 ^ 1074) (odd_sign 54 s q k 1074)
    go false = refl

round-sign : (s : Bool) (a b : ℕ) → Signed s (round binary64 s a b)
unfolding round
round-sign s a b = units-sign s (kept 53 (a * 2 ^ 1074) b) (dropped 53 (a * 2 ^ 1074) b)

divided-sign : (x : Float) → Signed false x → Signed false (div binary64 x (fin false 125 (pos 3)))
unfolding div
divided-sign nan h = absurd h
divided-sign (inf t) h = rw h
divided-sign (fin t m e) h = rw h (round-sign false (m * up e * 1) (125 * 2 ^ 3 * down e))

-- ---- 202

-- the two bounds of 01 change places with the sign
turned : (x : Float) → distance_right (neg x) ≡ distance_right x
unfolding distance_right
turned x =
    let low : le (neg bound) (neg x) ≡ le x bound = le-neg x bound in
    let high : le (neg x) bound ≡ le (neg bound) x = ap (λ (y : Float). le (neg x) y) (sym (neg-neg bound)) ∙ le-neg (neg bound) x in
    rw (minus-million, million, low, high) (and-turn (le x bound) (le (neg bound) x))
  where
    and-turn : (a b : Bool) → a && b ≡ b && a
    and-turn true true = refl
    and-turn true false = refl
    and-turn false true = refl
    and-turn false false = refl

-- a sum that is not negative is above the lower bound
above : (x : Float) → Signed false x → le (neg bound) x ≡ true
unfolding le lt eq neg
above nan h = absurd h
above (inf t) h = rw h
above (fin t n d) h = rw (h, lt-ltb 0 (1000000 * down d + n * up d * 1) (omega (arith, down_pos d)))

not-minus : (n : ℕ) → Signed false (in_mm (pos n))
unfolding in_mm of_int
not-minus n = rw thousand (divided-sign (round binary64 false n 1) (round-sign false n 1))

plain : (n : ℕ) → distance_right (in_mm (pos n)) ≡ le (in_mm (pos n)) bound
unfolding distance_right
plain n = rw (minus-million, million, above (in_mm (pos n)) (not-minus n))

-- up to 1,000,000,000 thousandths it is at most 1,000,000 mm
inside : (n : ℕ) → n ≤ 1000000000 → le (in_mm (pos n)) bound ≡ true
inside n h =
    let most : round binary64 false 1000000 1 ≡ bound = unfold float in million in
    truth (le (in_mm (pos n)) bound) (rw (one-rounding n (omega arith), ← most) (round_mono binary64 n 1000 1000000 1 (omega arith) (omega arith) (omega arith)))

-- from there on it is more

-- the least sum that is more, and its mm
least : round binary64 false 1000000001 1 ≡ fin false 1000000001 (pos 0)
unfolding round
least = refl

abbrev over : Float
over = round binary64 false 1000000001 1000

over-is : le over bound ≡ false
unfolding round le
over-is = refl

over-positive : T (positive over)
unfolding round
over-positive = tt

-- z is no less than that
more : (z : Float) → T (le over z) → le z bound ≡ false
more z h = go (le z bound) refl
  where
    go : (b : Bool) → le z bound ≡ b → b ≡ false
    go false e = refl
    go true e =
        let k : T (le z bound) = subst T (sym e) tt in
        let p : T (positive z) = inbetween over z bound over-positive tt h k in
        let q : T (le over bound) = le_trans_positive over z bound over-positive p tt h k in
        absurd (subst T over-is q)

beyond : (y : Float) → T (le (fin false 1000000001 (pos 0)) y) → le (div binary64 y (fin false 125 (pos 3))) bound ≡ false
unfolding div le lt eq
beyond nan h = absurd h
beyond (inf true) h = absurd h
beyond (inf false) h = refl
beyond (fin true m e) h = absurd (above_of_le (fin false 1000000001 (pos 0)) (fin true m e) tt h)
beyond (fin false m e) h =
    let c : 1000000001 * 1 * down e ≤ m * up e * 1 = le→cross (fin false 1000000001 (pos 0)) (fin false m e) tt (above_of_le (fin false 1000000001 (pos 0)) (fin false m e) tt h) h in
    more (round binary64 false (m * up e * 1) (125 * 2 ^ 3 * down e)) (round_mono binary64 1000000001 1000 (m * up e * 1) (125 * 2 ^ 3 * down e) (omega arith) (omega (arith, down_pos e)) (omega arith))

outside : (n : ℕ) → 1000000000 < n → le (in_mm (pos n)) bound ≡ false
unfolding in_mm of_int
outside n h = rw thousand (by (round binary64 false n 1) (round_mono binary64 1000000001 1 n 1 (omega arith) (omega arith) (omega arith)))
  where
    by : (y : Float) → T (le (round binary64 false 1000000001 1) y) → le (div binary64 y (fin false 125 (pos 3))) bound ≡ false
    by y h = beyond y (rw least at h)

-- 202 of a sum is 202 of its mm
right-size : (n : ℕ) → leb n 1000000000 ≡ distance_right (in_mm (pos n))
right-size n = go (leb n 1000000000) refl ∙ sym (plain n)
  where
    go : (b : Bool) → leb n 1000000000 ≡ b → b ≡ le (in_mm (pos n)) bound
    go true e = sym (inside n (leb-true n 1000000000 e))
    go false e = sym (outside n (leb-false n 1000000000 e))

pub sum-is-distance : (t : ℤ) → sum_right t ≡ distance_right (in_mm t)
unfolding sum_right within
sum-is-distance (pos n) = right-size n
sum-is-distance (negsuc n) = and-true (leb n 999999999) ∙ sym (leb-suc-suc n 999999999) ∙ right-size (suc n) ∙ sym (ap distance_right (minus-in-mm n) ∙ turned (in_mm (pos (suc n))))
