-- Laws of floats that the library does not have: a sign turned on both sides of an order and through a rounding, and zero through the operations. Assumes nothing.
use mathlib.Core.Path.{◌≡◌, refl, sym, ◌∙◌}
use mathlib.Core.Bool.{Bool, true, false, not, ◌&&◌, ◌||◌, cond}
use Prim.Native.Nat.{ℕ, zero, suc, ◌+◌, ◌*◌, ◌<◌, ◌^◌}
use native.Mathlib.Nat.{add_comm}
use native.Mathlib.Omega.{arith}
use lib.Dec.{ltb, eqb}
use lib.IntN.{pos}
use lib.Ieee.{Float, nan, inf, fin, Format, binary64, prec, emax, low, up, down, odd, units, round, neg, below, level, lt, eq, le}
use lib.Ieee.Scale.{round_same}
use borrow.Author.Tests.{eqb-true, eqb-false, eq-eqb, ne_eqb}

-- ---- the order with both signs turned

eqb-turn : (a b : ℕ) → eqb b a ≡ eqb a b
eqb-turn a b = go (eqb a b) refl
  where
    go : (t : Bool) → eqb a b ≡ t → eqb b a ≡ t
    go true e = eq-eqb b a (sym (eqb-true a b e))
    go false e = ne_eqb b a (λ (h : b ≡ a). eqb-false a b e (sym h))

-- two sizes that are the same are both 0 or neither
zero_turn : (a b : ℕ) → eqb b a && eqb b 0 ≡ eqb a b && eqb a 0
zero_turn a b = go (eqb a b) refl
  where
    go : (t : Bool) → eqb a b ≡ t → eqb b a && eqb b 0 ≡ t && eqb a 0
    go true e = rw (eqb-true a b e, eq-eqb b b refl)
    go false e = rw (eqb-turn a b, e)

turn : (s t : Bool) (a b : ℕ) → below (not t) b (not s) a || level (not t) b (not s) a ≡ below s a t b || level s a t b
turn false false a b = rw (eqb-turn a b)
turn false true a b = zero_turn a b
turn true false a b = rw (add_comm b a, zero_turn a b)
turn true true a b = rw (eqb-turn a b)

pub le-neg : (x y : Float) → le (neg y) (neg x) ≡ le x y
unfolding le lt eq neg
le-neg nan nan = refl
le-neg nan (inf t) = refl
le-neg nan (fin t n d) = refl
le-neg (inf s) nan = refl
le-neg (inf true) (inf true) = refl
le-neg (inf true) (inf false) = refl
le-neg (inf false) (inf true) = refl
le-neg (inf false) (inf false) = refl
le-neg (inf true) (fin t n d) = refl
le-neg (inf false) (fin t n d) = refl
le-neg (fin s m e) nan = refl
le-neg (fin s m e) (inf true) = refl
le-neg (fin s m e) (inf false) = refl
le-neg (fin s m e) (fin t n d) = turn s t (m * up e * down d) (n * up d * down e)

pub neg-neg : (x : Float) → neg (neg x) ≡ x
unfolding neg
neg-neg nan = refl
neg-neg (inf true) = refl
neg-neg (inf false) = refl
neg-neg (fin true m e) = refl
neg-neg (fin false m e) = refl

-- ---- the sign through a rounding

odd-neg : (d : ℕ) (s : Bool) (q k l : ℕ) → odd d (not s) q k l ≡ neg (odd d s q k l)
unfolding odd neg
odd-neg d s zero k l = refl
odd-neg d s (suc q) k l = refl

units-neg : (f : Format) (s : Bool) (q k : ℕ) → units f (not s) q k ≡ neg (units f s q k)
unfolding units neg
units-neg f s q k = go (ltb (q * 2 ^ k) (2 ^ (low f + suc (emax f))))
  where
    go : (b : Bool) → cond b (odd (suc (prec f)) (not s) q k (low f)) (inf (not s)) ≡ neg (cond b (odd (suc (prec f)) s q k (low f)) (inf s))
    go true = odd-neg (suc (prec f)) s q k (low f)
    go false = unfold neg in refl

pub round-neg : (f : Format) (s : Bool) (a b : ℕ) → round f (not s) a b ≡ neg (round f s a b)
unfolding round
round-neg f s a b = units-neg f s _ _

-- ---- zero

pub zero-rounds : (s : Bool) (a c : ℕ) → 0 < c → a ≡ 0 → round binary64 s a c ≡ fin s 0 (pos 0)
unfolding round
zero-rounds s a c h e = round_same binary64 s a c 0 1 h (omega arith) (omega arith) ∙ by s
  where
    by : (s : Bool) → round binary64 s 0 1 ≡ fin s 0 (pos 0)
    by true = refl
    by false = refl
