-- A pattern's sign, and a float that is no NaN. Assumes nothing.
use mathlib.Core.Path.{◌≡◌, refl, sym, ap, ◌∙◌, subst}
use mathlib.Core.Bool.{Bool, true, false, not, cond}
use Prim.Native.Nat.{ℕ, zero, suc, ◌+◌, ◌*◌, ◌/◌, ◌%◌, ◌^◌, ◌≤◌}
use native.Mathlib.Omega.{arith}
use lib.Dec.{T, leb, eqb}
use lib.Ieee.{Float, nan, inf, fin, binary64, odd, of_fields, of_bits, to_bits, fits, is_nan}
use lib.Ieee.Bits.{of_bits-to_bits}
use lib.Ieee.Exact.{HasValue, odd_sign}
use Rattle.sheet.specs.Sheet.{signed}
use Rattle.sheet.specs.work.Work.{capped, capped_whole}
use Rattle.sheet.proofs.Pattern.{of_bits_is}

pub only_nan : (x : Float) → is_nan x ≡ true → x ≡ nan
unfolding is_nan
only_nan nan h = refl
only_nan (inf s) h = cc
only_nan (fin s m e) h = cc

abbrev pub Signed : Bool → Float → Type 0
Signed s nan = ⊥
Signed s (inf t) = t ≡ s
Signed s (fin t m e) = t ≡ s

by_sign : (s : Bool) (y : Float) → Signed s y → signed s (capped y) ≡ capped_whole y
unfolding capped_whole capped
by_sign s nan h = absurd h
by_sign s (inf t) h = rw h
by_sign s (fin t m e) h = rw h

pub of-value : (s : Bool) (y : Float) (a c : ℕ) → HasValue y s a c → Signed s y
of-value s nan a c h = absurd h
of-value s (inf t) a c h = absurd h
of-value s (fin t m e) a c h = h.0

has-sign : (s : Bool) (x t : ℕ) → T (not (is_nan (of_fields binary64 s x t))) → Signed s (of_fields binary64 s x t)
unfolding of_fields is_nan
has-sign s zero t h = of-value s (odd 53 s t 0 1074) (t * 2 ^ 0) (2 ^ 1074) (odd_sign 53 s t 0 1074)
has-sign s (suc j) t h = go (eqb (suc j) 2047) (eqb t 0) h
  where
    v : Float
    v = odd 53 s (2 ^ 52 + t) j 1074

    go : (a b : Bool) → T (not (is_nan (cond a (cond b (inf s) nan) v))) → Signed s (cond a (cond b (inf s) nan) v)
    go true true h = refl
    go true false h = absurd h
    go false b h = of-value s v ((2 ^ 52 + t) * 2 ^ j) (2 ^ 1074) (odd_sign 53 s (2 ^ 52 + t) j 1074)

-- a float's pattern has its sign on top
pub from-pattern : (x : Float) → T (fits binary64 x) → T (not (is_nan x)) → (n : ℕ) → n ≡ capped (of_bits binary64 (to_bits binary64 x))
    → signed (leb (2 ^ 63) (to_bits binary64 x)) n ≡ capped_whole x
from-pattern x F h n e =
    let b = to_bits binary64 x in
    let s = leb (2 ^ 63) b in
    let is : x ≡ of_fields binary64 s (b / 2 ^ 52 % 2048) (b % 2 ^ 52) = sym (of_bits-to_bits binary64 x F) ∙ of_bits_is b in
    let sg : Signed s x = subst (λ (y : Float). Signed s y) (sym is) (has-sign s (b / 2 ^ 52 % 2048) (b % 2 ^ 52) (subst (λ (y : Float). T (not (is_nan y))) is h)) in
    ap (λ (k : ℕ). signed s k) (e ∙ ap capped (of_bits-to_bits binary64 x F)) ∙ by_sign s x sg

-- a cut size is small
pub capped_small : (x : Float) → capped x ≤ 16777216
unfolding capped
capped_small nan = omega arith
capped_small (inf s) = omega arith
capped_small (fin s m e) = omega arith
