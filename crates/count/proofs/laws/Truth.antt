-- Laws of truths that every crate cites: what `&&` and `||` say, and that no truth is the other. Assumes nothing.
use mathlib.Core.Path.{◌≡◌, refl, sym}
use mathlib.Core.Bool.{Bool, true, false, not, ◌&&◌, ◌||◌, false≢true}

pub never : {A : Type 0} → ◌≡◌ {A = Bool} false true → A
never e = absurd (false≢true e)

-- ---- what both tests say

pub and_left : (a b : Bool) → a && b ≡ true → a ≡ true
and_left true b e = refl
and_left false b e = e

pub and_right : (a b : Bool) → a && b ≡ true → b ≡ true
and_right true b e = e
and_right false b e = never e

pub and_parts : (a b : Bool) → a && b ≡ true → (a ≡ true) × (b ≡ true)
and_parts a b e = (and_left a b e, and_right a b e)

-- neither holds
pub or-false : {a b : Bool} → a || b ≡ false → (a ≡ false) × (b ≡ false)
or-false {a = true} e = never (sym e)
or-false {a = false} e = (refl, e)

-- ---- and what says both

pub both : {a b : Bool} → a ≡ true → b ≡ true → a && b ≡ true
both p q = rw (p, q)

pub and-not : (a b : Bool) → a ≡ true → b ≡ false → a && not b ≡ true
and-not a b p q = rw (p, q)

-- ---- beside a truth that is known

pub and-true : (b : Bool) → b && true ≡ b
and-true true = refl
and-true false = refl

pub and-false : (b : Bool) → b && false ≡ false
and-false true = refl
and-false false = refl
