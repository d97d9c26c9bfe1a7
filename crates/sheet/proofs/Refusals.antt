-- An answer is read back from its number, or from its refusal beside its value. Assumes nothing.
use mathlib.Core.Path.{◌≡◌, refl, sym, ap, ◌∙◌}
use Prim.Native.Nat.{ℕ}
use native.Mathlib.Omega.{arith}
use lib.Dec.{eqb}
use lib.IntN.{ℤ}
use Rattle.count.specs.Pick.{pick}
use Rattle.std.specs.Prelude.{Result, Ok, Err}
use Rattle.sheet.specs.declared.Refusal.{Refusal}
use Rattle.sheet.specs.declared.Refusal.TheVariants as why
use Rattle.sheet.specs.Sheet.{Converted}
use Rattle.sheet.specs.Refusal.{refusal_paper, number_of, converted}

-- the refusal of a number
abbrev numbered : ℕ → Refusal
numbered n = pick (eqb n 105) why.Length (pick (eqb n 201) why.Axis (pick (eqb n 202) why.Value why.Range))

back : (e : Refusal) → numbered (refusal_paper e).number ≡ e
back why.Length = refl
back why.Axis = refl
back why.Value = refl
back why.Range = refl

pub number-one : (e e' : Refusal) → (refusal_paper e).number ≡ (refusal_paper e').number → e ≡ e'
number-one e e' h = sym (back e) ∙ ap numbered h ∙ back e'

-- none is 0
pub number-some : (e : Refusal) → (refusal_paper e).number ≡ 0 → ⊥
number-some why.Length h = omega arith
number-some why.Axis h = omega arith
number-some why.Value h = omega arith
number-some why.Range h = omega arith

pub number_of-one : (r r' : Result (Unit {0}) Refusal) → number_of r ≡ number_of r' → r ≡ r'
number_of-one (Ok _) (Ok _) h = refl
number_of-one (Ok _) (Err e) h = absurd (number-some e (sym h))
number_of-one (Err e) (Ok _) h = absurd (number-some e h)
number_of-one (Err e) (Err e') h = ap Err (number-one e e' h)

pub converted-one : (r r' : Result ℤ Refusal) → converted r ≡ converted r' → r ≡ r'
converted-one (Ok z) (Ok z') h = ap (λ (c : Converted). Ok c.value) h
converted-one (Ok z) (Err e) h = absurd (number-some e (sym (ap (λ (c : Converted). c.refusal) h)))
converted-one (Err e) (Ok z) h = absurd (number-some e (ap (λ (c : Converted). c.refusal) h))
converted-one (Err e) (Err e') h = ap Err (number-one e e' (ap (λ (c : Converted). c.refusal) h))
