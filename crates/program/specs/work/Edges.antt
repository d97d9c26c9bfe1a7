-- Stands in contracts of functions that are not exported: nothing of it need be believed. The edges of a program over marks, all in ℕ. Its
-- laws: proofs/laws/Edges.antt.
use Rattle.std.specs.Prelude.{ℕ, Bool, true, false, ◌&&◌, List, eqb, get_or}
use Rattle.program.specs.Verdict.{Verdict, Sound, Fault, Unreadable}
use Rattle.program.specs.Check.{some}
use Rattle.program.specs.Edges.{Acceptance, acceptance}

-- the place is of this kind: 1 a loop, 2 a jump or wait
abbrev pub kind_is : List ℕ → ℕ → ℕ → Bool
kind_is ks kind i = eqb (get_or ks i 0) kind

-- at some of n places that a test finds, the mark m is led to
unfoldable pub leads : (ℕ → Bool) → (ℕ → ℕ) → ℕ → ℕ → Bool
leads test far m n = some n (λ i. test i && eqb (far i) m)

abbrev pub told_of : Verdict → Bool → Bool → Acceptance
told_of Sound out first = acceptance true out first
told_of (Fault a p) out first = acceptance false false false
told_of Unreadable out first = acceptance false false false
