-- Stands in contracts of functions that are not exported: nothing of it need be believed. The check at `9` over marks, all in ℕ. Its laws:
-- proofs/laws/Clean.antt; and proofs/laws/Marks.antt joins it to Check.
use Rattle.std.specs.Prelude.{ℕ, ◌+◌, Bool, not, ◌&&◌, ◌||◌, ltb, leb}
use Rattle.std.specs.Bool.{beq}
use Rattle.count.specs.Pick.{pick}
use Rattle.program.specs.Verdict.{Verdict}
use Rattle.program.specs.Check.{some, tally, fault_from}

-- the mark of a place is counted from 32,768 places before place 0
abbrev pub mark : ℕ → ℕ
mark p = p + 32768

-- `loop i`: place i is a loop; `far i`: the mark of where place i leads to
module _ (loop : ℕ → Bool) (far : ℕ → ℕ) where
  -- the range of the loop at place i holds the place of mark m
  unfoldable pub holds : ℕ → ℕ → Bool
  holds i m = (loop i && leb (far i) m) && leb m (mark i)

  -- the range of i and a range from mark f to a later place overlap with neither holding the other
  unfoldable pub meets : ℕ → ℕ → Bool
  meets i f = (loop i && ltb (far i) f) && leb f (mark i)

  unfoldable pub early : ℕ → Bool
  early p = loop p && ltb (far p) 32768

  unfoldable pub overlaps : ℕ → Bool
  overlaps p = loop p && some p (λ i. meets i (far p))

  unfoldable pub holders : ℕ → ℕ → ℕ
  holders n p = tally n (λ i. holds i (mark p))

unfoldable pub outside : (ℕ → Bool) → (ℕ → ℕ) → ℕ → ℕ → Bool
outside turn far n p = turn p && (ltb (far p) 32768 || ltb (mark n) (far p))

-- `turn i`: place i is a jump or a wait
module _ (loop turn : ℕ → Bool) (far : ℕ → ℕ) (n : ℕ) where
  unfoldable pub strays : ℕ → Bool
  strays p = turn p && some n (λ i. not (beq (holds loop far i (mark p)) (holds loop far i (far p))))

  unfoldable pub letter : ℕ → ℕ
  letter p =
      pick (outside turn far n p) 97
      (pick (early loop far p) 98
      (pick (overlaps loop far p) 99
      (pick (ltb 7 (holders loop far n p)) 100
      (pick (strays p) 101 0))))

  unfoldable pub checked : Verdict
  checked = fault_from letter n 0
