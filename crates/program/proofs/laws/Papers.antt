-- A record that sends a run to wait has the code that is on paper. Assumes nothing.
use mathlib.Core.Path.{◌≡◌, refl}
use mathlib.Core.Bool.{Bool, true, false, ◌&&◌}
use Prim.Native.Nat.{ℕ, ◌+◌, ◌-◌}
use native.Mathlib.Omega.{arith}
use lib.Dec.{ltb, leb, eqb}
use lib.IntN.{ℤ}
use lib.ListN.{get_or, set}
use borrow.Author.Tests.{eqb-true}
use Rattle.count.specs.Pick.{pick}
use Rattle.count.specs.Ranges.{nth}
use Rattle.record.specs.declared.Record.{Record}
use Rattle.program.specs.declared.Loops.{Loops}
use Rattle.program.specs.Going.{Waits, Way}
use Rattle.program.specs.Onward.{counter, opened, last_of, went, to, wrong, inside, target_of, again, opens, looped, aimed, onward_of, going_paper}

module _ (r : Record) where
  -- a way that waits is a record of the code on paper
  record Coded (w : Way) : Type 0 where
    waits : w.going ≡ Waits → r.code ≡ (going_paper Waits).number

  or : {v w : Way} (t : Bool) → Coded v → Coded w → Coded (pick t v w)
  or true p q = p
  or false p q = q

  goes : (place : ℕ) (o : Loops) → Coded (to place o)
  goes place o = record { waits = λ e. (let z : ◌≡◌ {A = ℕ} 4 50 = cc in absurd (omega arith)) }

  fails : (o : Loops) → Coded (wrong o)
  fails o = record { waits = λ e. (let z : ◌≡◌ {A = ℕ} 71 50 = cc in absurd (omega arith)) }

  again-coded : (place target : ℕ) (o : Loops) → Coded (again place target o)
  unfolding again
  again-coded place target o =
      or (eqb (last_of o).left 0) (goes (place + 1) (opened (set o.at (o.depth - 1) (counter 0 0)) (o.depth - 1)))
      (goes target (opened (set o.at (o.depth - 1) (counter place ((last_of o).left - 1))) o.depth))

  opens-coded : (place target number : ℕ) (o : Loops) → Coded (opens place target number o)
  unfolding opens
  opens-coded place target number o =
      or (leb 7 o.depth) (fails o) (goes target (opened (set o.at o.depth (counter place (number - 1))) (o.depth + 1)))

  looped-coded : (place target number : ℕ) (o : Loops) → Coded (looped place target number o)
  unfolding looped
  looped-coded place target number o =
      or (ltb 7 o.depth) (fails o)
      (or (ltb 0 o.depth && eqb (last_of o).place place) (again-coded place target o) (opens-coded place target number o))

  -- the record's own code
  own : (t : Bool) (v : Way) {w : Way} → eqb r.code 50 ≡ t → Coded w → Coded (pick t v w)
  own true v e q = record { waits = λ x. eqb-true r.code 50 e }
  own false v e q = q

  aimed-coded : (place end : ℕ) (offset : ℤ) (o : Loops) → Coded (aimed place end offset r o)
  unfolding aimed
  aimed-coded place end offset o =
      or (inside place offset end)
      (own (eqb r.code 50) (went Waits (place + 1) (target_of place offset) o) refl
      (or (eqb (get_or r.words 0 0) 0) (goes (target_of place offset) o)
      (or (ltb 32767 (get_or r.words 0 0)) (fails o) (looped-coded place (target_of place offset) (get_or r.words 0 0) o))))
      (fails o)

  onward-coded : (place end : ℕ) (o : Loops) → Coded (onward_of r place end o)
  unfolding onward_of
  onward-coded place end o =
      or (leb end place) (fails o)
      (or (eqb r.code 51) (aimed-coded place end (nth r.words 1) o)
      (or (eqb r.code 50) (aimed-coded place end (nth r.words 1) o) (goes (place + 1) o)))

  -- A RECORD THAT LEADS TO A WAIT has the code on paper
  pub waits-paper : (place end : ℕ) (o : Loops) → (onward_of r place end o).going ≡ Waits → r.code ≡ (going_paper (onward_of r place end o).going).number
  waits-paper place end o e = rw e ((onward-coded place end o).waits e)
