-- Own place plus offset, as the code works it out on words; and that it is the sum of Onward. Assumes nothing.
use Prim.Native.Nat.{ℕ, suc, ◌+◌, ◌-◌, ◌≤◌, ◌<◌}
use mathlib.Core.Path.{◌≡◌, refl, ap}
use mathlib.Core.Bool.{Bool, true, false}
use native.Mathlib.Omega.{arith}
use borrow.Author.Tests.{le-leb}
use lib.Dec.{ltb, leb}
use lib.IntN.{ℤ}
use Rattle.count.specs.Pick.{pick}
use Rattle.count.specs.Numbers.{within, signed}
use Rattle.count.proofs.laws.Laws.{signed_low, signed_high, sub-pos, sub-neg}
use Rattle.std.specs.Prelude.{Some, None}
use Rattle.record.specs.declared.Record.{Record}
use lib.ListN.{get_or}
use lib.Dec.{eqb}
use Rattle.program.specs.declared.Loops.{Loops}
use Rattle.program.specs.Going.{Way, Waits}
use Rattle.program.specs.Onward.{inside, target_of, aimed, looped, went, to, wrong}
use Rattle.program.specs.work.Target.{leads}

module _ (place w end : ℕ) where
  pub leads-up : w < 2147483648 → leads place (signed w) end ≡ pick (leb (place + w) end) (Some (place + w)) None
  unfolding leads inside within
  leads-up h = rw (signed_low w h) (rw (le-leb 0 (place + w) (omega arith)))

  pub leads-below : 2147483648 ≤ w → place ≤ 4294967295 - w → leads place (signed w) end ≡ None
  unfolding leads inside within
  leads-below h l = rw (signed_high w h, sub-neg place (suc (4294967295 - w)) (omega arith))

  pub leads-down : 2147483648 ≤ w → 4294967295 - w < place
      → leads place (signed w) end ≡ pick (leb (place - (4294967295 - w) - 1) end) (Some (place - (4294967295 - w) - 1)) None
  unfolding leads inside within
  leads-down h l =
      let e : place - suc (4294967295 - w) ≡ place - (4294967295 - w) - 1 = omega arith in
      rw (signed_high w h, sub-pos place (suc (4294967295 - w)) (omega arith), e, le-leb 0 (place - (4294967295 - w) - 1) (omega arith))

-- ---- a jump, a loop or a wait, by where it leads

some-by : (b : Bool) (t u : ℕ) → pick b (Some t) None ≡ Some u → (b ≡ true) × (t ≡ u)
some-by true t u e = (refl, cc)
some-by false t u e = (cc, cc)

none-by : (b : Bool) (t : ℕ) → pick b (Some t) None ≡ None → b ≡ false
none-by true t e = cc
none-by false t e = refl

-- where a target inside sends a run
abbrev pub sends : ℕ → ℕ → Record → Loops → Way
sends place target r o =
    pick (eqb r.code 50) (went Waits (place + 1) target o)
    (pick (eqb (get_or r.words 0 0) 0) (to target o)
    (pick (ltb 32767 (get_or r.words 0 0)) (wrong o)
    (looped place target (get_or r.words 0 0) o)))

module _ (place end : ℕ) (offset : ℤ) (r : Record) (o : Loops) where
  pub aimed-in : (t : ℕ) → leads place offset end ≡ Some t → aimed place end offset r o ≡ sends place t r o
  unfolding leads aimed
  aimed-in t e =
      let d = some-by (inside place offset end) (target_of place offset) t e in
      rw d.0 (ap (λ (u : ℕ). sends place u r o) d.1)

  pub aimed-out : leads place offset end ≡ None → aimed place end offset r o ≡ wrong o
  unfolding leads aimed
  aimed-out e = rw (none-by (inside place offset end) (target_of place offset) e)
