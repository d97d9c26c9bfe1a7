-- A chain as the code goes through it: one link for each distance, with the sum and the result before it in hand. The definition of 02 is in `Chain.antt` and
-- uses nothing of this. Definitions only.
use Rattle.std.specs.Prelude.{ℕ, not, List, [], ◌∷◌, eqb, ℤ, ◌+ℤ◌, ◌-ℤ◌, Result, Ok, Err}
use Rattle.count.specs.Pick.{pick}
use Rattle.sheet.specs.declared.Axis.{Axis}
use Rattle.sheet.specs.declared.Refusal.{Refusal}
use Rattle.sheet.specs.declared.Refusal.TheVariants.{Range}
use Rattle.sheet.specs.declared.chains.Link as made
use Rattle.sheet.specs.Sheet.{whole_steps}
use Rattle.sheet.specs.Chain.{result_of, sum_right}

-- the later refusal, if there is one, else the earlier
abbrev pub noted : ℕ → ℕ → ℕ
noted earlier later = pick (eqb later 0) earlier later

-- the refusal, or 0, the result at a sum, and how far it is from the result before
pub record Link : Type 0 where
  pub refusal : ℕ
  pub result : ℤ
  pub step : ℤ

-- what the code makes of it
abbrev pub made_of : Link → Result made.Link Refusal
made_of k = pick (eqb k.refusal 0) (Ok (record { result = k.result; step = k.step })) (Err Range)

-- the result at a sum, and how far it is from the result before it
unfoldable pub link_of : Axis → ℤ → ℤ → Link
link_of a before t =
    let r = result_of a t in
    let d = whole_steps (r.value -ℤ before) in
    record { refusal = noted d.refusal r.refusal; result = r.value; step = d.value }

-- the result at a sum, if nothing was refused before it
abbrev pub result_after : Axis → Result ℤ Refusal → ℤ → Result ℤ Refusal
result_after a (Ok before) t = pick (eqb (link_of a before t).refusal 0) (Ok (link_of a before t).result) (Err Range)
result_after a (Err e) t = Err e

-- 202 at the first sum that is not right, else what the links noted
unfoldable pub fault_from : Axis → ℤ → ℤ → ℕ → List ℤ → ℕ
fault_from a before sum fault [] = fault
fault_from a before sum fault (t ∷ l) =
    let k = link_of a before (sum +ℤ t) in
    pick (not (sum_right (sum +ℤ t))) 202 (fault_from a k.result (sum +ℤ t) (noted fault k.refusal) l)

unfoldable pub steps_from : Axis → ℤ → ℤ → List ℤ → List ℤ
steps_from a before sum [] = []
steps_from a before sum (t ∷ l) = (link_of a before (sum +ℤ t)).step ∷ steps_from a (link_of a before (sum +ℤ t)).result (sum +ℤ t) l
