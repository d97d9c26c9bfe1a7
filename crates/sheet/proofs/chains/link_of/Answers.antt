-- `sheet::chains::link_of` meets its contract. Assumes nothing.
use mathlib.Core.Path.{◌≡◌, sym, ap, ◌∙◌, subst}
use lib.IntN.{ℤ, ◌-ℤ◌}
use mir.Syntax.{w32, w64}
use mir.Val.{SFits, to_z, of_z}
use mir.ValLaws.{to_z-of_z}
use Rattle.std.proofs.lemmas.Result.{err_from_is_err_and}
use Rattle.std.specs.Prelude.{Ok, Err}
use Rattle.sheet.specs.declared.Axis.{Axis}
use Rattle.sheet.specs.declared.Refusal.{Refusal}
use Rattle.sheet.specs.declared.Refusal.TheVariants.{Range}
use Rattle.sheet.specs.Sheet.{Converted, found, refused, whole_steps}
use Rattle.sheet.specs.Refusal.{refusal_paper}
use Rattle.sheet.specs.Chain.{result_of}
use Rattle.sheet.specs.work.Links.{link_of, made_of}
use Rattle.sheet.proofs.Refusals.{number-one, number-some}
use Rattle.sheet.proofs.Sums.{wider, gap-fits}
use Rattle.sheet.proofs.Turns.{result_fits, whole-fits}
use Rattle.sheet.proofs.laws.Links.{Outcome, taken, out, whole-outcome, result-outcome}
use Rattle.sheet.proofs.chains.link_of.Goals as goal

-- the refusal of a conversion is of its range
range : (e : Refusal) (c : Converted) → refused (refusal_paper e).number ≡ c → Outcome c → e ≡ Range
range e c h (taken z k g) = absurd (number-some e (ap (λ (x : Converted). x.refusal) (h ∙ g)))
range e c h (out g) = number-one e Range (ap (λ (x : Converted). x.refusal) (h ∙ g))

module _ (a : Axis) (before t : ℤ) where
  no-result : (e : Refusal) → refused (refusal_paper e).number ≡ result_of a t → Err e ≡ made_of (link_of a before t)
  unfolding link_of
  no-result e h = let k : e ≡ Range = range e (result_of a t) h (result-outcome a t) in rw (← h, k)

  module _ (z : ℤ) (h : found z ≡ result_of a t) where
    no-step : (e : Refusal) → refused (refusal_paper e).number ≡ whole_steps (z -ℤ before) → Err e ≡ made_of (link_of a before t)
    unfolding link_of
    no-step e g = let k : e ≡ Range = range e (whole_steps (z -ℤ before)) g (whole-outcome (z -ℤ before)) in rw (← h, ← g, k)

    both : (d : ℤ) → found d ≡ whole_steps (z -ℤ before) → Ok (record { result = z; step = d }) ≡ made_of (link_of a before t)
    unfolding link_of
    both d g = rw (← h, ← g)

    result-fits : SFits w32 z
    result-fits = subst (λ (c : Converted). SFits w32 c.value) (sym h) (result_fits a t)

-- two numbers of 32 bits are read back as they are, and so is their difference in 64
far-is : (x y : ℤ) → SFits w32 x → SFits w32 y
    → to_z w64 (of_z w64 (to_z w64 (of_z w64 (to_z w32 (of_z w32 x))) -ℤ to_z w64 (of_z w64 (to_z w32 (of_z w32 y))))) ≡ x -ℤ y
far-is x y h g =
    rw (
      to_z-of_z w32 x h,
      to_z-of_z w32 y g,
      to_z-of_z w64 x (wider x h),
      to_z-of_z w64 y (wider y g),
      to_z-of_z w64 (x -ℤ y) (gap-fits x y h g),
    )

pub returns-in_err-result : goal.returns-in_err-result
returns-in_err-result c =
    let p = err_from_is_err_and c.from_residual.result c.from_residual.ensures.1 in
    let h = rw (to_z-of_z w64 c.args.sum c.ranges.sum) at c.in_err-result.ensures in
    rw (p.1, p.2) (no-result c.args.axis c.args.before c.args.sum c.in_err-result.field-0.0 h)

pub returns-in_err-step : goal.returns-in_err-step
returns-in_err-step c =
    let p = err_from_is_err_and c.from_residual-in_err-step.result c.from_residual-in_err-step.ensures.1 in
    let z = c.in_ok-result.result in
    let before = c.args.before in
    let h : found z ≡ result_of c.args.axis c.args.sum = rw (to_z-of_z w64 c.args.sum c.ranges.sum) at c.in_ok-result.ensures in
    let far : to_z w64 (of_z w64 (to_z w64 (of_z w64 c.from.result) -ℤ to_z w64 (of_z w64 c.from-2.result))) ≡ z -ℤ before = rw (c.from.ensures, c.from-2.ensures) (far-is z before (result-fits c.args.axis before c.args.sum z h) c.ranges.before) in
    rw (p.1, p.2) (no-step c.args.axis before c.args.sum z h c.in_err-step.field-0.0 (c.in_err-step.ensures ∙ ap whole_steps far))

pub returns : goal.returns
returns c =
    let z = c.in_ok-result.result in
    let d = c.in_ok-step.step in
    let before = c.args.before in
    let h : found z ≡ result_of c.args.axis c.args.sum = rw (to_z-of_z w64 c.args.sum c.ranges.sum) at c.in_ok-result.ensures in
    let fits : SFits w32 z = result-fits c.args.axis before c.args.sum z h in
    let far : to_z w64 (of_z w64 (to_z w64 (of_z w64 c.from.result) -ℤ to_z w64 (of_z w64 c.from-2.result))) ≡ z -ℤ before = rw (c.from.ensures, c.from-2.ensures) (far-is z before fits c.ranges.before) in
    let g : found d ≡ whole_steps (z -ℤ before) = c.in_ok-step.ensures ∙ ap whole_steps far in
    let small : SFits w32 d = subst (λ (x : Converted). SFits w32 x.value) (sym g) (whole-fits (z -ℤ before)) in
    rw (to_z-of_z w32 z fits, to_z-of_z w32 d small) (both c.args.axis before c.args.sum z h d g)
