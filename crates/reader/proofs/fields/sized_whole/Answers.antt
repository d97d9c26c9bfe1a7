-- `reader::sized_whole` meets its contract: a conversion to 64 bits fails where the number is outside.
use Rattle.std.proofs.Common.{Bool, true, false, ℤ, pos, ◌-ℤ◌, to_z, of_z, ◌∙◌, sym, ap, refl, arith}
use Rattle.std.specs.Int.{w128}
use Rattle.reader.specs.work.Sizes.{sized_whole}
use Rattle.reader.proofs.laws.Size.{sized_by, minus_wide}
use Rattle.reader.proofs.fields.sized_whole.Goals as goal

pub returns-then-minus : goal.returns-then-minus
returns-then-minus c =
    let e = ap (λ (z : ℤ). to_z w128 (of_z w128 (pos 0 -ℤ to_z w128 (of_z w128 z)))) c.from.ensures ∙ minus_wide c.args.size (omega (arith, c.ranges.size.fits)) in
    c.ok.ensures.value ∙ sized_by true c.args.size _ _ e c.try_from.ensures ∙ ap (λ (m : Bool). sized_whole m c.args.size) (sym c.if-minus.true)

pub returns-else-minus : goal.returns-else-minus
returns-else-minus c = c.ok-else-minus.ensures.value ∙ sized_by false c.args.size _ _ refl c.try_from-else-minus.ensures ∙ ap (λ (m : Bool). sized_whole m c.args.size) (sym c.if-minus.false)
