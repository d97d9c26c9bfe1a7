-- `reader::size_of` meets its contract: the loop keeps what the digits left come to, and that the size has so many digits.
use Rattle.std.proofs.Common.{arith, sym, ◌∙◌}
use Rattle.reader.proofs.laws.Fields.{size_none, size-stops, size-goes, size_room, size-more}
use Rattle.reader.proofs.fields.size_of.Goals as goal

pub returns-then-not-is_ascii_digit : goal.returns-then-not-is_ascii_digit
returns-then-not-is_ascii_digit c =
    sym (c.loop-b.invariant.left ∙ size-stops c.args.digits.now c.loop-b.b-index c.loop-b.size (omega arith) (sym c.is_ascii_digit.ensures.value ∙ c.if-not-is_ascii_digit.true))

pub overflow_mul-size : goal.overflow_mul-size
overflow_mul-size c = record { fits = omega (arith, size_room c.loop-b.b-index c.loop-b.size (omega (arith, c.requires)) c.loop-b.invariant.few) }

pub overflow_add-size : goal.overflow_add-size
overflow_add-size c = record { fits = omega (arith, size_room c.loop-b.b-index c.loop-b.size (omega (arith, c.requires)) c.loop-b.invariant.few, c.from.ensures, c.if-not-is_ascii_digit.ensures.cases) }

pub loop-b-preserved : goal.loop-b-preserved
loop-b-preserved c = record {
  few = size-more c.loop-b.b-index c.loop-b.size c.from.result c.loop-b.invariant.few (omega (arith, c.from.ensures, c.if-not-is_ascii_digit.ensures.cases));
  left = c.loop-b.invariant.left ∙ size-goes c.args.digits.now c.loop-b.b-index c.loop-b.size (omega arith) (sym c.is_ascii_digit.ensures.value ∙ c.if-not-is_ascii_digit.false) ∙ rw (← c.from.ensures);
}

pub returns : goal.returns
returns c = sym (c.loop-b.invariant.left ∙ size_none c.args.digits.now c.loop-b.b-index c.loop-b.size (omega arith))
