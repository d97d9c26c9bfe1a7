-- `program::accepting::accepts` meets its contract. Assumes nothing.
use mathlib.Core.Path.{ap, refl, ◌∙◌}
use mathlib.Core.Bool.{not}
use Rattle.program.proofs.Gather.{all_read, not-read}
use Rattle.program.proofs.Reading.{not-asked, asked, told-read, told-unread}
use Rattle.program.proofs.laws.Accepting.{sized-parts}
use Rattle.program.proofs.accepting.accepts.Goals as goal

pub returns-then-not-is_sized-axes_set : goal.returns-then-not-is_sized-axes_set
returns-then-not-is_sized-axes_set c = not-asked _ _ c.is_sized.ensures c.axes_set.ensures (ap not c.if-not-is_sized-axes_set.true)

pub decode-requires : goal.decode-requires
decode-requires c =
    let d = asked _ c.is_sized.ensures c.axes_set.ensures (ap not c.if-not-is_sized-axes_set.false) in
    ((sized-parts _ d.0).1, refl, refl)

pub invariant_of-told : goal.invariant_of-told
invariant_of-told c =
    let d = asked _ c.is_sized.ensures c.axes_set.ensures (ap not c.if-not-is_sized-axes_set.false) in
    record { few = (sized-parts _ d.0).1 }

pub returns-then-decode : goal.returns-then-decode
returns-then-decode c =
    let d = asked _ c.is_sized.ensures c.axes_set.ensures (ap not c.if-not-is_sized-axes_set.false) in
    c.told.ensures ∙ told-read _ _ _ _ d.0 d.1 (all_read _ _ (sized-parts _ d.0).1 _ _ c.if-decode.true c.decode.ensures)

pub returns : goal.returns
returns c =
    let d = asked _ c.is_sized.ensures c.axes_set.ensures (ap not c.if-not-is_sized-axes_set.false) in
    told-unread _ _ (not-read _ _ (sized-parts _ d.0).1 _ _ c.if-decode.false c.decode.ensures)
