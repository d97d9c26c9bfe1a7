-- `circle::Arc::beat_in` meets its contract. Assumes nothing.
use mathlib.Core.Path.{sym, ◌∙◌}
use mathlib.Core.Bool.{◌&&◌}
use Rattle.count.proofs.laws.Truth.{and_left}
use Rattle.circle.proofs.laws.Work.{counted-parts, all-counted, signs-are, beat-past, beat-out, beat-none, beat-to}
use Rattle.circle.proofs.Arc.beat_in.Goals as goal

pub returns-then-self-made : goal.returns-then-self-made
returns-then-self-made c = let a = c.args in beat-past a.self a.made a.at c.if-self-made.true

pub returns-then-not-counted_at-is_counted : goal.returns-then-not-counted_at-is_counted
returns-then-not-counted_at-is_counted c =
    let a = c.args in
    beat-out a.self a.made a.at (all-counted a.self a.at c.counted_at.ensures c.is_counted.ensures c.is_counted-2.ensures c.if-not-counted_at-is_counted.true)

pub on_plane-p-requires : goal.on_plane-p-requires
on_plane-p-requires c =
    counted-parts c.args.at
    (sym c.counted_at.ensures ∙ and_left c.counted_at.result c.is_counted.result
    (and_left (c.counted_at.result && c.is_counted.result) c.is_counted-2.result c.if-not-counted_at-is_counted.false))

pub returns-in_err-there : goal.returns-in_err-there
returns-in_err-there c =
    let a = c.args in
    rw c.from_residual.ensures
    (beat-none a.self a.made a.at (all-counted a.self a.at c.counted_at.ensures c.is_counted.ensures c.is_counted-2.ensures c.if-not-counted_at-is_counted.false)
    c.if-self-made.false (signs-are a.self a.at c.of-centre.ensures c.of-start.ensures c.on_plane-p.ensures c.signs-signs.ensures) c.step_to.ensures c.in_err-there.was)

pub returns : goal.returns
returns c =
    let a = c.args in
    beat-to a.self a.made a.at (all-counted a.self a.at c.counted_at.ensures c.is_counted.ensures c.is_counted-2.ensures c.if-not-counted_at-is_counted.false)
    c.if-self-made.false (signs-are a.self a.at c.of-centre.ensures c.of-start.ensures c.on_plane-p.ensures c.signs-signs.ensures) c.step_to.ensures c.in_ok-there.was
