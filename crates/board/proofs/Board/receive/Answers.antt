-- `board::Board::receive` meets its contract. Assumes nothing.
use mathlib.Core.Bool.{not}
use mathlib.Core.Path.{ap}
use mathlib.Core.Path.{◌≡◌, refl, sym, ◌∙◌}
use mathlib.Core.Bool.{false}
use borrow.Author.Tests.{lt-ltb, le-ltb, eq-eqb, ne_eqb}
use Rattle.record.specs.Memory.{memory}
use Rattle.board.specs.declared.Ear.{Ear}
use Rattle.board.specs.declared.Ear.TheVariants as ear
use Rattle.board.specs.declared.Saying.TheVariants as saying
use Rattle.board.specs.Calls.{receiving}
use Rattle.board.specs.work.Work.{spoke_of}
use Rattle.board.specs.work.Ears.{is_gather}
use Rattle.board.proofs.laws.Hears.{sound-line, received-so}
use Rattle.board.proofs.laws.Ears.{heard-so, gathered-so}
use Rattle.board.proofs.Board.receive.Goals as goal

-- every sort but the first
other : (e : Ear) → (e ≡ ear.Gather → ⊥) → is_gather e ≡ false
other ear.Gather h = absurd (h refl)
other ear.Return h = refl
other ear.Listen h = refl
other ear.Ignore h = refl
other ear.Stop h = refl
other ear.Reset h = refl
other ear.Quit h = refl

pub returns-then-reply-lt32 : goal.returns-then-reply-lt32
unfolding receiving
returns-then-reply-lt32 c = simp (lt-ltb _ _ c.if-reply-lt32.true, c.refuse.ensures)

pub returns-then-store-ne16384 : goal.returns-then-store-ne16384
unfolding receiving
returns-then-store-ne16384 c = simp (le-ltb _ _ c.if-reply-lt32.false, ne_eqb _ _ c.if-store-ne16384.true, c.refuse-then-store-ne16384.ensures)

pub returns-then-not-sound : goal.returns-then-not-sound
unfolding receiving
returns-then-not-sound c = simp (le-ltb _ _ c.if-reply-lt32.false, eq-eqb _ _ c.if-store-ne16384.false, ← c.sound.ensures, (ap not c.if-not-sound.true), c.refuse-then-not-sound.ensures)

pub returns-then-table-ne1000 : goal.returns-then-table-ne1000
unfolding receiving
returns-then-table-ne1000 c = simp (le-ltb _ _ c.if-reply-lt32.false, eq-eqb _ _ c.if-store-ne16384.false, ← c.sound.ensures, (ap not c.if-not-sound.false), ne_eqb _ _ c.if-table-ne1000.true, c.refuse-then-table-ne1000.ensures)

pub returns-in-Gather : goal.returns-in-Gather
returns-in-Gather c =
    let a = c.args in
    let m = memory a.store.now a.table.now in
    received-so a.byte a.ports a.self a.reply.now m c.if-reply-lt32.false (c.if-store-ne16384.false, c.if-table-ne1000.false)
    (sym c.sound.ensures ∙ c.if-not-sound.false) (spoke_of c.gather.result saying.Silent)
    (gathered-so a.byte a.ports a.self m (sym c.in-Gather.is ∙ c.ear-ear.ensures) c.gather.ensures) c.quiet.ensures refl

pub hear-requires : goal.hear-requires
hear-requires c = (
  sound-line _ (sym c.sound.ensures ∙ c.if-not-sound.false),
  other c.ear-ear.result c.in_default.not-Gather,
)

pub returns : goal.returns
returns c =
    let a = c.args in
    let m = memory a.store.now a.table.now in
    received-so a.byte a.ports a.self a.reply.now m c.if-reply-lt32.false (c.if-store-ne16384.false, c.if-table-ne1000.false)
    (sym c.sound.ensures ∙ c.if-not-sound.false) c.hear.result
    (heard-so a.byte a.ports a.self m c.ear-ear.ensures c.hear.ensures) c.answer.ensures.0 c.answer.ensures.1
