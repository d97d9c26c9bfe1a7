-- `course::run` meets its contract, case by case. Assumes nothing.
use Prim.Native.Nat.{ℕ}
use mathlib.Core.Path.{◌≡◌, refl, ap, sym, ◌∙◌}
use mathlib.Core.Bool.{not}
use Rattle.record.specs.Memory.{memory}
use Rattle.course.specs.Run.{Ran}
use Rattle.course.specs.Run.{allowed, did_run}
use Rattle.course.specs.work.Machine.{left_by}
use Rattle.course.specs.work.Going.{go_way}
use Rattle.course.proofs.Outcomes.{refused-102, refused-103, refused-104, rests-there, went}
use Rattle.course.proofs.runs.run.Goals as goal

pub returns-then-store-ne16384 : goal.returns-then-store-ne16384
returns-then-store-ne16384 c =
    let a = c.args in
    ap (λ (r : Ran). did_run r a.out.now) c.refuse.ensures ∙ refused-102 a.limit a.board (memory a.store.now a.table.now) a.out.now c.if-store-ne16384.true

pub returns-then-not-sound : goal.returns-then-not-sound
returns-then-not-sound c =
    let a = c.args in
    ap (λ (r : Ran). did_run r a.out.now) c.refuse-then-not-sound.ensures ∙ refused-103 a.limit a.board (memory a.store.now a.table.now) a.out.now c.if-store-ne16384.false (sym c.sound.ensures ∙ c.if-not-sound.true)

pub returns-then-table-ne1000 : goal.returns-then-table-ne1000
returns-then-table-ne1000 c =
    let a = c.args in
    ap (λ (r : Ran). did_run r a.out.now) c.refuse-then-table-ne1000.ensures ∙ refused-104 a.limit a.board (memory a.store.now a.table.now) a.out.now c.if-store-ne16384.false (sym c.sound.ensures ∙ c.if-not-sound.false) c.if-table-ne1000.true

pub returns-then-board : goal.returns-then-board
returns-then-board c =
    let a = c.args in
    ap (λ (r : Ran). did_run r a.out.now) c.rest.ensures ∙ rests-there a.limit a.board (memory a.store.now a.table.now) a.out.now (c.if-store-ne16384.false, c.if-table-ne1000.false) (sym c.sound.ensures ∙ c.if-not-sound.false) c.if-board.true

pub returns : goal.returns
unfolding allowed
returns c =
    let a = c.args in
    let m = memory a.store.now a.table.now in
    let k : c.allowed_by-most.result ≡ allowed a.limit a.out.now = c.allowed_by-most.ensures in
    went a.limit a.board m a.out.now (c.if-store-ne16384.false, c.if-table-ne1000.false) (sym c.sound.ensures ∙ c.if-not-sound.false) c.if-board.false
    (c.go-w.ensures ∙ ap (λ (n : ℕ). left_by (go_way m n a.board.engine) a.out.now) k) refl (ap not c.runs_now.ensures)
