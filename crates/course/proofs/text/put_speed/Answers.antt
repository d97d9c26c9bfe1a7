-- `course::put_speed` meets its contract: the digits one after the other. Assumes nothing.
use mathlib.Core.Path.{refl}
use mathlib.Core.List.{[], ◌∷◌}
use native.Mathlib.Omega.{arith}
use lib.ListN.{length-set}
use lib.Seq.{sets-eq}
use Rattle.course.proofs.Digits.{digits1, digits2, digits3, digits4, digits5}
use Rattle.course.proofs.text.put_speed.Goals as goal

pub bounds-out-1 : goal.bounds-out-1
bounds-out-1 c = simp length-set (omega arith)

pub bounds-out-2 : goal.bounds-out-2
bounds-out-2 c = simp length-set (omega arith)

pub bounds-out-3 : goal.bounds-out-3
bounds-out-3 c = simp length-set (omega arith)

pub bounds-out-4 : goal.bounds-out-4
bounds-out-4 c = simp length-set (omega arith)

pub returns-then-v-ge10000 : goal.returns-then-v-ge10000
returns-then-v-ge10000 c =
    let v = c.args.v in
    rw (digits5 v (omega arith) c.if-v-ge10000.true, c.digit.ensures, c.digit-then-v-ge10000.ensures, c.digit-then-v-ge10000-2.ensures, c.digit-then-v-ge10000-3.ensures, c.digit-then-v-ge10000-4.ensures)
    (record { long = refl; text = sets-eq (_ ∷ _ ∷ _ ∷ _ ∷ _ ∷ _ ∷ []) c.args.out.now 0 (omega arith) }, omega arith)

pub bounds-out-1-then-v-ge1000 : goal.bounds-out-1-then-v-ge1000
bounds-out-1-then-v-ge1000 c = simp length-set (omega arith)

pub bounds-out-2-then-v-ge1000 : goal.bounds-out-2-then-v-ge1000
bounds-out-2-then-v-ge1000 c = simp length-set (omega arith)

pub bounds-out-3-then-v-ge1000 : goal.bounds-out-3-then-v-ge1000
bounds-out-3-then-v-ge1000 c = simp length-set (omega arith)

pub bounds-out-4-then-v-ge1000 : goal.bounds-out-4-then-v-ge1000
bounds-out-4-then-v-ge1000 c = simp length-set (omega arith)

pub returns-then-v-ge1000 : goal.returns-then-v-ge1000
returns-then-v-ge1000 c =
    let v = c.args.v in
    rw (digits4 v (omega arith) c.if-v-ge1000.true c.if-v-ge10000.false, c.digit-then-v-ge1000.ensures, c.digit-then-v-ge1000-2.ensures, c.digit-then-v-ge1000-3.ensures, c.digit-then-v-ge1000-4.ensures)
    (record { long = refl; text = sets-eq (_ ∷ _ ∷ _ ∷ _ ∷ _ ∷ []) c.args.out.now 0 (omega arith) }, omega arith)

pub bounds-out-1-then-v-ge100 : goal.bounds-out-1-then-v-ge100
bounds-out-1-then-v-ge100 c = simp length-set (omega arith)

pub bounds-out-2-then-v-ge100 : goal.bounds-out-2-then-v-ge100
bounds-out-2-then-v-ge100 c = simp length-set (omega arith)

pub bounds-out-3-then-v-ge100 : goal.bounds-out-3-then-v-ge100
bounds-out-3-then-v-ge100 c = simp length-set (omega arith)

pub returns-then-v-ge100 : goal.returns-then-v-ge100
returns-then-v-ge100 c =
    let v = c.args.v in
    rw (digits3 v (omega arith) c.if-v-ge100.true c.if-v-ge1000.false, c.digit-then-v-ge100.ensures, c.digit-then-v-ge100-2.ensures, c.digit-then-v-ge100-3.ensures)
    (record { long = refl; text = sets-eq (_ ∷ _ ∷ _ ∷ _ ∷ []) c.args.out.now 0 (omega arith) }, omega arith)

pub bounds-out-1-then-v-ge10 : goal.bounds-out-1-then-v-ge10
bounds-out-1-then-v-ge10 c = simp length-set (omega arith)

pub bounds-out-2-then-v-ge10 : goal.bounds-out-2-then-v-ge10
bounds-out-2-then-v-ge10 c = simp length-set (omega arith)

pub returns-then-v-ge10 : goal.returns-then-v-ge10
returns-then-v-ge10 c =
    let v = c.args.v in
    rw (digits2 v (omega arith) c.if-v-ge10.true c.if-v-ge100.false, c.digit-then-v-ge10.ensures, c.digit-then-v-ge10-2.ensures)
    (record { long = refl; text = sets-eq (_ ∷ _ ∷ _ ∷ []) c.args.out.now 0 (omega arith) }, omega arith)

pub bounds-out-1-2 : goal.bounds-out-1-2
bounds-out-1-2 c = simp length-set (omega arith)

pub returns : goal.returns
returns c =
    let v = c.args.v in
    rw (digits1 v c.if-v-ge10.false, c.digit-2.ensures)
    (record { long = refl; text = sets-eq (_ ∷ _ ∷ []) c.args.out.now 0 (omega arith) }, omega arith)
