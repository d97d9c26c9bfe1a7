-- `program::ranges::Noted::first_fault` meets its contract. Assumes nothing.
use Prim.Native.Nat.{◌+◌}
use mathlib.Core.Bool.{Bool, true, false}
use mathlib.Core.Path.{◌≡◌, refl, ◌∙◌}
use Rattle.std.specs.Prelude.{cond}
use Rattle.std.specs.Int.{from_bool}
use native.Mathlib.Omega.{arith}
use Rattle.program.specs.Check.{tally}
use Rattle.program.specs.work.Work.{loop_in, far_in}
use Rattle.program.specs.work.Ranges.{goes_on, opens}
use Rattle.program.proofs.laws.Ranges.{none_before, letter-same, pass-next, tally-most, up_to-most}
use Rattle.program.proofs.Told.{letter-some}
use Rattle.program.proofs.Walks.{walk_start, walk-hit, walk-on}
use Rattle.program.proofs.ranges.Noted.first_fault.Goals as goal

byte-cond : (b : Bool) → from_bool b ≡ cond b 1 0
byte-cond true = refl
byte-cond false = refl

pub loop-p-init : goal.loop-p-init
loop-p-init c =
    let a = c.args in
    record { few = omega arith; on = none_before (loop_in a.self.now.places.kinds.now) (far_in a.self.now.places.offsets.now) a.self.now.places.n; left = walk_start _ _ _ _ }

pub overflow_add-held : goal.overflow_add-held
overflow_add-held c =
    let s = c.starts_at.ensures ∙ c.requires.entry _ (omega arith) in
    let m = up_to-most (tally c.args.self.now.places.n (opens (loop_in c.args.self.now.places.kinds.now) (far_in c.args.self.now.places.offsets.now) c.loop-p.p)) in
    omega arith

pub returns-in-Some : goal.returns-in-Some
returns-in-Some c =
    let s = c.starts_at.ensures ∙ c.requires.entry _ (omega arith) in
    walk-hit _ _ _ _ _ c.loop-p.invariant.left c.loop-p-test.true (c.in-Some.ensures ∙ letter-same _ _ _ _ _ c.loop-p.invariant.on s) (letter-some _)

pub overflow_sub-on : goal.overflow_sub-on
overflow_sub-on c =
    let s = c.starts_at.ensures ∙ c.requires.entry _ (omega arith) in
    (pass-next _ _ _ _ _ c.loop-p.invariant.on s c.in_default.ensures refl c.loop-p-test.true c.is_range.ensures (c.from.ensures ∙ byte-cond _)).0

pub loop-p-preserved : goal.loop-p-preserved
loop-p-preserved c =
    let s = c.starts_at.ensures ∙ c.requires.entry _ (omega arith) in
    let d = pass-next _ _ _ _ _ c.loop-p.invariant.on s c.in_default.ensures refl c.loop-p-test.true c.is_range.ensures (c.from.ensures ∙ byte-cond _) in
    let e = d.1 in
    let m = tally-most c.args.self.now.places.n (goes_on (loop_in c.args.self.now.places.kinds.now) (far_in c.args.self.now.places.offsets.now) (c.loop-p.p + 1)) in
    record { few = omega arith; on = e; left = walk-on _ _ _ _ _ c.loop-p.invariant.left c.loop-p-test.true (c.in_default.ensures ∙ letter-same _ _ _ _ _ c.loop-p.invariant.on s) refl }
