-- `sheet::chains::deliver` meets its contract: one link a turn. Assumes nothing.
use mathlib.Core.Path.{◌≡◌, refl, sym, ◌∙◌}
use mathlib.Core.List.{[], append-nil}
use native.Mathlib.Omega.{arith}
use lib.IntN.{pos, ◌+ℤ◌}
use lib.ListN.{length, take, drop, get_or, length-set, drop_of_length-le}
use lib.Seq.{take-length}
use mir.Syntax.{w32, w64}
use mir.Val.{SFits, to_z, of_z}
use mir.ValLaws.{to_z-of_z}
use borrow.Author.Rules.{rules}
use Rattle.std.specs.Prelude.{Ok, Err}
use Rattle.count.specs.Numbers.{within}
use Rattle.sheet.specs.declared.Refusal.{Refusal}
use Rattle.sheet.specs.declared.chains.Link as made
use Rattle.sheet.specs.Chain.{sum_right}
use Rattle.sheet.specs.work.Links.{Link, link_of, made_of, steps_from}
use Rattle.sheet.proofs.Sums.{sum_fits, made, made-is}
use Rattle.sheet.proofs.Turns.{link-result-fits, link-step-fits, sound-goes, steps-go}
use Rattle.sheet.proofs.chains.deliver.Goals as goal

-- a link that is refused nothing is made
is-made : (k : Link) → k.refusal ≡ 0 → made_of k ≡ Ok (record { result = k.result; step = k.step })
is-made k e = rw e

not-refused : (k : Link) (e : Refusal) → k.refusal ≡ 0 → Err e ≡ made_of k → ⊥
not-refused k e z h = let g = h ∙ is-made k z in cc

as-made : (k : Link) (m : made.Link) → k.refusal ≡ 0 → Ok m ≡ made_of k → (m.result ≡ k.result) × (m.step ≡ k.step)
as-made k m z h = let g = h ∙ is-made k z in (cc, cc)

pub loop-i-init : goal.loop-i-init
unfolding sum_right within
loop-i-init c = record { long = c.requires.long; right = refl; sound = c.requires.sound; steps = refl }

pub overflow_add-sum : goal.overflow_add-sum
overflow_add-sum c =
    let l = c.args.thousandths.now in
    let s = to_z w64 c.loop-i.sum-bits in
    let t = get_or l c.loop-i.i (pos 0) in
    let f : SFits w64 t = search rules in
    let goes = sound-goes l c.loop-i.i (omega arith) c.args.axis (to_z w32 c.loop-i.before-bits) s c.loop-i.invariant.sound in
    rw (made s t f) (sum_fits (s +ℤ t) goes.right)

pub link_of-requires : goal.link_of-requires
link_of-requires c =
    let l = c.args.thousandths.now in
    let s = to_z w64 c.loop-i.sum-bits in
    let t = get_or l c.loop-i.i (pos 0) in
    let f : SFits w64 t = search rules in
    let goes = sound-goes l c.loop-i.i (omega arith) c.args.axis (to_z w32 c.loop-i.before-bits) s c.loop-i.invariant.sound in
    rw (made-is s t f goes.right) goes.right

pub returns-in_err-link-clause-done : goal.returns-in_err-link-clause-done
returns-in_err-link-clause-done c =
    let l = c.args.thousandths.now in
    let s = to_z w64 c.loop-i.sum-bits in
    let t = get_or l c.loop-i.i (pos 0) in
    let f : SFits w64 t = search rules in
    let goes = sound-goes l c.loop-i.i (omega arith) c.args.axis (to_z w32 c.loop-i.before-bits) s c.loop-i.invariant.sound in
    absurd (not-refused (link_of c.args.axis (to_z w32 c.loop-i.before-bits) (s +ℤ t)) c.in_err-link.field-0.0 goes.link (rw (made-is s t f goes.right) at c.in_err-link.ensures))

pub returns-in_err-link-clause-steps : goal.returns-in_err-link-clause-steps
returns-in_err-link-clause-steps c =
    let l = c.args.thousandths.now in
    let s = to_z w64 c.loop-i.sum-bits in
    let t = get_or l c.loop-i.i (pos 0) in
    let f : SFits w64 t = search rules in
    let goes = sound-goes l c.loop-i.i (omega arith) c.args.axis (to_z w32 c.loop-i.before-bits) s c.loop-i.invariant.sound in
    absurd (not-refused (link_of c.args.axis (to_z w32 c.loop-i.before-bits) (s +ℤ t)) c.in_err-link.field-0.0 goes.link (rw (made-is s t f goes.right) at c.in_err-link.ensures))

pub loop-i-preserved : goal.loop-i-preserved
loop-i-preserved c =
    let a = c.args.axis in
    let l = c.args.thousandths.now in
    let r = to_z w32 c.loop-i.before-bits in
    let s = to_z w64 c.loop-i.sum-bits in
    let t = get_or l c.loop-i.i (pos 0) in
    let f : SFits w64 t = search rules in
    let goes = sound-goes l c.loop-i.i (omega arith) a r s c.loop-i.invariant.sound in
    let k = link_of a r (s +ℤ t) in
    let m = c.in_ok-link.link in
    let is = as-made k m goes.link (rw (made-is s t f goes.right) at c.in_ok-link.ensures) in
    let result : to_z w32 (of_z w32 m.result) ≡ k.result = rw is.0 (to_z-of_z w32 k.result (link-result-fits a r (s +ℤ t))) in
    let step : to_z w32 (of_z w32 m.step) ≡ k.step = rw is.1 (to_z-of_z w32 k.step (link-step-fits a r (s +ℤ t))) in
    record {
      long = simp length-set c.loop-i.invariant.long;
      right = rw (made-is s t f goes.right) goes.right;
      sound = rw (made-is s t f goes.right, result) goes.sound;
      steps = rw (made-is s t f goes.right, result, step) (steps-go l c.loop-i.i (omega arith) a r s c.loop-i.steps (omega arith) ∙ c.loop-i.invariant.steps);
    }

pub returns-clause-steps : goal.returns-clause-steps
unfolding steps_from
returns-clause-steps c =
    let e : drop c.loop-i.i c.args.thousandths.now ≡ [] = drop_of_length-le c.args.thousandths.now {i = c.loop-i.i} (omega arith) in
    let n : c.loop-i.i ≡ length c.loop-i.steps = omega arith in
    let w : take c.loop-i.i c.loop-i.steps ≡ c.loop-i.steps = rw n (take-length c.loop-i.steps) in
    sym (append-nil c.loop-i.steps) ∙ rw (e, w) at c.loop-i.invariant.steps
