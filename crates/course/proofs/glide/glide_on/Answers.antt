-- `course::glide::glide_on` meets its contract: the loop of `Pulses`. What moves is what was given with other pulses made. Assumes nothing.
use mathlib.Core.Path.{◌≡◌, refl, ap, sym, ◌∙◌}
use native.Mathlib.Omega.{arith}
use Rattle.travel.specs.work.Beat.{with_made}
use Rattle.course.specs.declared.Glided.{Glided}
use Rattle.course.proofs.laws.Machine.{way-off, way-none}
use Rattle.course.specs.work.Glide.{here, glides, glide_on, glide_said, glided}
use Rattle.course.proofs.Loop.{kept-first}
use Rattle.course.proofs.Pulses.{pulse-short, behind-long, over, last, room, turn, made-anew, made-same, same_kept, told-of}
use Rattle.course.proofs.glide.glide_on.Goals as goal

pub loop-n-init : goal.loop-n-init
loop-n-init g c =
    let a = c.args in
    let m = g.P.Pulses.travel a.start in
    (same_kept a.turns (sym (made-same m c.made-made.ensures)) (kept-first glides glide_on (glide_said a.turns) a.limit (here m a.from) a.out.now), c.requires)

pub shape_of-out-in_default : goal.shape_of-out-in_default
shape_of-out-in_default g c = c.loop-n.invariant.0.long

pub returns-in_default : goal.returns-in_default
returns-in_default g c =
    let l = c.loop-n in
    let a = c.args in
    let m = g.P.Pulses.travel a.start in
    let e = told-of l.made c.glided_to.ensures c.travel.ensures refl in
    (ap (λ (x : Glided). glided x l.out) e ∙ last a.turns a.limit m a.from a.out.now l.n (with_made m l.made) l.at l.out l.k l.invariant.0 (way-off glides glide_on (glide_said a.turns) _ _ (over (with_made m l.made) l.at c.beat_in.ensures c.in_default.is)), rw e l.invariant.0.short)

pub put_pulse-k-requires : goal.put_pulse-k-requires
put_pulse-k-requires g c =
    let l = c.loop-n in
    let a = c.args in
    let m = g.P.Pulses.travel a.start in
    rw (behind-long l.k l.out) (room a.turns a.limit m a.from a.out.now l.n (with_made m l.made) l.at l.out l.k l.invariant.0 c.loop-n-test.true l.invariant.1)

pub overflow_add-k : goal.overflow_add-k
overflow_add-k g c =
    let l = c.loop-n in
    let a = c.args in
    let m = g.P.Pulses.travel a.start in
    let s = c.in-Some.b in
    omega (arith, c.put_pulse-k.ensures.0.long, pulse-short a.turns s.signs s.speed (omega arith), room a.turns a.limit m a.from a.out.now l.n (with_made m l.made) l.at l.out l.k l.invariant.0 c.loop-n-test.true l.invariant.1, l.invariant.0.room)

pub loop-n-preserved : goal.loop-n-preserved
loop-n-preserved g c =
    let l = c.loop-n in
    let a = c.args in
    let m = g.P.Pulses.travel a.start in
    (same_kept a.turns (made-anew m l.made c.in-Some.b.mark.made) (turn a.turns a.limit m a.from a.out.now l.n (with_made m l.made) l.at l.out l.k l.invariant.0 c.in-Some.b _ c.put_pulse-k.result c.beat_in.ensures c.in-Some.is c.loop-n-test.true l.invariant.1 (omega arith) c.put_pulse-k.ensures.0), l.invariant.1)

pub shape_of-out : goal.shape_of-out
shape_of-out g c = c.loop-n.invariant.0.long

pub returns : goal.returns
returns g c =
    let l = c.loop-n in
    let a = c.args in
    let m = g.P.Pulses.travel a.start in
    let q : a.limit ≡ l.n = omega arith in
    let e = told-of l.made c.glided_to-2.ensures c.travel-2.ensures q in
    (ap (λ (x : Glided). glided x l.out) e ∙ last a.turns a.limit m a.from a.out.now l.n (with_made m l.made) l.at l.out l.k l.invariant.0 (way-none glides glide_on (glide_said a.turns) _ _ (omega arith)), rw e l.invariant.0.short)
