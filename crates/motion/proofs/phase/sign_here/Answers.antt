-- `motion::phase::sign_here` meets its contract. Assumes nothing.
use Prim.Native.Nat.{◌+◌, ◌*◌}
use mathlib.Core.Path.{◌≡◌}
use native.Mathlib.Omega.{arith}
use borrow.Author.Tests.{lt-ltb, le-ltb}
use Rattle.motion.specs.declared.Sign.TheVariants.{Minus, Rest, Plus}
use Rattle.motion.specs.work.Here.{sign_here}
use Rattle.motion.proofs.laws.Room.{room_of}
use Rattle.motion.proofs.Work.{product}
use Rattle.motion.proofs.phase.sign_here.Goals as goal

pub overflow_mul-wide_k-2 : goal.overflow_mul-wide_k-2
overflow_mul-wide_k-2 c = omega (arith, product c.args.k c.distance-d.result 16777216 16777216 (omega arith) (omega arith))

pub overflow_add-wide_k : goal.overflow_add-wide_k
overflow_add-wide_k c = omega (arith, product c.args.k c.distance-d.result 16777216 16777216 (omega arith) (omega arith))

pub overflow_add-wide_k-2 : goal.overflow_add-wide_k-2
overflow_add-wide_k-2 c = omega (arith, product c.args.k c.distance-d.result 16777216 16777216 (omega arith) (omega arith))

pub overflow_mul-wide_n-2 : goal.overflow_mul-wide_n-2
overflow_mul-wide_n-2 c = omega (arith, product c.args.n c.distance-s.result 16777216 4294967296 (omega arith) (omega arith))

pub overflow_add-wide_n : goal.overflow_add-wide_n
overflow_add-wide_n c = omega (arith, product c.args.n c.distance-s.result 16777216 4294967296 (omega arith) (omega arith))

pub returns-then-wide_k-d : goal.returns-then-wide_k-d
unfolding sign_here
returns-then-wide_k-d c =
    let a = c.args in
    let e : Rest ≡ sign_here a.at a.from a.to a.k a.n = rw (← c.distance-d.ensures, ← c.distance-s.ensures, lt-ltb (2 * (a.k + 1) * c.distance-d.result + a.n) (2 * a.n * (c.distance-s.result + 1)) (omega (arith, c.if-wide_k-d.true))) in
    (e, room_of a.at a.from a.to a.k a.n (omega arith) (omega arith) (omega arith) (omega arith) (omega arith) e)

pub returns-then-to-from : goal.returns-then-to-from
unfolding sign_here
returns-then-to-from c =
    let a = c.args in
    let e : Minus ≡ sign_here a.at a.from a.to a.k a.n = rw (← c.distance-d.ensures, ← c.distance-s.ensures, le-ltb (2 * (a.k + 1) * c.distance-d.result + a.n) (2 * a.n * (c.distance-s.result + 1)) (omega (arith, c.if-wide_k-d.false)), lt-ltb _ _ c.if-to-from.true) in
    (e, room_of a.at a.from a.to a.k a.n (omega arith) (omega arith) (omega arith) (omega arith) (omega arith) e)

pub returns : goal.returns
unfolding sign_here
returns c =
    let a = c.args in
    let e : Plus ≡ sign_here a.at a.from a.to a.k a.n = rw (← c.distance-d.ensures, ← c.distance-s.ensures, le-ltb (2 * (a.k + 1) * c.distance-d.result + a.n) (2 * a.n * (c.distance-s.result + 1)) (omega (arith, c.if-wide_k-d.false)), le-ltb _ _ c.if-to-from.false) in
    (e, room_of a.at a.from a.to a.k a.n (omega arith) (omega arith) (omega arith) (omega arith) (omega arith) e)
