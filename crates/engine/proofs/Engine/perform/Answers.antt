-- `engine::Engine::perform` meets its contract. Assumes nothing.
use mathlib.Core.Path.{sym, ◌∙◌}
use mathlib.Core.Logic.{inl, inr}
use borrow.Author.Tests.{ne_eqb}
use Rattle.travel.specs.work.Beat.{next_of}
use Rattle.engine.proofs.laws.Work.{movement-code, performs-movement}
use native.Mathlib.Omega.{arith}
use Rattle.engine.specs.Tick.{performed}
use Rattle.engine.proofs.Engine.perform.Goals as goal

pub on_to-requires : goal.on_to-requires
on_to-requires c = rw c.origin_at.ensures c.requires.0

pub on_to-requires-in-122 : goal.on_to-requires-in-122
on_to-requires-in-122 c = rw c.set_three.ensures c.requires.0

pub overflow_cast-w : goal.overflow_cast-w
overflow_cast-w c = omega (arith, c.requires.1.pauses c.in-53.is)

pub overflow_cast-w-in-49 : goal.overflow_cast-w-in-49
overflow_cast-w-in-49 c = omega (arith, c.requires.1.sent c.in-49.is)

pub on_to-requires-in-101 : goal.on_to-requires-in-101
on_to-requires-in-101 c = rw c.set_plane.ensures c.requires.0

pub on_to-requires-in-102 : goal.on_to-requires-in-102
on_to-requires-in-102 c = rw c.set_direction.ensures c.requires.0

pub returns-in-48 : goal.returns-in-48
unfolding performed
returns-in-48 c = let a = c.args in c.travel.ensures ∙ sym (performs-movement next_of a.item a.self (movement-code a.item.code c.in-48.is))

pub returns-in-110 : goal.returns-in-110
unfolding performed
returns-in-110 c = simp (c.in-110.is, c.origin_at.ensures, c.on_to.ensures, c.tell.ensures)

pub returns-in-122 : goal.returns-in-122
unfolding performed
returns-in-122 c = simp (c.in-122.is, c.set_three.ensures, c.on_to-in-122.ensures, c.tell-in-122.ensures)

pub returns-in-53 : goal.returns-in-53
unfolding performed
returns-in-53 c = simp (c.in-53.is, c.delay.ensures)

pub returns-in-49 : goal.returns-in-49
unfolding performed
returns-in-49 c = simp (c.in-49.is, c.on_to-in-49.ensures, c.tell-in-49.ensures)

pub returns-in-101 : goal.returns-in-101
unfolding performed
returns-in-101 c = simp (c.in-101.is, c.set_plane.ensures, c.on_to-in-101.ensures, c.tell-in-101.ensures)

pub returns-in-102 : goal.returns-in-102
unfolding performed
returns-in-102 c = simp (c.in-102.is, c.set_direction.ensures, c.on_to-in-102.ensures, c.tell-in-102.ensures)

pub returns-in-121 : goal.returns-in-121
unfolding performed
returns-in-121 c = simp (c.in-121.is, c.turn.ensures)

pub returns-in_default : goal.returns-in_default
unfolding performed
returns-in_default c =
    let k = c.in_default.in_default-own.rest in
    let j = k.0.0.0 in
    let o = j.0.0.0.0.1 in
    simp (ne_eqb _ _ k.1, ne_eqb _ _ k.0.1, ne_eqb _ _ k.0.0.1, ne_eqb _ _ j.1, ne_eqb _ _ j.0.1, ne_eqb _ _ j.0.0.1, ne_eqb _ _ j.0.0.0.1, ne_eqb _ 109 (λ e. o (inr e)), ne_eqb _ 48 (λ e. o (inl e))) c.lead.ensures
