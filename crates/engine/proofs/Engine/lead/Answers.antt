-- `engine::Engine::lead` meets its contract. Assumes nothing.
use mathlib.Core.Path.{ap}
use native.Mathlib.Omega.{arith}
use Rattle.program.specs.Going.{kind_in}
use Rattle.program.proofs.laws.Leaps.{leap-made}
use Rattle.engine.proofs.laws.Work.{awaited-small}
use Rattle.engine.proofs.Engine.lead.Goals as goal

pub overflow_cast-c : goal.overflow_cast-c
overflow_cast-c c =
    let h = awaited-small _ _ _ _ c.requires (leap-made _ _ _ _ _ c.leap-way.ensures c.loops-loops.ensures) (ap kind_in c.in-Waits.is) in
    omega arith

pub returns-in-To : goal.returns-in-To
returns-in-To c = simp (← leap-made _ _ _ _ _ c.leap-way.ensures c.loops-loops.ensures, c.in-To.is, c.go_to.ensures)

pub returns-in-Waits : goal.returns-in-Waits
returns-in-Waits c = simp (← leap-made _ _ _ _ _ c.leap-way.ensures c.loops-loops.ensures, c.in-Waits.is, c.go_to-in-Waits.ensures)

pub returns-in-Wrong : goal.returns-in-Wrong
returns-in-Wrong c = simp (← leap-made _ _ _ _ _ c.leap-way.ensures c.loops-loops.ensures, c.in-Wrong.is, c.fail.ensures)
