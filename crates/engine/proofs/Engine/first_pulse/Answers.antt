-- `engine::Engine::first_pulse` meets its contract. Assumes nothing.
use Rattle.engine.proofs.laws.Acts.{first_made, first-over}
use Rattle.engine.proofs.Engine.first_pulse.Goals as goal

pub returns-in-Some : goal.returns-in-Some
returns-in-Some c = rw (c.pulse.ensures, c.at_place.ensures, c.at_mark.ensures) (first_made _ c.args.self c.beat.ensures _ c.in-Some.is)

pub returns-in-None : goal.returns-in-None
returns-in-None c = rw (c.tell.ensures, c.on_to.ensures) (first-over _ _ c.beat.ensures c.in-None.is)
