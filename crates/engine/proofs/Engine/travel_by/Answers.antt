-- `engine::Engine::travel_by` meets its contract. Assumes nothing.
use Rattle.engine.proofs.Engine.travel_by.Goals as goal

pub returns-in-Ok : goal.returns-in-Ok
returns-in-Ok c = simp (c.in-Ok.is, c.first_pulse.ensures)

pub returns-in-Err : goal.returns-in-Err
returns-in-Err c = rw (c.in-Err.is, c.finish.ensures, c.letter.ensures)
