-- `engine::Engine::sound` meets its contract. Assumes nothing.
use Rattle.engine.specs.Sound.{sound_of}
use Rattle.engine.specs.work.Acts.{fits_of}
use Rattle.engine.proofs.Engine.sound.Goals as goal

pub returns : goal.returns
unfolding sound_of fits_of
returns c = rw (c.is_sound.ensures, c.fits.ensures)
