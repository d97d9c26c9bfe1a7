-- `engine::Engine::fits` meets its contract. Assumes nothing.
use Rattle.engine.specs.work.Acts.{fits_of}
use Rattle.engine.proofs.Engine.fits.Goals as goal

pub returns : goal.returns
unfolding fits_of
returns c = cc
