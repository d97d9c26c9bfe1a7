-- `engine::Engine::see` meets its contract. Assumes nothing.
use Rattle.engine.proofs.laws.Acts.{seen_by}
use Rattle.engine.proofs.Engine.see.Goals as goal

pub returns-then-not-fits : goal.returns-then-not-fits
returns-then-not-fits c = rw (← seen_by c.args.self, ← c.fits.ensures, c.if-not-fits.true)

pub returns : goal.returns
returns c = rw (← seen_by c.args.self, ← c.fits.ensures, c.if-not-fits.false, c.look_at-act.ensures)
