-- `circle::Arc::look` meets its contract. Assumes nothing.
use mathlib.Core.Path.{sym, ◌∙◌}
use Rattle.circle.proofs.laws.Work.{look-wrong, look-made, look-over}
use Rattle.circle.proofs.Arc.look.Goals as goal

pub returns-then-not-sound : goal.returns-then-not-sound
returns-then-not-sound c = let a = c.args in look-wrong a.self a.at (sym c.sound.ensures ∙ c.if-not-sound.true)

pub returns-in-Some : goal.returns-in-Some
returns-in-Some c = let a = c.args in look-made a.self a.at (sym c.sound.ensures ∙ c.if-not-sound.false) c.beat.ensures c.in-Some.is

pub returns-in-None : goal.returns-in-None
returns-in-None c = let a = c.args in look-over a.self a.at (sym c.sound.ensures ∙ c.if-not-sound.false) c.beat.ensures c.in-None.is
