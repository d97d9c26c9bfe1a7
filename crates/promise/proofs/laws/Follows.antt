-- Ours does what the definitions say. Assumes nothing.
use mathlib.Core.Path.{refl}
use Rattle.promise.specs.Machine.{ours}
use Rattle.promise.specs.Follows.{Follows}

pub ours-follows : Follows ours
ours-follows = record {
  starts = refl;
  hears = λ v ports l s. refl;
  heard = λ v ports l s. refl;
  ticks = λ mem s. refl;
  ticked = λ mem s. refl;
  lists = λ store text s. refl;
}
