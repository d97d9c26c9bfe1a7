-- What setting axes leaves alone, whatever the number: the run and the store's part in use. Assumes nothing.
use Prim.Native.Nat.{ℕ}
use mathlib.Core.Path.{◌≡◌, refl}
use mathlib.Core.Bool.{Bool, true, false}
use lib.Dec.{eqb}
use Rattle.count.specs.Pick.{pick}
use Rattle.engine.specs.declared.Engine.{Engine}
use Rattle.engine.specs.State.{turntable_of, anew_of, axes_of}

module _ (w : ℕ) (e : Engine) where
  pub axes-run : (axes_of w e).run ≡ e.run
  axes-run = by (eqb w 8)
    where
      by : (t : Bool) → (pick t (turntable_of e) (anew_of w e)).run ≡ e.run
      by true = refl
      by false = refl

  pub axes-held : (axes_of w e).held ≡ e.held
  axes-held = by (eqb w 8)
    where
      by : (t : Bool) → (pick t (turntable_of e) (anew_of w e)).held ≡ e.held
      by true = refl
      by false = refl
