-- Points and pulses by the axis: what is made axis by axis has on each axis what was put there, and what is the same on each axis is the same.
-- Assumes nothing.
use mathlib.Core.Path.{◌≡◌, refl}
use Prim.Native.Nat.{ℕ}
use Rattle.count.specs.declared.Axis.{Axis}
use Rattle.count.specs.declared.Axis.TheVariants.{X, Y, Z, A}
use Rattle.motion.specs.declared.Sign.{Sign}
use Rattle.motion.specs.declared.Signs.{Signs}
use Rattle.motion.specs.declared.Counters.{Counters}
use Rattle.motion.specs.Axes.{on, point, shows, pulse}
use Rattle.motion.specs.Phase.{moved, moved_all}

pub on-point : (f : Axis → ℕ) (i : Axis) → on i (point f) ≡ f i
on-point f X = refl
on-point f Y = refl
on-point f Z = refl
on-point f A = refl

pub shows-pulse : (f : Axis → Sign) (i : Axis) → shows i (pulse f) ≡ f i
shows-pulse f X = refl
shows-pulse f Y = refl
shows-pulse f Z = refl
shows-pulse f A = refl

pub on-moved : (c : Counters) (s : Signs) (i : Axis) → on i (moved_all c s) ≡ moved (on i c) (shows i s)
on-moved c s i = on-point (λ (j : Axis). moved (on j c) (shows j s)) i

pub same_point : {c d : Counters} → ((i : Axis) → on i c ≡ on i d) → c ≡ d
same_point h = λ j. record { x = h X j; y = h Y j; z = h Z j; a = h A j }

pub same-pulse : {s t : Signs} → ((i : Axis) → shows i s ≡ shows i t) → s ≡ t
same-pulse h = λ j. record { x = h X j; y = h Y j; z = h Z j; a = h A j }
