-- One pulse on the counters: where each has a step left, there is room for the sign, and the counters after it are of 24 bits. Assumes nothing.
use Rattle.std.specs.Prelude.{Some, None}
use mathlib.Core.Path.{◌≡◌, refl, sym}
use mathlib.Core.Bool.{Bool, true, false, ◌&&◌}
use Prim.Native.Nat.{ℕ, ◌+◌, ◌<◌}
use native.Mathlib.Omega.{arith}
use lib.Dec.{ltb}
use borrow.Author.Tests.{ltb-true, lt-ltb, le-ltb, ltb-false}
use Rattle.count.specs.Numbers.{full}
use Rattle.count.specs.declared.Axis.{Axis}
use Rattle.count.proofs.laws.Axes.{all-each, each_of}
use Rattle.motion.specs.declared.Counters.{Counters}
use Rattle.motion.specs.declared.Signs.{Signs}
use Rattle.motion.specs.declared.Sign.{Sign}
use Rattle.motion.specs.declared.Sign.TheVariants.{Minus, Rest, Plus}
use Rattle.motion.specs.Axes.{on, shows}
use Rattle.motion.specs.Phase.{moved, moved_all}
use Rattle.motion.specs.Pulse.{has_step, have_steps, step_to}
use Rattle.motion.specs.work.Room.{RoomFor, HasRoom}
use Rattle.motion.proofs.laws.Points.{on-moved}
use Rattle.motion.proofs.laws.Pulses.{In24}

-- a step up ends within 24 bits exactly below the last count
pub step-up : (c : ℕ) → ltb c 16777215 ≡ ltb (c + 1) full
step-up c = by (ltb (c + 1) full) refl
  where
    by : (b : Bool) → ltb (c + 1) full ≡ b → ltb c 16777215 ≡ b
    by true e = lt-ltb c 16777215 (omega (arith, ltb-true (c + 1) full e))
    by false e = le-ltb c 16777215 (omega (arith, ltb-false (c + 1) full e))

-- ---- one count

pub step_room : (c : ℕ) (s : Sign) → has_step c s ≡ true → RoomFor c s
step_room c Minus h = ltb-true 0 c h
step_room c Rest h = omega arith
step_room c Plus h = omega (arith, ltb-true (c + 1) full h)

pub step_small : (c : ℕ) (s : Sign) → has_step c s ≡ true → c < full → moved c s < full
step_small c Minus h l = omega arith
step_small c Rest h l = l
step_small c Plus h l = ltb-true (c + 1) full h

-- ---- each count

module _ (c : Counters) (s : Signs) (h : have_steps c s ≡ true) where
  step-on : (i : Axis) → has_step (on i c) (shows i s) ≡ true
  step-on = all-each (λ (i : Axis). has_step (on i c) (shows i s)) h

  pub steps-room : HasRoom c s
  steps-room = each_of (λ (i : Axis). RoomFor (on i c) (shows i s)) (λ i. step_room (on i c) (shows i s) (step-on i))

  pub steps-small : In24 c → In24 (moved_all c s)
  steps-small l = record { each = λ i. rw (on-moved c s i) (step_small (on i c) (shows i s) (step-on i) (l.each i)) }

-- ---- the step

pub step-made : (c : Counters) (s : Signs) → have_steps c s ≡ true → step_to c s ≡ Some (moved_all c s)
unfolding step_to
step-made c s h = rw h

-- from the code's tests
module _ (c : Counters) (s : Signs) {x y z a : Bool} (p : x ≡ has_step c.x s.x) (q : y ≡ has_step c.y s.y) (r : z ≡ has_step c.z s.z) (t : a ≡ has_step c.a s.a) where
  pub tested : x && y && z && a ≡ have_steps c s
  tested = rw (p, q, r, t)

  pub to_made : {d : Counters} → x && y && z && a ≡ true → d ≡ moved_all c s → Some d ≡ step_to c s
  unfolding step_to
  to_made h e = rw (e, sym tested, h)

  pub to_none : x && y && z && a ≡ false → None ≡ step_to c s
  unfolding step_to
  to_none h = rw (sym tested, h)
