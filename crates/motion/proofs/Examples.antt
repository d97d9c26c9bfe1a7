-- Worked examples of 01, "Prove these", (1), (2) and (12), by computing on the definitions: a movement planned from its numbers, and its
-- pulses by 01's formula. Assumes nothing.
use Rattle.std.specs.Prelude.{Option, Some, None}
use Rattle.motion.specs.declared.Move.{Move}
use mathlib.Core.Path.{◌≡◌, refl}
use mathlib.Core.Bool.{false}
use mathlib.Core.List.{List, [], ◌∷◌, map}
use Prim.Native.Nat.{ℕ}
use lib.IntN.{ℤ, pos, negsuc}
use Rattle.count.specs.Paper.{Paper, says}
use Rattle.count.specs.Numbers.{half, count, word, signed, within, in24, placed, added}
use Rattle.count.specs.Ranges.{in_speed, in_zero, right_z2, right_distances, right_speeds}
use Rattle.motion.specs.declared.Counters.{Counters}
use Rattle.motion.specs.declared.Stepped.{Stepped}
use Rattle.motion.specs.Phase.{pulses, steps, sign_at}
use Rattle.motion.specs.Plan.{asked, goal, goal_of, goal_z2, first_speed, later_speed, route, going_to, plan_of, planned_paper}
use Rattle.motion.specs.Next.{from_of, to_of, speed_at, skipped, next_by, pulse_of, after_of, left_of, next_paper}
use Rattle.motion.proofs.laws.Whole.{pulses_of, all_pulses}

abbrev at : ℤ → ℤ → ℤ → Counters
at x y z = record { x = count x; y = count y; z = count z; a = half }

-- a relative movement of two axes in 2.5D from the zero point, and of x alone from a position
abbrev pair : ℤ → ℕ → ℤ → ℕ → Option Move
pair x v y w = plan_of (asked 3 false (at (pos 0) (pos 0) (pos 0)) (at (pos 0) (pos 0) (pos 0)) false (word x ∷ v ∷ word y ∷ w ∷ 0 ∷ 0 ∷ 0 ∷ 0 ∷ []))

abbrev along : ℤ → ℤ → ℕ → Option Move
along p x v = plan_of (asked 1 false (at p (pos 0) (pos 0)) (at (pos 0) (pos 0) (pos 0)) false (word x ∷ v ∷ 0 ∷ 0 ∷ 0 ∷ 0 ∷ 0 ∷ 0 ∷ []))

-- its pulses as the paper has them: the signs of x, y, z, a and the speed
abbrev shown : Option Move → List Paper
shown (Some m) = map (λ (s : Stepped). next_paper (Some s)) (all_pulses m m.start)
shown None = []

abbrev pulse : ℤ → ℤ → ℤ → Paper
pulse x y v = says 1 (x ∷ y ∷ pos 0 ∷ pos 0 ∷ v ∷ [])

-- a plan of one phase: its three resting points are one, and so are its speeds
abbrev rests : ℤ → ℤ → ℤ → Paper
rests x y v = says 48 (x ∷ y ∷ pos 0 ∷ pos 0 ∷ x ∷ y ∷ pos 0 ∷ pos 0 ∷ x ∷ y ∷ pos 0 ∷ pos 0 ∷ v ∷ v ∷ v ∷ [])

pub record Examples : Type 0 where
  -- (1) `@0A3,600,1,900` under axes 3: +.., ++., +.., each at 600
  pub one : shown (pair (pos 3) 600 (pos 1) 900) ≡ pulse (pos 1) (pos 0) (pos 600) ∷ pulse (pos 1) (pos 1) (pos 600) ∷ pulse (pos 1) (pos 0) (pos 600) ∷ []
  pub one-rests : planned_paper (pair (pos 3) 600 (pos 1) 900) ≡ rests (pos 3) (pos 1) (pos 600)
  -- (2) distances 4,-2: x with y, x, x with y, x
  pub two :
      shown (pair (pos 4) 600 (negsuc 1) 900)
      ≡ pulse (pos 1) (negsuc 0) (pos 600) ∷ pulse (pos 1) (pos 0) (pos 600) ∷ pulse (pos 1) (negsuc 0) (pos 600) ∷ pulse (pos 1) (pos 0) (pos 600) ∷ []
  pub two-rests : planned_paper (pair (pos 4) 600 (negsuc 1) 900) ≡ rests (pos 4) (negsuc 1) (pos 600)
  -- (12) 8,388,607 plus 1 is 9
  pub twelve : planned_paper (along (pos 8388607) (pos 1) 600) ≡ says 57 []

pub examples : Examples
unfolding word signed within in24 placed added in_speed in_zero right_z2 right_distances right_speeds pulses steps sign_at goal goal_of goal_z2 first_speed later_speed route going_to plan_of from_of to_of speed_at skipped next_by pulse_of after_of left_of pulses_of
examples = record { one = refl; one-rests = refl; two = refl; two-rests = refl; twelve = refl }
