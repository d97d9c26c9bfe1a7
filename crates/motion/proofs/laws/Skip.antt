-- The laws of passing over phases that have no pulse left. Assumes nothing.
use mathlib.Core.Path.{◌≡◌, refl, ◌∙◌}
use mathlib.Core.Bool.{Bool, true, false}
use Prim.Native.Nat.{ℕ, zero, suc, ◌+◌, ◌-◌, ◌≤◌, ◌<◌}
use native.Mathlib.Omega.{arith}
use lib.Dec.{ltb, leb, eqb}
use borrow.Author.Tests.{lt-ltb, ne_eqb, ltb-true, ltb-false, leb-true, leb-false}
use Rattle.count.specs.Pick.{pick}
use Rattle.count.specs.Numbers.{far}
use Rattle.count.specs.declared.Axis.{Axis}
use Rattle.motion.specs.declared.Counters.{Counters}
use Rattle.motion.specs.declared.Move.{Move}
use Rattle.motion.specs.Axes.{on}
use Rattle.motion.specs.Phase.{most, pulses, count_after}
use Rattle.motion.specs.Next.{from_of, to_of, leg, at_phase, skipped, settled, after_of, left_of}
use Rattle.motion.proofs.laws.Axis.{count-first, count-last}
use Rattle.motion.proofs.laws.Passed.{Ranges, leg-on}

-- the movement at the start of the phase after
abbrev pub onward : Move → Move
onward m = at_phase m (m.phase + 1) 0

-- what holds of a movement past its phases or with a pulse left, and of one at the start of the next phase, holds past the skip
pub skip-with : (P : Move → Type 0) (m : Move) → (3 ≤ m.phase → P m) → (m.made < leg m → P m) → (m.phase < 3 → leg m ≤ m.made → P (onward m)) → P (skipped m)
unfolding skipped
skip-with P m past left on = by (leb 3 m.phase) (ltb m.made (leg m)) refl refl
  where
    by : (a b : Bool) → leb 3 m.phase ≡ a → ltb m.made (leg m) ≡ b → P (pick a m (pick b m (onward m)))
    by true b e f = past (leb-true 3 m.phase e)
    by false true e f = left (ltb-true m.made (leg m) f)
    by false false e f = on (leb-false 3 m.phase e) (ltb-false m.made (leg m) f)

-- what a skip keeps, three keep
settled-with : (P : Move → Type 0) → ((m : Move) → P m → P (skipped m)) → (m : Move) → P m → P (settled m)
settled-with P f m p = f (skipped (skipped m)) (f (skipped m) (f m p))

-- ---- a phase with a pulse left is not passed over

skipped-here : (b : Bool) (m n : Move) → pick b m (pick true m n) ≡ m
skipped-here true m n = refl
skipped-here false m n = refl

pub skip-here : (m : Move) → m.made < leg m → skipped m ≡ m
unfolding skipped
skip-here m h = rw (lt-ltb m.made (leg m) h) (skipped-here (leb 3 m.phase) m (onward m))

pub settled_here : (m : Move) → m.made < leg m → settled m ≡ m
settled_here m h = rw (skip-here m h, skip-here m h, skip-here m h)

-- ---- one without is: after three skips a pulse is left, or no phase

near-skip : (k : ℕ) (m : Move) → k ≤ 2 → (leg m ≤ m.made → k ≤ m.phase) → leg (skipped m) ≤ (skipped m).made → k + 1 ≤ (skipped m).phase
near-skip k m s h =
    skip-with (λ (n : Move). leg n ≤ n.made → k + 1 ≤ n.phase) m
    (λ past l. omega arith) (λ left l. absurd (omega arith)) (λ on done l. omega (arith, h done))

pub settled-past : (m : Move) → leg (settled m) ≤ (settled m).made → 3 ≤ (settled m).phase
settled-past m = near-skip 2 (skipped (skipped m)) (omega arith) (near-skip 1 (skipped m) (omega arith) (near-skip 0 m (omega arith) (λ h. omega arith)))

-- past the third phase there is nowhere to go
module _ (m : Move) (h : 3 ≤ m.phase) where
  pub from_past : from_of m ≡ m.third
  unfolding from_of
  from_past = rw (ne_eqb m.phase 0 (λ e. omega arith), ne_eqb m.phase 1 (λ e. omega arith), ne_eqb m.phase 2 (λ e. omega arith))

  pub to-past : to_of m ≡ m.third
  unfolding to_of
  to-past = rw (ne_eqb m.phase 0 (λ e. omega arith), ne_eqb m.phase 1 (λ e. omega arith))

  after-past : after_of m ≡ 0
  unfolding after_of
  after-past = rw (ne_eqb m.phase 0 (λ e. omega arith), ne_eqb m.phase 1 (λ e. omega arith))

far_none : (n : ℕ) → far n n ≡ 0
far_none n = omega arith

most-none : (c : Counters) → most c c ≡ 0
most-none c = rw (far_none c.x, far_none c.y, far_none c.z, far_none c.a)

pulses-none : (c : Counters) → pulses c c ≡ 0
unfolding pulses
pulses-none c = rw (most-none c)

pub leg-past : (m : Move) → 3 ≤ m.phase → leg m ≡ 0
leg-past m h = rw (from_past m h, to-past m h) (pulses-none m.third)

pub left-past : (m : Move) → 3 ≤ m.phase → left_of m ≡ 0
unfolding left_of
left-past m h = rw (leg-past m h, after-past m h) (omega arith)

-- ---- the next phase starts where this one ends

joined_at : (p : ℕ) (a b c d : Counters) → p < 3
    → pick (eqb (p + 1) 0) a (pick (eqb (p + 1) 1) b (pick (eqb (p + 1) 2) c d)) ≡ pick (eqb p 0) b (pick (eqb p 1) c d)
joined_at zero a b c d h = refl
joined_at (suc zero) a b c d h = refl
joined_at (suc (suc zero)) a b c d h = refl
joined_at (suc (suc (suc p))) a b c d h = absurd (omega arith)

pub joined : (m : Move) → m.phase < 3 → from_of (onward m) ≡ to_of m
unfolding from_of to_of
joined m h = joined_at m.phase m.start m.first m.second m.third h

-- ---- what a skip keeps

-- the last resting point
pub third-skip : (m : Move) → (skipped m).third ≡ m.third
third-skip m = skip-with (λ (n : Move). n.third ≡ m.third) m (λ p. refl) (λ l. refl) (λ o d. refl)

pub third-settled : (m : Move) → (settled m).third ≡ m.third
third-settled m = third-skip (skipped (skipped m)) ∙ third-skip (skipped m) ∙ third-skip m

-- the pulses left
left_at : (p : ℕ) (a b c d : Counters) → p < 3
    → (pulses (pick (eqb (p + 1) 0) a (pick (eqb (p + 1) 1) b (pick (eqb (p + 1) 2) c d))) (pick (eqb (p + 1) 0) b (pick (eqb (p + 1) 1) c d)) - 0)
    + pick (eqb (p + 1) 0) (pulses b c + pulses c d) (pick (eqb (p + 1) 1) (pulses c d) 0)
    ≡ pick (eqb p 0) (pulses b c + pulses c d) (pick (eqb p 1) (pulses c d) 0)
left_at zero a b c d h = omega arith
left_at (suc zero) a b c d h = omega arith
left_at (suc (suc zero)) a b c d h = omega (arith, pulses-none d)
left_at (suc (suc (suc p))) a b c d h = absurd (omega arith)

left-onward : (m : Move) → m.phase < 3 → leg m ≤ m.made → left_of (onward m) ≡ left_of m
unfolding left_of after_of from_of to_of
left-onward m h l = left_at m.phase m.start m.first m.second m.third h ∙ omega arith

pub left-skip : (m : Move) → left_of (skipped m) ≡ left_of m
left-skip m = skip-with (λ (n : Move). left_of n ≡ left_of m) m (λ p. refl) (λ l. refl) (λ o d. left-onward m o d)

pub left-settled : (m : Move) → left_of (settled m) ≡ left_of m
left-settled m = left-skip (skipped (skipped m)) ∙ left-skip (skipped m) ∙ left-skip m

-- and, of a movement in range, that the axes stand where the pulse number puts them
pub record Stood (m : Move) (at : Counters) : Type 0 where
  pub ranges : Ranges m
  pub made : m.made ≤ leg m
  pub stands : (i : Axis) → on i at ≡ count_after m.made (on i (from_of m)) (on i (to_of m)) (leg m)

ranges-onward : (m : Move) → Ranges m → Ranges (onward m)
ranges-onward m r =
    record { speed1 = r.speed1; speed2 = r.speed2; speed3 = r.speed3; start = r.start; first = r.first; second = r.second; third = r.third }

axis-onward : (at k from to n next n' : ℕ) → at ≡ count_after k from to n → k ≡ n → far from to ≤ n → at ≡ count_after 0 to next n'
axis-onward at k from to n next n' e d f = rw (e, d, count-last from to n f, count-first to next n')

stood-onward : (m : Move) (at : Counters) → Stood m at → m.phase < 3 → leg m ≤ m.made → Stood (onward m) at
stood-onward m at s o d =
    let r = s.ranges in
    let j = joined m o in
    let t = to_of (onward m) in
    let k : m.made ≡ leg m = omega arith in
    record {
      ranges = ranges-onward m r;
      made = omega arith;
      stands = λ i. rw j
          (axis-onward (on i at) m.made (on i (from_of m)) (on i (to_of m)) (leg m) (on i t) (pulses (to_of m) t) (s.stands i) k (leg-on m r i));
    }

pub stood_settled : (m : Move) (at : Counters) → Stood m at → Stood (settled m) at
stood_settled m at =
    settled-with (λ (n : Move). Stood n at)
    (λ n s. skip-with (λ (o : Move). Stood o at) n (λ p. s) (λ l. s) (λ o d. stood-onward n at s o d)) m
