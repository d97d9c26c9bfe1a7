-- The laws of the next pulse: both rules agree on a movement that passes the test of 103, a pulse keeps that it passes, and lowers the
-- number of pulses left by one. Assumes nothing.
use Rattle.std.specs.Prelude.{Option, Some, None}
use mathlib.Core.Path.{◌≡◌, refl, sym, ap, ◌∙◌}
use mathlib.Core.Bool.{Bool, true, false}
use Prim.Native.Nat.{ℕ, ◌+◌, ◌≤◌, ◌<◌}
use native.Mathlib.Omega.{arith}
use lib.Dec.{ltb}
use borrow.Author.Tests.{lt-ltb, le-ltb, ltb-true, ltb-false}
use Rattle.count.specs.Pick.{pick}
use Rattle.count.specs.Numbers.{far, full}
use Rattle.count.specs.declared.Axis.{Axis}
use Rattle.count.proofs.laws.Axes.{each_of}
use Rattle.motion.specs.declared.Counters.{Counters}
use Rattle.motion.specs.declared.Sign.{Sign}
use Rattle.motion.specs.declared.Signs.{Signs}
use Rattle.motion.specs.declared.Move.{Move}
use Rattle.motion.specs.declared.Stepped.{Stepped}
use Rattle.motion.specs.work.Here.{sign_here}
use Rattle.motion.specs.Axes.{on, shows, pulse}
use Rattle.motion.specs.Phase.{sign_at, count_after, moved, moved_all}
use Rattle.motion.specs.work.Here.{next_of}
use Rattle.motion.specs.Next.{from_of, to_of, leg, at_phase, settled, SignRule, signs_by, stepped, next_by, pulse_of, after_of, left_of}
use Rattle.motion.specs.Sound.{speed_right, counted, under_way}
use Rattle.motion.proofs.laws.Room.{room-here}
use Rattle.motion.specs.work.Room.{RoomFor, HasRoom}
use Rattle.motion.proofs.laws.Axis.{here-is-at, count_next, count_small}
use Rattle.motion.proofs.laws.Points.{shows-pulse, on-moved}
use Rattle.motion.proofs.laws.Pulses.{In24}
use Rattle.motion.proofs.laws.Passed.{Ranges, speed-in, from_in, to_in, leg-on, Passed, passed, passes, counted_of}
use Rattle.motion.proofs.laws.Skip.{Stood, stood_settled, settled-past, leg-past, left-past, left-settled, third-settled}

-- ---- the two cases of a next pulse

abbrev pub pulse_by : SignRule → Move → Counters → Stepped
pulse_by rule m at = stepped m at (signs_by rule at (from_of m) (to_of m) m.made (leg m))

never : {A : Type 0} {s : Stepped} → None ≡ Some s → A
never p = let z : ◌≡◌ {A = ℕ} 0 1 = cc in absurd (omega arith)

never' : {A : Type 0} {s : Stepped} → Some s ≡ None → A
never' p = let z : ◌≡◌ {A = ℕ} 0 1 = cc in absurd (omega arith)

made_by : (t : Bool) (p s : Stepped) → pick t (Some p) None ≡ Some s → (t ≡ true) × (s ≡ p)
made_by true p s e = (refl, cc)
made_by false p s e = never e

over_by : (t : Bool) (p : Stepped) → pick t (Some p) None ≡ None → t ≡ false
over_by true p e = never' e
over_by false p e = refl

module _ (rule : SignRule) (m : Move) (at : Counters) where
  -- a pulse made is the next of the phase that has one left
  pub made-is : {s : Stepped} → next_by rule m at ≡ Some s → ((settled m).made < leg (settled m)) × (s ≡ pulse_by rule (settled m) at)
  unfolding next_by
  made-is {s} e =
      let b = made_by (ltb (settled m).made (leg (settled m))) (pulse_by rule (settled m) at) s e in
      (ltb-true (settled m).made (leg (settled m)) b.0, b.1)

  -- and none is left where no phase has one
  pub over-is : next_by rule m at ≡ None → leg (settled m) ≤ (settled m).made
  unfolding next_by
  over-is e = ltb-false (settled m).made (leg (settled m)) (over_by (ltb (settled m).made (leg (settled m))) (pulse_by rule (settled m) at) e)

-- ---- pulses left, of any movement and under any rule

left_step : (m : Move) → m.made < leg m → left_of m ≡ left_of (at_phase m m.phase (m.made + 1)) + 1
unfolding left_of after_of from_of to_of
left_step m h = omega arith

module _ (rule : SignRule) (m : Move) (at : Counters) where
  -- a pulse lowers their number by one
  pub left-made : {s : Stepped} → next_by rule m at ≡ Some s → left_of m ≡ left_of s.rest + 1
  left-made e =
      let b = made-is rule m at e in
      rw b.1 (sym (left-settled m) ∙ left_step (settled m) b.0)

  -- none is left where none is made
  pub left_over : next_by rule m at ≡ None → left_of m ≡ 0
  left_over e = sym (left-settled m) ∙ left-past (settled m) (settled-past m (over-is rule m at e))

-- whether a pulse is made
abbrev pub is_made : Option Stepped → Bool
is_made (Some s) = true
is_made None = false

-- exactly if one is left
pub left-next : (rule : SignRule) (m : Move) (at : Counters) → is_made (next_by rule m at) ≡ ltb 0 (left_of m)
left-next rule m at = by (next_by rule m at) refl
  where
    by : (n : Option Stepped) → next_by rule m at ≡ n → is_made n ≡ ltb 0 (left_of m)
    by (Some s) e = sym (lt-ltb 0 (left_of m) (omega (arith, left-made rule m at e)))
    by None e = sym (le-ltb 0 (left_of m) (omega (arith, left_over rule m at e)))

-- ---- one axis that stands where the pulse number puts it

module _ (at k from to n : ℕ) (e : at ≡ count_after k from to n) (l : k < n) (f : far from to ≤ n) where
  axis-agrees : sign_here at from to k n ≡ sign_at k from to n
  axis-agrees = rw e (here-is-at k from to n l f)

  axis-next : moved at (sign_at k from to n) ≡ count_after (k + 1) from to n
  axis-next = rw e (count_next k from to n (omega arith) f)

  axis-room : from < full → to < full → RoomFor at (sign_at k from to n)
  axis-room a b =
      let s : at < full = rw e (count_small k from to n f (omega arith) a b) in
      rw axis-agrees at (room-here at from to k n l f (omega arith) (omega arith) (omega arith))

-- ---- a movement that passes the test of 103

abbrev pub formula : SignRule
formula here from to k n = sign_at k from to n

pub stood : (m : Move) (at : Counters) → under_way m at ≡ true → Stood m at
stood m at u = let p = passed m at u in record { ranges = p.ranges; made = p.made; stands = p.stands }

module _ (m : Move) (at : Counters) (s : Stood m at) (l : m.made < leg m) where
  r : Ranges m
  r = s.ranges

  -- both rules show the same
  agrees : signs_by sign_here at (from_of m) (to_of m) m.made (leg m) ≡ signs_by formula at (from_of m) (to_of m) m.made (leg m)
  agrees =
      let h : (i : Axis) → sign_here (on i at) (on i (from_of m)) (on i (to_of m)) m.made (leg m) ≡ sign_at m.made (on i (from_of m)) (on i (to_of m)) (leg m) =
      λ i. axis-agrees (on i at) m.made (on i (from_of m)) (on i (to_of m)) (leg m) (s.stands i) l (leg-on m r i) in
      λ j. pulse (λ i. h i j)

  -- what the pulse shows on an axis
  shown-on : (i : Axis) → shows i (pulse_by formula m at).signs ≡ sign_at m.made (on i (from_of m)) (on i (to_of m)) (leg m)
  shown-on = shows-pulse (λ (i : Axis). sign_at m.made (on i (from_of m)) (on i (to_of m)) (leg m))

  -- every count has room for its sign
  rooms : HasRoom at (pulse_by formula m at).signs
  rooms =
      each_of (λ (i : Axis). RoomFor (on i at) (shows i (pulse_by formula m at).signs))
      (λ i. rw (shown-on i)
      (axis-room (on i at) m.made (on i (from_of m)) (on i (to_of m)) (leg m) (s.stands i) l (leg-on m r i) ((from_in m r).each i) ((to_in m r).each i)))

  within-phases : m.phase < 3
  within-phases = by (ltb m.phase 3) refl
    where
      by : (t : Bool) → ltb m.phase 3 ≡ t → m.phase < 3
      by true e = ltb-true m.phase 3 e
      by false e = absurd (omega (arith, leg-past m (ltb-false m.phase 3 e)))

  -- an axis after the pulse
  next-on : (i : Axis) → on i (pulse_by formula m at).at ≡ count_after (m.made + 1) (on i (from_of m)) (on i (to_of m)) (leg m)
  next-on i =
      on-moved at (pulse_by formula m at).signs i ∙ ap (λ (g : Sign). moved (on i at) g) (shown-on i)
      ∙ axis-next (on i at) m.made (on i (from_of m)) (on i (to_of m)) (leg m) (s.stands i) l (leg-on m r i)

  -- the movement after the pulse passes at the counters after it
  goes_on : Passed (pulse_by formula m at).rest (pulse_by formula m at).at
  unfolding from_of to_of
  goes_on = record {
    ranges = record { speed1 = r.speed1; speed2 = r.speed2; speed3 = r.speed3; start = r.start; first = r.first; second = r.second; third = r.third };
    phase = within-phases;
    made = omega arith;
    stands = next-on;
  }

  -- which are of 24 bits
  stays : In24 (pulse_by formula m at).at
  stays = record {
    each = λ i. rw (next-on i)
        (count_small (m.made + 1) (on i (from_of m)) (on i (to_of m)) (leg m) (leg-on m r i) (omega arith) ((from_in m r).each i) ((to_in m r).each i));
  }

-- the code's rule is 01's
pub next-is-pulse : (m : Move) (at : Counters) → under_way m at ≡ true → next_of m at ≡ pulse_of m at
unfolding next_of pulse_of next_by
next-is-pulse m at u = by (ltb (settled m).made (leg (settled m))) refl
  where
    by : (t : Bool) → ltb (settled m).made (leg (settled m)) ≡ t
        → pick t (Some (pulse_by sign_here (settled m) at)) None ≡ pick t (Some (pulse_by formula (settled m) at)) None
    by true e =
        ap (λ (g : Signs). Some (stepped (settled m) at g))
        (agrees (settled m) at (stood_settled m at (stood m at u)) (ltb-true (settled m).made (leg (settled m)) e))
    by false e = refl

-- what a pulse of such a movement leaves
pub record Taken (m : Move) (at : Counters) (s : Stepped) : Type 0 where
  pub there : s.at ≡ moved_all at s.signs
  pub rooms : HasRoom at s.signs
  pub speed : speed_right s.speed ≡ true
  pub third : s.rest.third ≡ m.third
  pub sound : under_way s.rest s.at ≡ true
  pub small : counted s.at ≡ true
  pub left : left_of m ≡ left_of s.rest + 1

pub taken : (m : Move) (at : Counters) {s : Stepped} → under_way m at ≡ true → pulse_of m at ≡ Some s → Taken m at s
unfolding pulse_of
taken m at u e =
    let b = made-is formula m at e in
    let t = settled m in
    let d = stood_settled m at (stood m at u) in
    let p = pulse_by formula t at in
    rw b.1
    (record {
      there = refl;
      rooms = rooms t at d b.0;
      speed = speed-in t d.ranges (t.made + 1);
      third = third-settled m;
      sound = passes p.rest p.at (goes_on t at d b.0);
      small = counted_of p.at (stays t at d b.0);
      left = sym (left-settled m) ∙ left_step t b.0;
    })

-- next pulse keeps that a movement passes, and the counters of 24 bits
pub next-keeps : (m : Move) (at : Counters) {s : Stepped} → under_way m at ≡ true → next_of m at ≡ Some s
    → (under_way s.rest s.at ≡ true) × (counted s.at ≡ true)
next-keeps m at u e = let t = taken m at u (sym (next-is-pulse m at u) ∙ e) in (t.sound, t.small)
