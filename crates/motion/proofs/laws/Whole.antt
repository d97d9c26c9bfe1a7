-- The whole movement: its pulses one after another, their number and their sum. Assumes nothing.
use Rattle.std.specs.Prelude.{Option, Some, None}
use mathlib.Core.Path.{◌≡◌, refl, sym, ap, ◌∙◌}
use mathlib.Core.Bool.{true}
use mathlib.Core.List.{List, [], ◌∷◌}
use Prim.Native.Nat.{ℕ, zero, suc, ◌+◌, ◌-◌, ◌≤◌}
use native.Mathlib.Omega.{arith}
use lib.IntN.{ℤ, pos, ◌+ℤ◌, +ℤ_idr, +ℤ_assoc}
use lib.ListN.{length}
use Rattle.count.specs.Numbers.{far, half, value}
use Rattle.count.specs.declared.Axis.{Axis}
use Rattle.count.proofs.laws.Axes.{each_at}
use Rattle.count.proofs.laws.Laws.{sub-eq, sub-plus, sub-minus}
use Rattle.motion.specs.declared.Counters.{Counters}
use Rattle.motion.specs.declared.Sign.{Sign}
use Rattle.motion.specs.declared.Sign.TheVariants.{Minus, Rest, Plus}
use Rattle.motion.specs.declared.Move.{Move}
use Rattle.motion.specs.declared.Stepped.{Stepped}
use Rattle.motion.specs.Axes.{on, shows}
use Rattle.motion.specs.Phase.{most, pulses, count_after, moved, sign_value}
use Rattle.motion.specs.Plan.{Asked, plan_of}
use Rattle.motion.specs.work.Here.{next_of}
use Rattle.motion.specs.Next.{from_of, to_of, leg, settled, pulse_of, after_of, left_of}
use Rattle.motion.specs.Sound.{counted, under_way}
use Rattle.motion.specs.work.Room.{RoomFor, HasRoom}
use Rattle.motion.proofs.laws.Axis.{count-first, count-last}
use Rattle.motion.proofs.laws.Points.{on-moved, same_point}
use Rattle.motion.proofs.laws.Pulses.{pulses-most}
use Rattle.motion.proofs.laws.Passed.{passed, leg-on}
use Rattle.motion.proofs.laws.Plans.{plan-sound, planned-first}
use Rattle.motion.proofs.laws.Skip.{stood_settled, settled-past, leg-past, from_past, third-settled}
use Rattle.motion.proofs.laws.Onward.{formula, stood, next-is-pulse, taken, left-made, left_over, over-is}

-- ---- at the end of a phase the counters are its resting point

axis-last : (at k from to n : ℕ) → at ≡ count_after k from to n → k ≡ n → far from to ≤ n → at ≡ to
axis-last at k from to n e d f = rw (e, d) (count-last from to n f)

axis-first : (at k from to n : ℕ) → at ≡ count_after k from to n → k ≡ 0 → at ≡ from
axis-first at k from to n e d = rw (e, d) (count-first from to n)

pub at-resting-point : (m : Move) (at : Counters) → under_way m at ≡ true → m.made ≡ leg m → at ≡ to_of m
at-resting-point m at u e =
    let p = passed m at u in
    same_point (λ i. axis-last (on i at) m.made (on i (from_of m)) (on i (to_of m)) (leg m) (p.stands i) e (leg-on m p.ranges i))

-- ---- no guard is met: the pulses of each phase are its greatest distance, and each count has room for its sign

pub no-guard : (m : Move) (at : Counters) → under_way m at ≡ true
    → (pulses m.start m.first ≡ most m.start m.first) × (pulses m.first m.second ≡ most m.first m.second)
    × (pulses m.second m.third ≡ most m.second m.third) × ((s : Stepped) → next_of m at ≡ Some s → HasRoom at s.signs)
no-guard m at u =
    let r = (passed m at u).ranges in (
      pulses-most m.start m.first r.start r.first,
      pulses-most m.first m.second r.first r.second,
      pulses-most m.second m.third r.second r.third,
      λ s e. (taken m at u (sym (next-is-pulse m at u) ∙ e)).rooms,
    )

-- ---- the pulses of a movement one after another, k at most

abbrev pub pulse_then : (Move → Counters → List Stepped) → Option Stepped → List Stepped
pulse_then f (Some s) = s ∷ f s.rest s.at
pulse_then f None = []

unfoldable pub pulses_of : ℕ → Move → Counters → List Stepped
pulses_of zero m at = []
pulses_of (suc k) m at = pulse_then (pulses_of k) (pulse_of m at)

-- all that are left
abbrev pub all_pulses : Move → Counters → List Stepped
all_pulses m at = pulses_of (left_of m) m at

-- the counters after them
abbrev pub reached : Counters → List Stepped → Counters
reached at [] = at
reached at (s ∷ l) = reached s.at l

-- the sum of what they show on an axis
abbrev pub total : Axis → List Stepped → ℤ
total i [] = pos 0
total i (s ∷ l) = sign_value (shows i s.signs) +ℤ total i l

-- a sign on a count is its number added to the count's
pub value-moved : (c : ℕ) (s : Sign) → RoomFor c s → value (moved c s) ≡ value c +ℤ sign_value s
value-moved c Minus h = sub-eq (c - 1) half c (half + 1) (omega arith) ∙ sym (sub-minus c half 0)
value-moved c Rest h = sym (+ℤ_idr (value c))
value-moved c Plus h = sym (sub-plus c half 1)

-- no pulse left: the counters are the last resting point
pub at_rest : (m : Move) (at : Counters) → under_way m at ≡ true → pulse_of m at ≡ None → at ≡ m.third
unfolding pulse_of
at_rest m at u e =
    let t = settled m in
    let s = stood_settled m at (stood m at u) in
    let h = settled-past m (over-is formula m at e) in
    let k : t.made ≡ 0 = omega (arith, s.made, leg-past t h) in
    let j : m.third ≡ t.third = sym (third-settled m) in
    let c = from_past t h in
    let there : at ≡ t.third =
    same_point (λ i. axis-first (on i at) t.made (on i (from_of t)) (on i (to_of t)) (leg t) (s.stands i) k ∙ ap (λ (p : Counters). on i p) c) in
    there ∙ sym j

-- the number of pulses is the number left, they end at the last resting point, and on each axis they add up from the start to it
pub record Whole (k : ℕ) (m : Move) (at : Counters) : Type 0 where
  pub count : length (pulses_of k m at) ≡ k
  pub ends : reached at (pulses_of k m at) ≡ m.third
  pub sums : (i : Axis) → value (on i at) +ℤ total i (pulses_of k m at) ≡ value (on i m.third)

-- one pulse more in front
axis-sum : (at there third : ℕ) (g : Sign) (rest : ℤ) → RoomFor at g → there ≡ moved at g → value there +ℤ rest ≡ value third
    → value at +ℤ (sign_value g +ℤ rest) ≡ value third
axis-sum at there third g rest h e p =
    sym (+ℤ_assoc (value at) (sign_value g) rest) ∙ ap (λ (v : ℤ). v +ℤ rest) (sym (value-moved at g h) ∙ ap (λ (c : ℕ). value c) (sym e)) ∙ p

-- where none is made, none is left
pub over-left : (m : Move) (at : Counters) → pulse_of m at ≡ None → left_of m ≡ 0
unfolding pulse_of
over-left m at e = left_over formula m at e

module _ (k : ℕ) (rec : (m : Move) (at : Counters) → under_way m at ≡ true → left_of m ≡ k → Whole k m at) (m : Move) (at : Counters) (u : under_way m at ≡ true) (l : left_of m ≡ suc k) where
  one_more : (n : Option Stepped) → pulse_of m at ≡ n → Whole (suc k) m at
  unfolding pulses_of
  one_more (Some s) e =
      let t = taken m at u e in
      let w = rec s.rest s.at t.sound (omega (arith, t.left)) in
      let v = t.third in
      record {
        count = rw e (ap suc w.count);
        ends = rw e (w.ends ∙ v);
        sums = λ i. rw e
            (axis-sum (on i at) (on i s.at) (on i m.third) (shows i s.signs) _ (each_at (λ (o : Axis). RoomFor (on o at) (shows o s.signs)) t.rooms i)
            (ap (λ (c : Counters). on i c) t.there ∙ on-moved at s.signs i) (w.sums i ∙ ap (λ (c : Counters). value (on i c)) v));
      }
  one_more None e = absurd (omega (arith, over-left m at e))

-- where none is left, none is made
pub none_left : (m : Move) (at : Counters) → left_of m ≡ 0 → pulse_of m at ≡ None
unfolding pulse_of
none_left m at l = by (pulse_of m at) refl
  where
    by : (n : Option Stepped) → pulse_of m at ≡ n → n ≡ None
    by (Some s) e = absurd (omega (arith, left-made formula m at e))
    by None e = refl

whole_from : (k : ℕ) (m : Move) (at : Counters) → under_way m at ≡ true → left_of m ≡ k → Whole k m at
unfolding pulses_of
whole_from zero m at u l =
    let e = at_rest m at u (none_left m at l) in
    record {
      count = refl;
      ends = e;
      sums = λ i. +ℤ_idr (value (on i at)) ∙ ap (λ (c : Counters). value (on i c)) e;
    }
whole_from (suc k) m at u l = one_more k (whole_from k) m at u l (pulse_of m at) refl

pub whole : (m : Move) (at : Counters) → under_way m at ≡ true → Whole (left_of m) m at
whole m at u = whole_from (left_of m) m at u refl

-- and there are no more: asked for any number beyond those left, a movement makes those left
module _ (j k : ℕ) (rec : (m : Move) (at : Counters) → left_of m ≡ k → pulses_of (k + j) m at ≡ pulses_of k m at) (m : Move) (at : Counters) (l : left_of m ≡ suc k) where
  same_after : (n : Option Stepped) → pulse_of m at ≡ n → pulse_then (pulses_of (k + j)) n ≡ pulse_then (pulses_of k) n
  unfolding pulse_of
  same_after (Some s) e = ap (λ (t : List Stepped). s ∷ t) (rec s.rest s.at (omega (arith, left-made formula m at e)))
  same_after None e = refl

none_more : (j : ℕ) (m : Move) (at : Counters) → left_of m ≡ 0 → pulses_of j m at ≡ []
unfolding pulses_of
none_more zero m at l = refl
none_more (suc j) m at l = rw (none_left m at l)

more-from : (j k : ℕ) (m : Move) (at : Counters) → left_of m ≡ k → pulses_of (k + j) m at ≡ pulses_of k m at
unfolding pulses_of
more-from j zero m at l =
    let e : 0 + j ≡ j = omega arith in
    ap (λ (n : ℕ). pulses_of n m at) e ∙ none_more j m at l
more-from j (suc k) m at l =
    let e : suc k + j ≡ suc (k + j) = omega arith in
    ap (λ (n : ℕ). pulses_of n m at) e ∙ same_after j k (more-from j k) m at l (pulse_of m at) refl

pub no_more : (j : ℕ) (m : Move) (at : Counters) → pulses_of (left_of m + j) m at ≡ all_pulses m at
no_more j m at = more-from j (left_of m) m at refl

sums : {a b c d e f : ℕ} → a ≡ d → b ≡ e → c ≡ f → (a - 0) + (b + c) ≡ d + (e + f)
sums p q r = omega arith

-- a movement not begun: its number of pulses is the sum over its phases of the greatest distance
pub sum-of-phases : (m : Move) (at : Counters) → under_way m at ≡ true → m.phase ≡ 0 → m.made ≡ 0
    → left_of m ≡ most m.start m.first + (most m.first m.second + most m.second m.third)
unfolding left_of after_of from_of to_of
sum-of-phases m at u p k =
    let g = no-guard m at u in
    rw (p, k) (sums g.0 g.1 g.2)

-- a planned movement: its pulses, as many as the phases' greatest distances in all, take the counters from where it was planned to its
-- last resting point
pub planned-whole : (q : Asked) (m : Move) → counted q.at ≡ true → plan_of q ≡ Some m
    → Whole (most m.start m.first + (most m.first m.second + most m.second m.third)) m q.at
planned-whole q m c e =
    let u = plan-sound q m c e in
    let f = planned-first q m e in
    rw (sum-of-phases m q.at u f.0 f.1) at (whole m q.at u)
