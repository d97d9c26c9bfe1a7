-- The pulses of what moves, one after another: whether one is left, their number and their sum. Assumes nothing.
use Rattle.std.specs.Prelude.{Option, Some, None}
use Rattle.motion.specs.declared.Beat.{Beat}
use mathlib.Core.Path.{◌≡◌, refl, sym, ap, ◌∙◌}
use mathlib.Core.Bool.{true}
use mathlib.Core.List.{List, [], ◌∷◌, map}
use Prim.Native.Nat.{ℕ, zero, suc, ◌+◌, ◌≤◌}
use native.Mathlib.Omega.{arith}
use lib.IntN.{ℤ, pos, ◌+ℤ◌, +ℤ_idr, +ℤ_assoc}
use lib.ListN.{length}
use Rattle.count.specs.Numbers.{value}
use Rattle.count.specs.declared.Axis.{Axis}
use Rattle.count.proofs.laws.Axes.{each_at}
use Rattle.motion.specs.declared.Signs.{Signs}
use Rattle.motion.specs.declared.Counters.{Counters}
use Rattle.motion.specs.declared.Move.{Move}
use Rattle.motion.specs.declared.Stepped.{Stepped as StraightStepped}
use Rattle.motion.specs.Phase.{moved_all, sign_value}
use Rattle.motion.specs.Next.{pulse_of as straight_pulse}
use Rattle.motion.specs.Axes.{on, shows}
use Rattle.motion.specs.work.Room.{RoomFor, HasRoom}
use Rattle.motion.proofs.laws.Points.{on-moved}
use Rattle.motion.proofs.laws.Whole.{over-left as straight-over, none_left as straight_none, value-moved, pulses_of as straight_pulses, pulse_then as straight_then}
use Rattle.circle.specs.declared.Arc.{Arc}
use Rattle.circle.specs.Arc.{arc_beat}
use Rattle.circle.proofs.laws.Beats.{over-left as arc-over, none_left as arc-none}
use Rattle.travel.specs.declared.Travel.{Travel}
use Rattle.travel.specs.declared.Travel.TheVariants as travel
use Rattle.travel.specs.Next.{Stepped, Next, straight_next, arc_next, pulse_of, left_of}
use Rattle.travel.specs.Next.Next.{Made, Over}
use Rattle.travel.specs.Sound.{under_way}
use Rattle.travel.proofs.laws.Beats.{never'}
use Rattle.travel.proofs.laws.Onward.{taken}

-- ---- whether one is left

straight-by : (n : Option StraightStepped) → straight_next n ≡ Over → n ≡ None
straight-by (Some s) p = never' p
straight-by None p = refl

arc-by : (a : Arc) (n : Option Beat) → arc_next a n ≡ Over → n ≡ None
arc-by a (Some b) p = never' p
arc-by a None p = refl

-- where none is made, none is left; an arc that 103 refuses may have none that it can make
pub over-left : (m : Travel) (at : Counters) → under_way m at ≡ true → pulse_of m at ≡ Over → left_of m ≡ 0
unfolding under_way pulse_of left_of
over-left (travel.Straight m) at u p = straight-over m at (straight-by (straight_pulse m at) p)
over-left (travel.Round a) at u p = arc-over a at u (arc-by a (arc_beat a at) p)

-- where none is left, none is made
pub none_left : (m : Travel) (at : Counters) → left_of m ≡ 0 → pulse_of m at ≡ Over
unfolding pulse_of left_of
none_left (travel.Straight m) at l = ap straight_next (straight_none m at l)
none_left (travel.Round a) at l = ap (λ (n : Option Beat). arc_next a n) (arc-none a at l)

-- ---- the pulses one after another, k at most

abbrev pub pulse_then : (Travel → Counters → List Stepped) → Next → List Stepped
pulse_then f (Made s) = s ∷ f s.rest s.at
pulse_then f Over = []

unfoldable pub pulses_of : ℕ → Travel → Counters → List Stepped
pulses_of zero m at = []
pulses_of (suc k) m at = pulse_then (pulses_of k) (pulse_of m at)

-- the counters after them, and what is left
abbrev pub reached : Counters → List Stepped → Counters
reached at [] = at
reached at (s ∷ l) = reached s.at l

abbrev pub remains : Travel → List Stepped → Travel
remains m [] = m
remains m (s ∷ l) = remains s.rest l

-- ---- an axis

-- the sum of what pulses show on it
abbrev pub total : Axis → List Stepped → ℤ
total a [] = pos 0
total a (s ∷ l) = sign_value (shows a s.signs) +ℤ total a l

-- a pulse's sign is its number added to the axis's
pub value-pulsed : (i : Axis) (at : Counters) (s : Signs) → HasRoom at s → value (on i (moved_all at s)) ≡ value (on i at) +ℤ sign_value (shows i s)
value-pulsed i at s r =
    ap value (on-moved at s i) ∙ value-moved (on i at) (shows i s) (each_at (λ (j : Axis). RoomFor (on j at) (shows j s)) r i)

-- ---- the first k pulses of what 103 lets pass

-- they are k if so many are left, they add up on each axis to where they lead, and what remains passes there with as many fewer left
pub record First (k : ℕ) (m : Travel) (at : Counters) : Type 0 where
  pub count : k ≤ left_of m → length (pulses_of k m at) ≡ k
  pub sums : (a : Axis) → value (on a at) +ℤ total a (pulses_of k m at) ≡ value (on a (reached at (pulses_of k m at)))
  pub sound : under_way (remains m (pulses_of k m at)) (reached at (pulses_of k m at)) ≡ true
  pub left : left_of m ≡ left_of (remains m (pulses_of k m at)) + length (pulses_of k m at)

-- one pulse more in front
plus_one : (a b c d : ℕ) → a ≡ b + 1 → b ≡ c + d → a ≡ c + suc d
plus_one a b c d p q = omega arith

module _ (k : ℕ) (rec : (m : Travel) (at : Counters) → under_way m at ≡ true → First k m at) (m : Travel) (at : Counters) (u : under_way m at ≡ true) where
  one_more : (n : Next) → pulse_of m at ≡ n → First (suc k) m at
  unfolding pulses_of
  one_more (Made s) e =
      let t = taken m at u e in
      let w = rec s.rest s.at t.sound in
      let l = pulses_of k s.rest s.at in
      record {
        count = λ h. rw e (ap suc (w.count (omega (arith, t.left))));
        sums = λ a.
            rw e
            (sym (+ℤ_assoc (value (on a at)) (sign_value (shows a s.signs)) (total a l))
            ∙ ap (λ (v : ℤ). v +ℤ total a l) (sym (value-pulsed a at s.signs t.rooms) ∙ ap (λ (c : Counters). value (on a c)) (sym t.there))
            ∙ w.sums a);
        sound = rw e w.sound;
        left = rw e (plus_one (left_of m) (left_of s.rest) (left_of (remains s.rest l)) (length l) t.left w.left);
      }
  one_more Over e =
      record {
        count = λ h. absurd (omega (arith, over-left m at u e));
        sums = λ a. rw e (+ℤ_idr (value (on a at)));
        sound = rw e u;
        left = rw e (omega arith);
      }

pub first : (k : ℕ) (m : Travel) (at : Counters) → under_way m at ≡ true → First k m at
unfolding pulses_of
first zero m at u = record { count = λ h. refl; sums = λ a. +ℤ_idr (value (on a at)); sound = u; left = omega arith }
first (suc k) m at u = one_more k (first k) m at u (pulse_of m at) refl

-- THEIR NUMBER: as many as are left, and of fewer each is made
pub count_of : (k : ℕ) (m : Travel) (at : Counters) → under_way m at ≡ true → k ≤ left_of m → length (pulses_of k m at) ≡ k
count_of k m at u h = (first k m at u).count h

pub count : (m : Travel) (at : Counters) → under_way m at ≡ true → length (pulses_of (left_of m) m at) ≡ left_of m
count m at u = count_of (left_of m) m at u (omega arith)

-- THEIR SUM, on each axis: from where it stands to where they lead
pub sums : (a : Axis) (k : ℕ) (m : Travel) (at : Counters) → under_way m at ≡ true
    → value (on a at) +ℤ total a (pulses_of k m at) ≡ value (on a (reached at (pulses_of k m at)))
sums a k m at u = (first k m at u).sums a

-- each pulse by itself
pub sum_one : (a : Axis) (m : Travel) (at : Counters) {s : Stepped} → under_way m at ≡ true → pulse_of m at ≡ Made s
    → value (on a s.at) ≡ value (on a at) +ℤ sign_value (shows a s.signs)
sum_one a m at {s} u e =
    let t = taken m at u e in
    ap (λ (c : Counters). value (on a c)) t.there ∙ value-pulsed a at s.signs t.rooms

-- THERE ARE NO MORE: asked for any number beyond those left, those left are made
module _ (j k : ℕ) (rec : (m : Travel) (at : Counters) → under_way m at ≡ true → left_of m ≡ k → pulses_of (k + j) m at ≡ pulses_of k m at)
    (m : Travel) (at : Counters) (u : under_way m at ≡ true) (h : left_of m ≡ suc k) where
  same_after : (n : Next) → pulse_of m at ≡ n → pulse_then (pulses_of (k + j)) n ≡ pulse_then (pulses_of k) n
  same_after (Made s) e =
      let t = taken m at u e in
      ap (λ (l : List Stepped). s ∷ l) (rec s.rest s.at t.sound (omega (arith, t.left)))
  same_after Over e = refl

none_more : (j : ℕ) (m : Travel) (at : Counters) → left_of m ≡ 0 → pulses_of j m at ≡ []
unfolding pulses_of
none_more zero m at l = refl
none_more (suc j) m at l = rw (none_left m at l)

more-from : (j k : ℕ) (m : Travel) (at : Counters) → under_way m at ≡ true → left_of m ≡ k → pulses_of (k + j) m at ≡ pulses_of k m at
unfolding pulses_of
more-from j zero m at u l =
    let e : 0 + j ≡ j = omega arith in
    ap (λ (n : ℕ). pulses_of n m at) e ∙ none_more j m at l
more-from j (suc k) m at u l =
    let e : suc k + j ≡ suc (k + j) = omega arith in
    ap (λ (n : ℕ). pulses_of n m at) e ∙ same_after j k (more-from j k) m at u l (pulse_of m at) refl

pub no_more : (j : ℕ) (m : Travel) (at : Counters) → under_way m at ≡ true → pulses_of (left_of m + j) m at ≡ pulses_of (left_of m) m at
no_more j m at u = more-from j (left_of m) m at u refl

-- ---- a straight movement's pulses are those of motion, and so are their laws

abbrev pub straight_step : StraightStepped → Stepped
straight_step s = record { signs = s.signs; speed = s.speed; at = s.at; rest = travel.Straight s.rest }

straight_then-is : (k : ℕ) → ((m : Move) (at : Counters) → pulses_of k (travel.Straight m) at ≡ map straight_step (straight_pulses k m at)) → (n : Option StraightStepped)
    → pulse_then (pulses_of k) (straight_next n) ≡ map straight_step (straight_then (straight_pulses k) n)
straight_then-is k rec (Some s) = ap (λ (l : List Stepped). straight_step s ∷ l) (rec s.rest s.at)
straight_then-is k rec None = refl

pub straight-pulses : (k : ℕ) (m : Move) (at : Counters) → pulses_of k (travel.Straight m) at ≡ map straight_step (straight_pulses k m at)
unfolding pulses_of straight_pulses pulse_of
straight-pulses zero m at = refl
straight-pulses (suc k) m at = straight_then-is k (straight-pulses k) (straight_pulse m at)
