-- What the test of 103 on a movement rests on, alone and together with the next pulse: from its parts, as the code has them. Assumes nothing.
use Prim.Native.Nat.{ℕ, ◌≤◌, ◌<◌}
use mathlib.Core.Path.{◌≡◌, refl, ap, sym, ◌∙◌}
use mathlib.Core.Bool.{Bool, true, false, not, ◌&&◌, ◌||◌}
use native.Mathlib.Omega.{arith}
use lib.Dec.{ltb, leb, eqb}
use borrow.Author.Tests.{lt-ltb, le-leb, leb-true, leb-false, ltb-true, ltb-false}
use Rattle.count.specs.Axes.{on_all}
use Rattle.motion.specs.declared.Counters.{Counters}
use Rattle.motion.specs.declared.Signs.{Signs}
use Rattle.motion.specs.declared.Move.{Move}
use Rattle.motion.specs.declared.Mark.{Mark}
use Rattle.motion.specs.declared.Beat.{Beat}
use Rattle.motion.specs.declared.Look.{Look}
use Rattle.motion.specs.declared.Look.TheVariants as look
use Rattle.motion.specs.Axes.{on}
use Rattle.motion.specs.work.Room.{NoFurther}
use Rattle.motion.specs.Phase.{pulses, count_after}
use Rattle.motion.specs.Next.{leg, from_of, to_of, signs_by, stepped}
use Rattle.motion.specs.Sound.{in_range, under_way}
use Rattle.motion.specs.work.Here.{sign_here, next_of}
use Rattle.motion.specs.work.Beat.{mark_of, at_mark, beat_of, looked_by, look_of}
use Rattle.motion.proofs.Standing.{ready_at}
use Rattle.motion.proofs.Work.{leg-is}
use Rattle.motion.proofs.laws.Beats.{next_here}

-- the code's first test
abbrev refused : Bool → ℕ → ℕ → ℕ → Bool
refused r p n k = not r || leb 3 p || ltb n k

refused-by : (r : Bool) (p n k : ℕ) (s : Bool) → refused r p n k ≡ true → r && (ltb p 3 && leb k n) && s ≡ false
refused-by r p n k s = by r (ltb p 3) (leb k n) (leb 3 p) (ltb n k) refl refl refl refl
  where
    by : (r a b c d : Bool) → ltb p 3 ≡ a → leb k n ≡ b → leb 3 p ≡ c → ltb n k ≡ d → not r || c || d ≡ true → r && (a && b) && s ≡ false
    by false a b c d u v w x e = refl
    by true false b c d u v w x e = refl
    by true true false c d u v w x e = refl
    by true true true true d u v w x e = absurd (omega (arith, ltb-true p 3 u, leb-true 3 p w))
    by true true true false true u v w x e = absurd (omega (arith, leb-true k n v, ltb-true n k x))
    by true true true false false u v w x e = absurd (let z : ◌≡◌ {A = ℕ} 0 1 = cc in omega arith)

-- what it leaves
pub record Passed (m : Move) (n : ℕ) : Type 0 where
  pub range : in_range m ≡ true
  pub phase : m.phase < 3
  pub made : m.made ≤ n

passed-by : (m : Move) (n : ℕ) (r c d : Bool) → r ≡ in_range m → leb 3 m.phase ≡ c → ltb n m.made ≡ d → not r || c || d ≡ false → Passed m n
passed-by m n true false false u v w e = record { range = sym u; phase = leb-false 3 m.phase v; made = ltb-false n m.made w }
passed-by m n true false true u v w e = absurd (let z : ◌≡◌ {A = ℕ} 0 1 = cc in omega arith)
passed-by m n true true d u v w e = absurd (let z : ◌≡◌ {A = ℕ} 0 1 = cc in omega arith)
passed-by m n false c d u v w e = absurd (let z : ◌≡◌ {A = ℕ} 0 1 = cc in omega arith)

-- the axes as the code asks them
abbrev stood : Counters → Counters → Counters → ℕ → ℕ → Bool
stood at f t k n = on_all (λ i. eqb (on i at) (count_after k (on i f) (on i t) n))

module _ (m : Move) (at : Counters) {j : Mark} {f t : Counters} {n : ℕ} {r : Bool} (w : j ≡ mark_of m) (p : f ≡ from_of (at_mark m j)) (q : t ≡ to_of (at_mark m j)) (e : n ≡ pulses f t) (g : r ≡ in_range m) where
  from_is : f ≡ from_of m
  from_is = p ∙ ap (λ (x : Mark). from_of (at_mark m x)) w

  to_is : t ≡ to_of m
  to_is = q ∙ ap (λ (x : Mark). to_of (at_mark m x)) w

  long : n ≡ leg m
  long = leg-is m at from_is to_is e

  pub under-refused : refused r m.phase n m.made ≡ true → under_way m at ≡ false
  unfolding under_way
  under-refused h = rw (← g, ← long) (refused-by r m.phase n m.made _ h)

  pub passed : refused r m.phase n m.made ≡ false → Passed m n
  passed h = passed-by m n r (leb 3 m.phase) (ltb n m.made) g refl refl h

  pub asked : Passed m n → (n < 16777216) × (m.made ≤ n) × NoFurther f t n
  asked h = let y = ready_at m long h.range from_is to_is in (y.0, h.made, y.1)

  pub under-stood : {s : Bool} → Passed m n → s ≡ stood at f t m.made n → s ≡ under_way m at
  unfolding under_way
  under-stood h u = rw (h.range, lt-ltb m.phase 3 h.phase, ← long, le-leb m.made n h.made, ← from_is, ← to_is) u

  -- together with the next pulse
  pub look-wrong : under_way m at ≡ false → look.Wrong ≡ look_of m at
  unfolding look_of
  look-wrong h = rw h

  pub look-made : {s : Signs} {b : Beat} → under_way m at ≡ true → m.made < n → s ≡ signs_by sign_here at f t m.made n → b ≡ beat_of (stepped (at_mark m j) at s) → look.Made b ≡ look_of m at
  unfolding look_of
  look-made u h a b =
      let l = long in
      rw (u, next_here m at (rw l at h), b, w, a, l, from_is, to_is)

  pub look-past : {r : Look} → under_way m at ≡ true → r ≡ looked_by (next_of m at) → r ≡ look_of m at
  unfolding look_of
  look-past u a = rw u a
