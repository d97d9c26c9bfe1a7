-- A plan from its parts, as the code has them. Assumes nothing.
use Rattle.std.specs.Prelude.{Option, Some, None}
use mathlib.Core.Path.{◌≡◌, refl, sym, ap, ◌∙◌}
use mathlib.Core.Bool.{Bool, true, false, not, ◌&&◌}
use mathlib.Core.List.{List}
use Prim.Native.Nat.{ℕ, ◌≤◌}
use lib.Dec.{leb}
use lib.ListN.{get_or}
use borrow.Author.Tests.{leb-true}
use Rattle.count.specs.Pick.{pick}
use Rattle.count.specs.declared.Axis.TheVariants.{X, Y, Z, A}
use Rattle.count.specs.Axes.{has}
use Rattle.count.specs.Ranges.{right_speeds}
use Rattle.count.proofs.laws.Truth.{and_right}
use Rattle.motion.specs.declared.Move.{Move}
use Rattle.motion.specs.declared.Counters.{Counters}
use Rattle.motion.specs.Plan.{Asked, goal, goal_of, goal_z2, moves_z2, on_from, first_speed, later_speed, with_z, route, count_of, going_to}
use Rattle.motion.specs.Sound.{speed_right}
use Rattle.motion.proofs.laws.Plans.{first-right, second-right, third-right}

-- A's number, as the code picks it
fourth-by : (l : List ℕ) (b : Bool) → pick b (get_or l 6 0) (get_or l 0 0) ≡ get_or l (pick b 6 0) 0
fourth-by l true = refl
fourth-by l false = refl

pub a-by : (q : Asked) {h : Bool} {w : ℕ} {g : Option ℕ} → h ≡ has q.axes X → w ≡ pick h (get_or q.words 6 0) (get_or q.words 0 0)
    → g ≡ pick (has q.axes A) (goal q.absolute q.at.a q.origin.a w) (Some q.at.a) → g ≡ goal_of q A
unfolding goal_of
a-by q p e f = f ∙ rw (e, p, fourth-by q.words (has q.axes X))

-- a later speed, as the code picks it
pub later-own : (q : Asked) (i : ℕ) {h : Bool} {v : ℕ} → h ≡ has q.axes Z → v ≡ pick (h && not q.three) (get_or q.words i 0) (get_or q.words 1 0) → v ≡ later_speed q i
unfolding later_speed
later-own q i p e = e ∙ rw p

-- a movement from its resting points and speeds
pub route-made : (q : Asked) (goals : Counters) (z2 : ℕ) {z a v1 w1 v2 w2 v3 w3 : ℕ} → z ≡ pick q.three goals.z q.at.z
    → a ≡ pick q.three goals.a q.at.a → v1 ≡ w1 → w1 ≡ first_speed q goals → v2 ≡ w2 → w2 ≡ later_speed q 5 → v3 ≡ w3 → w3 ≡ later_speed q 7
    → ◌≡◌ {A = Move}
    (record {
      start = q.at;
      first = record { x = goals.x; y = goals.y; z = z; a = a };
      second = record { x = goals.x; y = goals.y; z = goals.z; a = a };
      third = with_z goals z2;
      speed1 = v1;
      speed2 = v2;
      speed3 = v3;
      phase = 0;
      made = 0;
    })
    (route q goals z2)
unfolding route
route-made q goals z2 e d f f' g g' h h' = rw (e, d, f, f', g, g', h, h')

speed-most : (v : ℕ) → speed_right v ≡ true → v ≤ 10000
speed-most v e = leb-true v 10000 (and_right (leb 30 v) (leb v 10000) e)

-- its speeds are at most 10,000
pub speeds-fit : (q : Asked) (goals : Counters) {gy : Option ℕ} → right_speeds q.axes q.words ≡ true → gy ≡ goal_of q Y → gy ≡ Some goals.y
    → (first_speed q goals ≤ 10000) × (later_speed q 5 ≤ 10000) × (later_speed q 7 ≤ 10000)
speeds-fit q goals h p f =
    let e : goals.y ≡ count_of (goal_of q Y) = sym (ap count_of (sym p ∙ f)) in
    (speed-most (first_speed q goals) (first-right q h goals e), speed-most (later_speed q 5) (second-right q h), speed-most (later_speed q 7) (third-right q h))

-- the first resting point outside ends the plan. Each place is what a call answered (p), and what its answer was (e).
module _ (q : Asked) {gx : Option ℕ} (px : gx ≡ goal_of q X) where
  pub out-x : gx ≡ None → None ≡ going_to q
  unfolding going_to
  out-x e = rw (← px, e)

  module _ {x : ℕ} {gy : Option ℕ} (ex : gx ≡ Some x) (py : gy ≡ goal_of q Y) where
    pub out-y : gy ≡ None → None ≡ going_to q
    unfolding going_to
    out-y e = rw (← px, ex, ← py, e)

    module _ {y : ℕ} {gz : Option ℕ} (ey : gy ≡ Some y) (pz : gz ≡ goal_of q Z) where
      pub out-z : gz ≡ None → None ≡ going_to q
      unfolding going_to
      out-z e = rw (← px, ex, ← py, ey, ← pz, e)

      module _ {z : ℕ} {ga : Option ℕ} (ez : gz ≡ Some z) (pa : ga ≡ goal_of q A) where
        pub out-a : ga ≡ None → None ≡ going_to q
        unfolding going_to
        out-a e = rw (← px, ex, ← py, ey, ← pz, ez, ← pa, e)

        module _ {a : ℕ} {gz2 : Option ℕ} (ea : ga ≡ Some a) (pz2 : gz2 ≡ pick (moves_z2 q) (on_from (Some z) (get_or q.words 6 0)) (Some z)) where
          z2-of : goal_z2 q ≡ gz2
          unfolding goal_z2
          z2-of = rw (pz2, ← pz, ez)

          pub out-z2 : gz2 ≡ None → None ≡ going_to q
          unfolding going_to
          out-z2 e = rw (z2-of, ← px, ex, ← py, ey, ← pz, ez, ← pa, ea, e)

          pub all_in : {z2 : ℕ} {m : Move} → gz2 ≡ Some z2 → m ≡ route q (record { x = x; y = y; z = z; a = a }) z2 → Some m ≡ going_to q
          unfolding going_to
          all_in e p = rw (z2-of, ← px, ex, ← py, ey, ← pz, ez, ← pa, ea, e, p)
