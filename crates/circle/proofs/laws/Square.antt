-- NO DEAD END OF AN ARC: from any point but the centre of the square of half side r + 1, with r the whole part of the radius, the rule's move
-- leads to such a point again, one axis goes by one, and no count is left without a step. Assumes nothing.
use mathlib.Core.Path.{◌≡◌, refl, sym, ap, ◌∙◌}
use mathlib.Core.Bool.{Bool, true, false, not}
use Prim.Native.Nat.{ℕ, zero, suc, ◌+◌, ◌-◌, ◌*◌, ◌≤◌, ◌<◌}
use native.Mathlib.Omega.{arith}
use lib.Dec.{ltb, leb}
use borrow.Author.Tests.{lt-ltb, le-leb, lt-leb, ltb-true, ltb-false}
use Rattle.count.specs.Pick.{pick}
use Rattle.count.specs.Numbers.{far, full}
use Rattle.motion.specs.declared.Sign.{Sign}
use Rattle.motion.specs.declared.Sign.TheVariants.{Minus, Rest, Plus}
use Rattle.motion.specs.Phase.{moved}
use Rattle.motion.specs.Pulse.{has_step}
use Rattle.circle.specs.declared.Pair.{Pair}
use Rattle.circle.specs.declared.Ways.{Ways}
use Rattle.circle.proofs.laws.Roots.{square-up}
use Rattle.circle.specs.Rule.{ways, side, measure, against, rests, shifted, off, move_of}

-- ---- one axis

-- what the sign of a coordinate says
abbrev pub Side : ℕ → ℕ → Sign → Type 0
Side c p Minus = p < c
Side c p Rest = p ≡ c
Side c p Plus = c < p

pub side-is : (c p : ℕ) → Side c p (side c p)
unfolding side
side-is c p = by (ltb p c) (ltb c p) refl refl
  where
    by : (a b : Bool) → ltb p c ≡ a → ltb c p ≡ b → Side c p (pick a Minus (pick b Plus Rest))
    by true b e f = ltb-true p c e
    by false true e f = ltb-true c p f
    by false false e f = omega (arith, ltb-false p c e, ltb-false c p f)

-- an axis in its side of the square
pub record Lies (reach c p : ℕ) : Type 0 where
  pub low : reach ≤ c
  pub high : c + reach < full
  pub near : far c p ≤ reach

-- a step that an axis has, and where it leads
pub record Steps (c p : ℕ) (s : Sign) (there : ℕ) : Type 0 where
  pub step : has_step p s ≡ true
  pub far-by : far c (moved p s) ≡ there

-- outward, where the side is not reached yet; inward; and off the axis
pub step-out : (reach c p : ℕ) (s : Sign) → Lies reach c p → Side c p s → rests s ≡ false → far c p < reach → Steps c p s (far c p + 1)
step-out reach c p Minus l h e f = record { step = lt-ltb 0 p (omega (arith, l.low)); far-by = omega (arith, l.low) }
step-out reach c p Rest l h e f = let z : ◌≡◌ {A = ℕ} 0 1 = cc in absurd (omega arith)
step-out reach c p Plus l h e f = record { step = lt-ltb (p + 1) full (omega (arith, l.high)); far-by = omega arith }

pub step_in : (reach c p : ℕ) (s : Sign) → Lies reach c p → Side c p s → rests s ≡ false → Steps c p (against s) (far c p - 1)
step_in reach c p Minus l h e = record { step = lt-ltb (p + 1) full (omega (arith, l.high)); far-by = omega arith }
step_in reach c p Rest l h e = let z : ◌≡◌ {A = ℕ} 0 1 = cc in absurd (omega arith)
step_in reach c p Plus l h e = record { step = lt-ltb 0 p (omega arith); far-by = omega arith }

pub step-off : (reach c p : ℕ) (s : Sign) → Lies reach c p → 0 < reach → Side c p Rest → rests s ≡ false → Steps c p s 1
step-off reach c p Minus l r h e = record { step = lt-ltb 0 p (omega (arith, l.low)); far-by = omega (arith, l.low) }
step-off reach c p Rest l r h e = let z : ◌≡◌ {A = ℕ} 0 1 = cc in absurd (omega arith)
step-off reach c p Plus l r h e = record { step = lt-ltb (p + 1) full (omega (arith, l.high)); far-by = omega arith }

-- an outward move never comes nearer; off the axis there is a distance
pub out-least : (c p : ℕ) (s : Sign) → Side c p s → far c p ≤ far c (moved p s)
out-least c p Minus h = omega arith
out-least c p Rest h = omega arith
out-least c p Plus h = omega arith

pub side-far : (c p : ℕ) (s : Sign) → Side c p s → rests s ≡ false → 0 < far c p
side-far c p Minus h e = omega arith
side-far c p Rest h e = let z : ◌≡◌ {A = ℕ} 0 1 = cc in absurd (omega arith)
side-far c p Plus h e = omega arith

against-rests : (s : Sign) → rests (against s) ≡ rests s
against-rests Minus = refl
against-rests Rest = refl
against-rests Plus = refl

-- ---- the move of the plane's two axes

-- one of them rests and the other goes by one, to a point of the square that is not its centre
pub record Goes (reach : ℕ) (c p : Pair) (m : Ways) : Type 0 where
  pub first : has_step p.first m.first ≡ true
  pub second : has_step p.second m.second ≡ true
  pub near_first : far c.first (moved p.first m.first) ≤ reach
  pub near-second : far c.second (moved p.second m.second) ≤ reach
  pub apart : 0 < far c.first (moved p.first m.first) + far c.second (moved p.second m.second)
  pub one : rests m.first ≡ not (rests m.second)

-- a value above the start value and below another is the nearer to it
nearer : (n x y : ℕ) → n ≤ x → x < y → leb (far n y) (far n x) ≡ false
nearer n x y h l = lt-leb (far n y) (far n x) (omega arith)

nearer-or : (n x y : ℕ) → n ≤ x → x < y → leb (far n x) (far n y) ≡ true
nearer-or n x y h l = le-leb (far n x) (far n y) (omega arith)

-- at the edge the outward move is the worse one: a is the edge, b the other axis's distance, o the distance after the outward move
edge_at : (n a j o : ℕ) → n < a * a → a ≤ o → (n ≤ a * a + j * j) × (a * a + j * j < o * o + (j + 1) * (j + 1))
edge_at n a j o h k = (omega arith, omega (arith, square-up a o k))

square-of : (b : ℕ) → 0 < b → b * b ≡ (b - 1 + 1) * (b - 1 + 1)
square-of b h = ap (λ (z : ℕ). z * z) (omega arith)

edge : (n a b o : ℕ) → n < a * a → 0 < b → a ≤ o → (n ≤ a * a + (b - 1) * (b - 1)) × (a * a + (b - 1) * (b - 1) < o * o + b * b)
edge n a b o h l k = let q = edge_at n a (b - 1) o h k in (q.0, rw (square-of b l) q.1)

edge' : (n a b o : ℕ) → n < a * a → 0 < b → a ≤ o → (n ≤ (b - 1) * (b - 1) + a * a) × ((b - 1) * (b - 1) + a * a < b * b + o * o)
edge' n a b o h l k = let q = edge n a b o h l k in (omega (arith, q.0), omega (arith, q.1))

not-true : {b : Bool} {A : Type 0} → b ≡ true → b ≡ false → A
not-true p q = let z : ◌≡◌ {A = ℕ} 0 1 = cc in absurd (omega arith)

module _ (n reach : ℕ) (c p : Pair) (high : n < reach * reach) (l : Lies reach c.first p.first) (k : Lies reach c.second p.second) where
  away : 0 < reach
  away = by reach high
    where
      by : (r : ℕ) → n < r * r → 0 < r
      by zero h = absurd (omega arith)
      by (suc r) h = omega arith

  -- along an axis of the plane there is one move
  pub only-second : (x s : Sign) → Side c.first p.first x → rests x ≡ false → Side c.second p.second Rest → rests s ≡ false → Goes reach c p (ways Rest s)
  only-second x s h e g f =
      let t = step-off reach c.second p.second s k away g f in
      record {
        first = refl;
        second = t.step;
        near_first = l.near;
        near-second = omega (arith, t.far-by, away);
        apart = omega (arith, side-far c.first p.first x h e);
        one = sym (ap not f);
      }

  pub only-first : (y s : Sign) → Side c.second p.second y → rests y ≡ false → Side c.first p.first Rest → rests s ≡ false → Goes reach c p (ways s Rest)
  only-first y s h e g f =
      let t = step-off reach c.first p.first s l away g f in
      record {
        first = t.step;
        second = refl;
        near_first = omega (arith, t.far-by, away);
        near-second = k.near;
        apart = omega (arith, side-far c.second p.second y h e);
        one = f;
      }

  module _ (x y : Sign) (h : Side c.first p.first x) (g : Side c.second p.second y) (e : rests x ≡ false) (f : rests y ≡ false) where
    a : ℕ
    a = far c.first p.first

    b : ℕ
    b = far c.second p.second

    a-some : 0 < far c.first p.first
    a-some = side-far c.first p.first x h e

    b-some : 0 < far c.second p.second
    b-some = side-far c.second p.second y g f

    -- the first outward: it is taken only where the side is not reached
    first_out : far c.first p.first < reach → Goes reach c p (ways x Rest)
    first_out v =
        let t = step-out reach c.first p.first x l h e v in
        record { first = t.step; second = refl; near_first = omega (arith, t.far-by); near-second = k.near; apart = omega (arith, b-some); one = e }

    first-in : Goes reach c p (ways (against x) Rest)
    first-in =
        let t = step_in reach c.first p.first x l h e in
        record {
          first = t.step;
          second = refl;
          near_first = omega (arith, t.far-by, l.near);
          near-second = k.near;
          apart = omega (arith, b-some);
          one = against-rests x ∙ e;
        }

    second-out : far c.second p.second < reach → Goes reach c p (ways Rest y)
    second-out v =
        let t = step-out reach c.second p.second y k g f v in
        record { first = refl; second = t.step; near_first = l.near; near-second = omega (arith, t.far-by); apart = omega (arith, a-some); one = sym (ap not f) }

    second-in : Goes reach c p (ways Rest (against y))
    second-in =
        let t = step_in reach c.second p.second y k g f in
        record {
          first = refl;
          second = t.step;
          near_first = l.near;
          near-second = omega (arith, t.far-by, k.near);
          apart = omega (arith, a-some);
          one = sym (ap not (against-rests y ∙ f));
        }

    -- the first outward and the second inward, at the edge: the second
    edge-second : far c.first p.first ≡ reach
        → leb (off n c (shifted p (ways x Rest))) (off n c (shifted p (ways Rest (against y)))) ≡ false
    unfolding measure
    edge-second v =
        let t = (step_in reach c.second p.second y k g f).far-by in
        let o = out-least c.first p.first x h in
        let q = edge n reach (far c.second p.second) (far c.first (moved p.first x)) high b-some (omega arith) in
        rw (t, v) (nearer n _ _ q.0 q.1)

    edge-first : far c.second p.second ≡ reach
        → leb (off n c (shifted p (ways (against x) Rest))) (off n c (shifted p (ways Rest y))) ≡ true
    unfolding measure
    edge-first v =
        let t = (step_in reach c.first p.first x l h e).far-by in
        let o = out-least c.second p.second y g in
        let q = edge' n reach (far c.first p.first) (far c.second (moved p.second y)) high a-some (omega arith) in
        rw (t, v) (nearer-or n _ _ q.0 q.1)

    -- each of the two ways in which both axes can move
    out-in-by : (t : Bool) → leb (off n c (shifted p (ways x Rest))) (off n c (shifted p (ways Rest (against y)))) ≡ t
        → Goes reach c p (pick t (ways x Rest) (ways Rest (against y)))
    out-in-by true u = first_out (by (ltb (far c.first p.first) reach) refl)
      where
        by : (v : Bool) → ltb (far c.first p.first) reach ≡ v → far c.first p.first < reach
        by true q = ltb-true (far c.first p.first) reach q
        by false q = not-true u (edge-second (omega (arith, ltb-false (far c.first p.first) reach q, l.near)))
    out-in-by false u = second-in

    in-out-by : (t : Bool) → leb (off n c (shifted p (ways (against x) Rest))) (off n c (shifted p (ways Rest y))) ≡ t
        → Goes reach c p (pick t (ways (against x) Rest) (ways Rest y))
    in-out-by true u = first-in
    in-out-by false u = second-out (by (ltb (far c.second p.second) reach) refl)
      where
        by : (v : Bool) → ltb (far c.second p.second) reach ≡ v → far c.second p.second < reach
        by true q = ltb-true (far c.second p.second) reach q
        by false q = not-true (edge-first (omega (arith, ltb-false (far c.second p.second) reach q, k.near))) u

    pub out-in : Goes reach c p (move_of n c p (ways x (against y)))
    unfolding move_of
    out-in = rw (e, against-rests y, f) (out-in-by (leb (off n c (shifted p (ways x Rest))) (off n c (shifted p (ways Rest (against y))))) refl)

    pub in-out : Goes reach c p (move_of n c p (ways (against x) y))
    unfolding move_of
    in-out = rw (against-rests x, e, f) (in-out-by (leb (off n c (shifted p (ways (against x) Rest))) (off n c (shifted p (ways Rest y)))) refl)
