-- The laws of a pulse without the movement: what is left of a movement is told by its mark. Assumes nothing.
use Rattle.std.specs.Prelude.{Option, Some, None}
use Prim.Native.Nat.{ℕ, ◌<◌, ◌+◌}
use mathlib.Core.Path.{◌≡◌, refl, ap, sym, ◌∙◌}
use mathlib.Core.Bool.{Bool, true, false}
use lib.Dec.{ltb, eqb}
use native.Mathlib.Omega.{arith}
use borrow.Author.Tests.{lt-ltb}
use Rattle.count.specs.Pick.{pick}
use Rattle.count.specs.declared.Axis.{Axis}
use Rattle.count.specs.Axes.{Each}
use Rattle.count.proofs.laws.Axes.{each_at}
use Rattle.motion.specs.declared.Counters.{Counters}
use Rattle.motion.specs.declared.Signs.{Signs}
use Rattle.motion.specs.declared.Move.{Move}
use Rattle.motion.specs.declared.Mark.{Mark}
use Rattle.motion.specs.declared.Beat.{Beat}
use Rattle.motion.specs.declared.Look.TheVariants as look
use Rattle.motion.specs.declared.Stepped.{Stepped}
use Rattle.motion.specs.Axes.{on}
use Rattle.motion.specs.Next.{from_of, to_of, leg, at_phase, skipped, settled, signs_by, stepped}
use Rattle.motion.specs.work.Here.{sign_here, next_of, within_of}
use Rattle.motion.specs.work.Beat.{mark_of, at_mark, beat_of, beaten, next_back, looked_by}
use Rattle.motion.proofs.laws.Points.{same_point}
use Rattle.motion.proofs.laws.Skip.{skip-with, settled_here, onward}
use Rattle.motion.proofs.laws.Within.{next-settled}

-- ---- the points of a phase, count by count

-- one of four points is, on each axis, one of four counts
pick-on : (i : Axis) (b : Bool) (p q : Counters) → pick b (on i p) (on i q) ≡ on i (pick b p q)
pick-on i true p q = refl
pick-on i false p q = refl

abbrev from_axis : ℕ → ℕ → ℕ → ℕ → ℕ → ℕ
from_axis k a b c d = pick (eqb k 0) a (pick (eqb k 1) b (pick (eqb k 2) c d))

abbrev to_axis : ℕ → ℕ → ℕ → ℕ → ℕ
to_axis k b c d = pick (eqb k 0) b (pick (eqb k 1) c d)

module _ (m : Move) (i : Axis) where
  from_on : from_axis m.phase (on i m.start) (on i m.first) (on i m.second) (on i m.third) ≡ on i (from_of m)
  unfolding from_of
  from_on =
      ap (λ (n : ℕ). pick (eqb m.phase 0) (on i m.start) n)
      (ap (λ (n : ℕ). pick (eqb m.phase 1) (on i m.first) n) (pick-on i (eqb m.phase 2) m.second m.third) ∙ pick-on i (eqb m.phase 1) m.first _)
      ∙ pick-on i (eqb m.phase 0) m.start _

  to-on : to_axis m.phase (on i m.first) (on i m.second) (on i m.third) ≡ on i (to_of m)
  unfolding to_of
  to-on =
      ap (λ (n : ℕ). pick (eqb m.phase 0) (on i m.first) n) (pick-on i (eqb m.phase 1) m.second m.third)
      ∙ pick-on i (eqb m.phase 0) m.first _

-- a point that has on each axis the count of the phase's start is that start, and so of its end
module _ (m : Move) {c : Counters} where
  pub from-by-axis : Each (λ i. on i c ≡ from_axis m.phase (on i m.start) (on i m.first) (on i m.second) (on i m.third)) → c ≡ from_of m
  from-by-axis e =
      same_point (λ i. each_at (λ (j : Axis). on j c ≡ from_axis m.phase (on j m.start) (on j m.first) (on j m.second) (on j m.third)) e i ∙ from_on m i)

  pub to-by-axis : Each (λ i. on i c ≡ to_axis m.phase (on i m.first) (on i m.second) (on i m.third)) → c ≡ to_of m
  to-by-axis e =
      same_point (λ i. each_at (λ (j : Axis). on j c ≡ to_axis m.phase (on j m.first) (on j m.second) (on j m.third)) e i ∙ to-on m i)

-- ---- only the mark changes

-- a movement that another's mark tells from it
abbrev pub Marked : Move → Move → Type 0
Marked m n = at_mark m (mark_of n) ≡ n

pub skip-marked : (m n : Move) → Marked m n → Marked m (skipped n)
skip-marked m n e = skip-with (Marked m) n (λ p. e) (λ l. e) (λ o d. ap (λ (x : Move). onward x) e)

pub settled-marked : (m : Move) → Marked m (settled m)
settled-marked m = skip-marked m (skipped (skipped m)) (skip-marked m (skipped m) (skip-marked m m refl))

-- the mark of a movement whose phase has a pulse left, and of one past three phases, from marks alone
module _ (m : Move) {k : Mark} (e : k ≡ mark_of m) where
  pub leg-marked : {n : ℕ} → n ≡ leg (at_mark m k) → n ≡ leg m
  leg-marked p = p ∙ ap (λ (x : Mark). leg (at_mark m x)) e

  pub settled-left : {n : ℕ} → n ≡ leg (at_mark m k) → m.made < n → k ≡ mark_of (settled m)
  settled-left p h = e ∙ sym (ap mark_of (settled_here m (rw (leg-marked p) at h)))

  pub settled_on : {a b c : Mark} → a ≡ mark_of (skipped (at_mark m k)) → b ≡ mark_of (skipped (at_mark m a)) → c ≡ mark_of (skipped (at_mark m b)) → c ≡ mark_of (settled m)
  settled_on p q r =
      rw (r, q, p, e) (rw (skip-marked m m refl) (rw (skip-marked m (skipped m) (skip-marked m m refl)) refl))

within_by : (m n : Move) (at : Counters) (s : Signs) (b : Bool) → Marked m n → next_back m (beaten (pick b (Some (stepped n at s)) None)) ≡ pick b (Some (stepped n at s)) None
within_by m n at s true e = ap (λ (x : Move). Some (record { signs = s; speed = (stepped n at s).speed; at = (stepped n at s).at; rest = at_phase x n.phase (n.made + 1) })) e
within_by m n at s false e = refl

-- A PULSE WITH THE MOVEMENT is the pulse without it, and the movement at its mark
pub within-back : (m n : Move) (at : Counters) → Marked m n → next_back m (beaten (within_of n at)) ≡ within_of n at
unfolding within_of
within-back m n at e = within_by m n at (signs_by sign_here at (from_of n) (to_of n) n.made (leg n)) (ltb n.made (leg n)) e

pub next-back : (m : Move) (at : Counters) → next_back m (beaten (next_of m at)) ≡ next_of m at
next-back m at = rw (next-settled m at) (within-back m (settled m) at (settled-marked m))

-- the next pulse is that after the settled mark
pub beaten-settled : (m : Move) (at : Counters) {k : Mark} {b : Option Beat} → k ≡ mark_of (settled m) → b ≡ beaten (within_of (at_mark m k) at) → b ≡ beaten (next_of m at)
beaten-settled m at e p = rw (p, e, settled-marked m, next-settled m at)

-- what is left of a movement after its next pulse
abbrev rest_of : Move → Option Stepped → Move
rest_of m (Some t) = t.rest
rest_of m None = m

rest-by : (m : Move) (n : Option Stepped) (s : Stepped) → next_back m (beaten n) ≡ n → n ≡ Some s → Marked m s.rest
rest-by m n s e p = ap (rest_of m) (sym (ap (λ (x : Option Stepped). next_back m (beaten x)) p) ∙ e ∙ p)

pub next-rest : (m : Move) (at : Counters) (s : Stepped) → next_of m at ≡ Some s → Marked m s.rest
next-rest m at s p = rest-by m (next_of m at) s (next-back m at) p

-- ---- a phase with a pulse left makes the movement's next

pub next_here : (m : Move) (at : Counters) → m.made < leg m
    → next_of m at ≡ Some (stepped m at (signs_by sign_here at (from_of m) (to_of m) m.made (leg m)))
unfolding within_of
next_here m at h = next-settled m at ∙ ap (λ (x : Move). within_of x at) (settled_here m h) ∙ rw (lt-ltb m.made (leg m) h)

-- ---- a pulse without the movement is the movement's next, or there is none

pub record Hit (n : Option Stepped) (b : Beat) : Type 0 where
  pub step : Stepped
  pub is : n ≡ Some step
  pub same : b ≡ beat_of step

pub hit : (n : Option Stepped) (b : Beat) {x : Option Beat} → x ≡ beaten n → x ≡ Some b → Hit n b
hit (Some s) b e p = record { step = s; is = refl; same = let q : Some (beat_of s) ≡ Some b = sym e ∙ p in cc }
hit None b e p = let z : ◌≡◌ {A = ℕ} 0 1 = cc in absurd (omega arith)

pub missed : (n : Option Stepped) {x : Option Beat} → x ≡ beaten n → x ≡ None → n ≡ None
missed (Some s) e p = let z : ◌≡◌ {A = ℕ} 0 1 = cc in absurd (omega arith)
missed None e p = refl

-- and so at a look
module _ (n : Option Stepped) {x : Option Beat} (e : x ≡ beaten n) where
  pub looked-made : (b : Beat) → x ≡ Some b → look.Made b ≡ looked_by n
  looked-made b p = let g = hit n b e p in ap look.Made g.same ∙ sym (ap looked_by g.is)

  pub looked-over : x ≡ None → look.Over ≡ looked_by n
  looked-over p = sym (ap looked_by (missed n e p))
