-- The laws of a pulse without what moves: what is left is told by its mark. Assumes nothing.
use Rattle.motion.specs.declared.Stepped.{Stepped as StraightStepped}
use Rattle.std.specs.Prelude.{Option, Some, None}
use Prim.Native.Nat.{ℕ}
use mathlib.Core.Path.{◌≡◌, refl, ap, sym, ◌∙◌}
use native.Mathlib.Omega.{arith}
use Rattle.motion.specs.declared.Counters.{Counters}
use Rattle.motion.specs.declared.Move.{Move}
use Rattle.motion.specs.declared.Mark.{Mark}
use Rattle.motion.specs.declared.Beat.{Beat}
use Rattle.motion.specs.declared.Look.TheVariants as look
use Rattle.motion.specs.work.Here.{next_of as straight_of, within_of as straight_in}
use Rattle.motion.specs.work.Beat.{beaten as straight_beaten, next_back as straight_back}
use Rattle.motion.proofs.laws.Beats.{next-back as straight-next-back}
use Rattle.circle.specs.declared.Arc.{Arc}
use Rattle.circle.specs.Arc.{arc_beat}
use Rattle.circle.proofs.laws.Beats.{beat-marked}
use Rattle.travel.specs.declared.Travel.{Travel}
use Rattle.travel.specs.declared.Travel.TheVariants as travel
use Rattle.travel.specs.Next.{Stepped, Next, straight_next, arc_next}
use Rattle.travel.specs.Next.Next.{Made, Over}
use Rattle.travel.specs.work.Beat.{next_of, mark_of, at_mark, beat_of, beaten, next_back, looked_by}

-- ---- a pulse is made, or none is left

pub same : {s t : Stepped} → Made s ≡ Made t → t ≡ s
same e = cc

pub never : {A : Type 0} {s : Stepped} → Over ≡ Made s → A
never p = let z : ◌≡◌ {A = ℕ} 0 1 = cc in absurd (omega arith)

pub never' : {A : Type 0} {s : Stepped} → Made s ≡ Over → A
never' p = let z : ◌≡◌ {A = ℕ} 0 1 = cc in absurd (omega arith)

-- ---- a pulse without what moves is the same for both kinds

beaten-by : (n : Option StraightStepped) → straight_beaten n ≡ beaten (straight_next n)
beaten-by (Some s) = refl
beaten-by None = refl

-- a straight movement's pulse, and one of its phase
pub straight-beaten : (m : Move) (at : Counters) → straight_beaten (straight_of m at) ≡ beaten (straight_next (straight_of m at))
straight-beaten m at = beaten-by (straight_of m at)

pub straight-within : (m : Move) (at : Counters) → straight_beaten (straight_in m at) ≡ beaten (straight_next (straight_in m at))
straight-within m at = beaten-by (straight_in m at)

-- an arc's pulse stands in its one phase
pub arc-beaten : (a : Arc) (at : Counters) → arc_beat a at ≡ beaten (arc_next a (arc_beat a at))
arc-beaten a at = by (arc_beat a at) refl
  where
    by : (n : Option Beat) → arc_beat a at ≡ n → n ≡ beaten (arc_next a n)
    by (Some b) e =
        let p : b.mark.phase ≡ 0 = ap (λ (k : Mark). k.phase) (beat-marked a at e) in
        λ i. Some (record { signs = b.signs; speed = b.speed; at = b.at; mark = record { phase = p i; made = b.mark.made } })
    by None e = refl

-- ---- only the mark changes

-- what another's mark tells from it
abbrev pub Marked : Travel → Travel → Type 0
Marked m n = at_mark m (mark_of n) ≡ n

straight-back : (m : Move) (n : Option StraightStepped) → straight_back m (straight_beaten n) ≡ n → next_back (travel.Straight m) (beaten (straight_next n)) ≡ straight_next n
straight-back m (Some s) e = ap straight_next e
straight-back m None e = refl

arc-back : (a : Arc) (n : Option Beat) → next_back (travel.Round a) (beaten (arc_next a n)) ≡ arc_next a n
arc-back a (Some b) = refl
arc-back a None = refl

-- A PULSE WITH WHAT MOVES is the pulse without it, and what moves at its mark
pub next-back : (m : Travel) (at : Counters) → next_back m (beaten (next_of m at)) ≡ next_of m at
unfolding next_of
next-back (travel.Straight m) at = straight-back m (straight_of m at) (straight-next-back m at)
next-back (travel.Round a) at = arc-back a (arc_beat a at)

-- what is left after the next pulse
abbrev rest_of : Travel → Next → Travel
rest_of m (Made t) = t.rest
rest_of m Over = m

rest-by : (m : Travel) (n : Next) (s : Stepped) → next_back m (beaten n) ≡ n → n ≡ Made s → Marked m s.rest
rest-by m n s e p = ap (rest_of m) (sym (ap (λ (x : Next). next_back m (beaten x)) p) ∙ e ∙ p)

pub next-rest : (m : Travel) (at : Counters) (s : Stepped) → next_of m at ≡ Made s → Marked m s.rest
next-rest m at s p = rest-by m (next_of m at) s (next-back m at) p

-- ---- a pulse without what moves is its next, or there is none

pub record Hit (n : Next) (b : Beat) : Type 0 where
  pub step : Stepped
  pub is : n ≡ Made step
  pub same : b ≡ beat_of step

pub hit : (n : Next) (b : Beat) {x : Option Beat} → x ≡ beaten n → x ≡ Some b → Hit n b
hit (Made s) b e p = record { step = s; is = refl; same = let q : Some (beat_of s) ≡ Some b = sym e ∙ p in cc }
hit Over b e p = let z : ◌≡◌ {A = ℕ} 0 1 = cc in absurd (omega arith)

pub missed : (n : Next) {x : Option Beat} → x ≡ beaten n → x ≡ None → n ≡ Over
missed (Made s) e p = let z : ◌≡◌ {A = ℕ} 0 1 = cc in absurd (omega arith)
missed Over e p = refl

-- and so at a look
module _ (n : Next) {x : Option Beat} (e : x ≡ beaten n) where
  pub looked-made : (b : Beat) → x ≡ Some b → look.Made b ≡ looked_by n
  looked-made b p = let g = hit n b e p in ap look.Made g.same ∙ sym (ap looked_by g.is)

  pub looked-over : x ≡ None → look.Over ≡ looked_by n
  looked-over p = sym (ap looked_by (missed n e p))
