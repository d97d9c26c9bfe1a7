-- The loop over the pulses of a phase. Assumes nothing.
use Rattle.std.specs.Prelude.{Option, Some, None}
use Prim.Native.Nat.{ℕ, ◌+◌, ◌-◌, ◌*◌, ◌<◌, ◌≤◌}
use mathlib.Core.Path.{◌≡◌, refl, ap, sym, subst, ◌∙◌}
use mathlib.Core.Bool.{Bool, true, false}
use mathlib.Core.List.{List, [], ◌∷◌}
use native.Mathlib.Omega.{arith}
use borrow.Rule.Slice.PartMut.{put_mid}
use lib.ListN.{length, take, drop, length-drop, length-append}
use Rattle.count.specs.Text.{digits}
use Rattle.count.proofs.laws.Digits.{decimal-more, decimal-long}
use Rattle.count.proofs.laws.Lists.{rest}
use Rattle.motion.specs.declared.Counters.{Counters}
use Rattle.motion.specs.declared.Move.{Move}
use Rattle.motion.specs.declared.Signs.{Signs}
use Rattle.motion.specs.declared.Beat.{Beat}
use Rattle.motion.specs.work.Here.{within_of as straight_in}
use Rattle.motion.specs.work.Beat.{beaten as straight_beaten}
use Rattle.circle.specs.declared.Arc.{Arc}
use Rattle.circle.specs.Arc.{arc_beat}
use Rattle.travel.specs.declared.Travel.{Travel}
use Rattle.travel.specs.declared.Travel.TheVariants as travel
use Rattle.travel.specs.Next.{Stepped}
use Rattle.travel.specs.Next.Next.{Made}
use Rattle.travel.specs.work.Beat.{within_of, made_of, with_made, mark_of, beaten}
use Rattle.travel.proofs.laws.Within.{within-rest}
use Rattle.travel.proofs.laws.Beats.{straight-within, arc-beaten, hit, missed}
use Rattle.course.specs.declared.Glided.{Glided}
use Rattle.course.specs.Text.{pulse_text}
use Rattle.course.specs.work.Work.{Wrote}
use Rattle.course.specs.work.Machine.{stays, way, Left}
use Rattle.course.specs.work.Glide.{Gone, here, glides, glide_on, glide_said, gliding}
use Rattle.course.proofs.Loop.{Part, one-part, Kept, kept-last, kept-part}

-- ---- a line of a pulse has at most twelve bytes

digits-five : (v : ℕ) → v ≤ 65535 → length (digits v) ≤ 5
unfolding digits
digits-five v h =
    rw (sym (decimal-more 8 v (omega arith)), sym (decimal-more 7 v (omega arith)), sym (decimal-more 6 v (omega arith)), sym (decimal-more 5 v (omega arith)), sym (decimal-more 4 v (omega arith)))
    (decimal-long 5 v)

pub pulse-short : (turns : Bool) (s : Signs) (v : ℕ) → v ≤ 65535 → length (pulse_text turns s v) ≤ 13
unfolding pulse_text
pulse-short true s v h = let l = length-append (digits v) (10 ∷ []) in omega (arith, digits-five v h)
pulse-short false s v h = let l = length-append (digits v) (10 ∷ []) in omega (arith, digits-five v h)

-- the rest of the buffer from a place has its length
pub behind-long : (at : ℕ) (out : List ℕ) → length (take (length out - at) (drop at out)) ≡ length out - at
behind-long at out = rw (rest, length-drop)

abbrev pub GKept : Bool → ℕ → Travel → Counters → List ℕ → ℕ → Travel → Counters → List ℕ → ℕ → Type 0
GKept turns limit m₀ at₀ out₀ n m at out k = Kept glides glide_on (glide_said turns) limit (here m₀ at₀) out₀ n (here m at) out k

-- ---- a pulse of either kind is one of what moves

pub straight-beat : (m : Move) (at : Counters) {x : Option Beat} → x ≡ straight_beaten (straight_in m at) → x ≡ beaten (within_of (travel.Straight m) at)
unfolding within_of
straight-beat m at e = e ∙ straight-within m at

pub round-beat : (a : Arc) (at : Counters) {x : Option Beat} → x ≡ arc_beat a at → x ≡ beaten (within_of (travel.Round a) at)
unfolding within_of
round-beat a at e = e ∙ arc-beaten a at

made-marked : (m : Travel) → (mark_of m).made ≡ made_of m
made-marked (travel.Straight m) = refl
made-marked (travel.Round a) = refl

module _ (m : Travel) (at : Counters) where
  pub over : {x : Option Beat} → x ≡ beaten (within_of m at) → x ≡ None → glides (here m at) ≡ false
  unfolding glides
  over e p = rw (missed (within_of m at) e p)

  pub made : {s : Stepped} → within_of m at ≡ Made s → glides (here m at) ≡ true
  unfolding glides
  made e = rw e

  part : (turns : Bool) (k : ℕ) (s : Stepped) → within_of m at ≡ Made s → 0 < k
      → Part glides glide_on (glide_said turns) k (here m at) (record { state = here s.rest s.at; calls = 1; text = pulse_text turns s.signs s.speed })
  part turns k s e h = rw e at (one-part glides glide_on (glide_said turns) k (here m at) h (made e))

-- the pulses made are put anew
pub made-anew : (t : Travel) (j k : ℕ) → with_made (with_made t j) k ≡ with_made t k
made-anew (travel.Straight m) j k = refl
made-anew (travel.Round a) j k = refl

pub made-same : (t : Travel) {k : ℕ} → k ≡ made_of t → with_made t k ≡ t
made-same (travel.Straight m) e = rw e
made-same (travel.Round a) e = rw e

-- what a run over a kind answers, told of what moves
pub told-of : (made : ℕ) {g : Glided} {t u : Travel} {m n k : ℕ} {at : Counters} → g ≡ record { rest = with_made t made; at = at; calls = m; len = k } → t ≡ u → m ≡ n
    → g ≡ record { rest = with_made u made; at = at; calls = n; len = k }
told-of made e p q = rw (e, p, q)

pub same_kept : (turns : Bool) {limit n k : ℕ} {m₀ r t : Travel} {at₀ at : Counters} {out₀ out : List ℕ} → r ≡ t → GKept turns limit m₀ at₀ out₀ n r at out k → GKept turns limit m₀ at₀ out₀ n t at out k
same_kept turns e g = rw e at g

module _ (turns : Bool) (limit : ℕ) (m₀ : Travel) (at₀ : Counters) (out₀ : List ℕ) (n : ℕ) (m : Travel) (at : Counters) (out : List ℕ) (k : ℕ) (i : GKept turns limit m₀ at₀ out₀ n m at out k) where
  pub last : way glides glide_on (glide_said turns) (limit - n) (here m at) ≡ stays (here m at)
      → ◌≡◌ {A = Left Gone} (record { state = here m at; calls = n; len = k; out = out }) (gliding turns limit m₀ at₀ out₀)
  last p = kept-last glides glide_on (glide_said turns) limit (here m₀ at₀) out₀ n (here m at) out k i p

  -- there is room for another line
  pub room : n < limit → 13 * limit ≤ length out₀ → 13 ≤ length out - k
  room h l = omega (arith, i.short, i.long)

  turned : (s : Stepped) (ys : List ℕ) (j : ℕ) → within_of m at ≡ Made s → n < limit → 13 * limit ≤ length out₀ → s.speed ≤ 65535
      → Wrote (pulse_text turns s.signs s.speed) (take (length out - k) (drop k out)) j ys
      → GKept turns limit m₀ at₀ out₀ (n + 1) s.rest s.at (put_mid k (length out - k) out ys) (k + j)
  turned s ys j e h l v w =
      let r = room h l in
      let t = pulse-short turns s.signs s.speed v in
      kept-part glides glide_on (glide_said turns) limit (here m₀ at₀) out₀ n (here m at) out k i
      (record { state = here s.rest s.at; calls = 1; text = pulse_text turns s.signs s.speed })
      (part m at turns (limit - n) s e (omega arith)) (omega arith) ys j w (omega arith) (omega arith)

  pub turn : {x : Option Beat} (b : Beat) (ys : List ℕ) (j : ℕ) → x ≡ beaten (within_of m at) → x ≡ Some b → n < limit → 13 * limit ≤ length out₀ → b.speed ≤ 65535
      → Wrote (pulse_text turns b.signs b.speed) (take (length out - k) (drop k out)) j ys
      → GKept turns limit m₀ at₀ out₀ (n + 1) (with_made m b.mark.made) b.at (put_mid k (length out - k) out ys) (k + j)
  turn b ys j e p h l =
      let g = hit (within_of m at) b e p in
      let s = g.step in
      let t : s.speed ≤ 65535 → Wrote (pulse_text turns s.signs s.speed) (take (length out - k) (drop k out)) j ys
      → GKept turns limit m₀ at₀ out₀ (n + 1) (with_made m (mark_of s.rest).made) s.at (put_mid k (length out - k) out ys) (k + j)
      = λ v w. same_kept turns (within-rest m at g.is ∙ ap (with_made m) (sym (made-marked s.rest))) (turned s ys j g.is h l v w) in
      subst (λ (c : Beat). c.speed ≤ 65535 → Wrote (pulse_text turns c.signs c.speed) (take (length out - k) (drop k out)) j ys
      → GKept turns limit m₀ at₀ out₀ (n + 1) (with_made m c.mark.made) c.at (put_mid k (length out - k) out ys) (k + j)) (sym g.same) t
