-- A loop that makes a machine's steps and writes what it says, once for all machines whose texts have at most twelve bytes. Assumes nothing.
use Prim.Native.Nat.{ℕ, ◌+◌, ◌-◌, ◌*◌, ◌<◌, ◌≤◌}
use mathlib.Core.Path.{◌≡◌, refl, ap, sym, ◌∙◌}
use mathlib.Core.Bool.{Bool, true}
use mathlib.Core.List.{List, [], ◌++◌, append_assoc}
use native.Mathlib.Omega.{arith}
use borrow.Rule.Slice.PartMut.{put_mid}
use lib.ListN.{length, take, drop, length-drop, length-append, take-append-drop}
use lib.Seq.{length-take-le, take_at, drop_at, drop-drop}
use Rattle.count.proofs.laws.Lists.{rest, to_end}
use Rattle.course.specs.work.Work.{Wrote}
use Rattle.course.proofs.laws.Machine.{way_step, then-then, then-none, then-stays}
use Rattle.course.specs.work.Machine.{Way, stays, then, way, Left, left_by}

module _ {S : Type 0} (on : S → Bool) (next : S → S) (said : S → List ℕ) where
  -- g is a part of the way from s
  abbrev pub Part : ℕ → S → Way S → Type 0
  Part k s g = way on next said k s ≡ then g.calls g.text (way on next said (k - g.calls) g.state)

  pub one-part : (k : ℕ) (s : S) → 0 < k → on s ≡ true → Part k s (record { state = next s; calls = 1; text = said s })
  one-part k s h p = way_step on next said k s h p

  -- after n steps: the text stands in front, at most twelve bytes for each, and the rest of the way is still to go
  pub record Kept (limit : ℕ) (s₀ : S) (out₀ : List ℕ) (n : ℕ) (s : S) (out : List ℕ) (at : ℕ) : Type 0 where
    pub few : n ≤ limit
    pub short : at ≤ 13 * n
    pub room : at ≤ length out
    pub long : length out ≡ length out₀
    pub behind : drop at out ≡ drop at out₀
    pub whole : way on next said limit s₀ ≡ then n (take at out) (way on next said (limit - n) s)

  module _ (limit : ℕ) (s₀ : S) (out₀ : List ℕ) where
    pub kept-first : Kept limit s₀ out₀ 0 s₀ out₀ 0
    kept-first = record { few = omega arith; short = omega arith; room = omega arith; long = refl; behind = refl; whole = first }
      where
        first : way on next said limit s₀ ≡ then 0 [] (way on next said (limit - 0) s₀)
        first = let p : limit - 0 ≡ limit = omega arith in rw p (then-none (way on next said limit s₀))

    module _ (n : ℕ) (s : S) (out : List ℕ) (at : ℕ) (k : Kept limit s₀ out₀ n s out at) where
      -- the way ends here
      pub kept-last : way on next said (limit - n) s ≡ stays s
          → ◌≡◌ {A = Left S} (record { state = s; calls = n; len = at; out = out }) (left_by (way on next said limit s₀) out₀)
      kept-last p =
          let w : way on next said limit s₀ ≡ record { state = s; calls = n; text = take at out } = k.whole ∙ ap (λ c. then n (take at out) c) p ∙ then-stays n (take at out) s in
          let l : length (take at out) ≡ at = length-take-le at out k.room in
          let o : out ≡ take at out ++ drop at out₀ = sym (take-append-drop at out) ∙ ap (λ d. take at out ++ d) k.behind in
          (λ i. record { state = s; calls = n; len = sym l i; out = o i }) ∙ rw (w, l)

      -- a part of the way, its text written behind what stands
      pub kept-part : (g : Way S) → Part (limit - n) s g → g.calls ≤ limit - n → (ys : List ℕ) (m : ℕ)
          → Wrote g.text (take (length out - at) (drop at out)) m ys
          → length g.text ≤ 13 * g.calls → length g.text ≤ length out - at
          → Kept limit s₀ out₀ (n + g.calls) g.state (put_mid at (length out - at) out ys) (at + m)
      kept-part g j c ys m w few₁ fits =
          let t : List ℕ = g.text in
          let f : m ≡ length t = w.long in
          let y : ys ≡ t ++ drop (length t) (drop at out) = w.text ∙ rw rest in
          let o : List ℕ = put_mid at (length out - at) out ys in
          let eo : o ≡ (take at out ++ t) ++ drop (at + length t) out = to_end at out ys ∙ rw (y, drop-drop, append_assoc) in
          let lh : length (take at out ++ t) ≡ at + m = length-append (take at out) t ∙ rw (length-take-le at out k.room, f) in
          let lo : length o ≡ length out = ap length eo ∙ length-append (take at out ++ t) (drop (at + length t) out) ∙ rw (lh, length-drop, f) (omega (arith, k.room)) in
          let tk : take (at + m) o ≡ take at out ++ t = rw eo (take_at (take at out ++ t) (drop (at + length t) out) (at + m) lh) in
          let dr : drop (at + m) o ≡ drop (at + length t) out = rw eo (drop_at (take at out ++ t) (drop (at + length t) out) (at + m) lh) in
          let d0 : drop (at + length t) out ≡ drop (at + length t) out₀ = sym (drop-drop (length t) at out) ∙ ap (λ d. drop (length t) d) k.behind ∙ drop-drop (length t) at out₀ in
          let p : limit - n - g.calls ≡ limit - (n + g.calls) = omega arith in
          record {
            few = omega (arith, k.few);
            short = omega (arith, k.short, f);
            room = omega (arith, lo, f, k.room);
            long = lo ∙ k.long;
            behind = dr ∙ d0 ∙ ap (λ j. drop (at + j) out₀) (sym f);
            whole =
                k.whole
                ∙ ap (λ c. then n (take at out) c) j
                ∙ then-then n (take at out) g.calls t (way on next said (limit - n - g.calls) g.state)
                ∙ (λ i. then (n + g.calls) (sym tk i) (way on next said (p i) g.state));
          }
