-- Laws of any machine that makes steps and says a text at each, and of a machine inside another. Assumes nothing.
use Prim.Native.Nat.{ℕ, zero, suc, ◌+◌, ◌-◌, ◌<◌, ◌≤◌}
use mathlib.Core.Path.{◌≡◌, refl, ap, sym, ◌∙◌}
use mathlib.Core.Bool.{Bool, true, false}
use mathlib.Core.List.{List, [], ◌++◌, append_assoc, append-nil}
use native.Mathlib.Numerals.{sub-one}
use native.Mathlib.Omega.{arith}
use Rattle.course.specs.work.Machine.{Way, stays, then, way}

module _ {S : Type 0} (on : S → Bool) (next : S → S) (said : S → List ℕ) where
  pub way_on : (k : ℕ) (s : S) → on s ≡ true → way on next said (suc k) s ≡ then 1 (said s) (way on next said k (next s))
  unfolding way
  way_on k s p = rw (p, way)

  pub way-off : (k : ℕ) (s : S) → on s ≡ false → way on next said k s ≡ stays s
  unfolding way
  way-off zero s p = refl
  way-off (suc k) s p = rw (p, way)

  pub way-none : (k : ℕ) (s : S) → k ≡ 0 → way on next said k s ≡ stays s
  unfolding way
  way-none k s p = rw p

  pub way_step : (k : ℕ) (s : S) → 0 < k → on s ≡ true → way on next said k s ≡ then 1 (said s) (way on next said (k - 1) (next s))
  way_step zero s h p = absurd (omega arith)
  way_step (suc k) s h p = way_on k s p ∙ rw sub-one

  -- no more steps than allowed
  few-by : (k : ℕ) (s : S) (b : Bool) → on s ≡ b → (way on next said k (next s)).calls ≤ k → (way on next said (suc k) s).calls ≤ suc k
  few-by k s true o h = rw (way_on k s o) (omega arith)
  few-by k s false o h = rw (way-off (suc k) s o) (omega arith)

  pub few : (k : ℕ) (s : S) → (way on next said k s).calls ≤ k
  few zero s = rw (way-none zero s refl) (omega arith)
  few (suc k) s = few-by k s (on s) refl (few k (next s))

module _ {S : Type 0} where
  pub then-then : (n : ℕ) (l : List ℕ) (m : ℕ) (t : List ℕ) (c : Way S) → then n l (then m t c) ≡ then (n + m) (l ++ t) c
  then-then n l m t c =
      let p : n + (m + c.calls) ≡ n + m + c.calls = omega arith in
      let q = append_assoc l t c.text in
      λ i. record { state = c.state; calls = p i; text = sym q i }

  pub then-none : (c : Way S) → c ≡ then 0 [] c
  then-none c = let p : c.calls ≡ 0 + c.calls = omega arith in λ i. record { state = c.state; calls = p i; text = c.text }

  pub then-stays : (n : ℕ) (l : List ℕ) (s : S) → then n l (stays s) ≡ record { state = s; calls = n; text = l }
  then-stays n l s = let p : n + 0 ≡ n = omega arith in λ i. record { state = s; calls = p i; text = append-nil l i }

-- ---- a machine inside another: as far as the inner one goes, the outer one does the same
module _ {S T : Type 0} (on : S → Bool) (next : S → S) (said : S → List ℕ) (on' : T → Bool) (next' : T → T) (said' : T → List ℕ) (put : T → S)
    (same : (t : T) → on' t ≡ true → (on (put t) ≡ true) × (next (put t) ≡ put (next' t)) × (said (put t) ≡ said' t)) where
  abbrev pub Joined : ℕ → T → Way T → Type 0
  Joined k t g = way on next said k (put t) ≡ then g.calls g.text (way on next said (k - g.calls) (put g.state))

  none-joined : (k : ℕ) (t : T) → Joined k t (stays t)
  none-joined k t =
      let p : k - 0 ≡ k = omega arith in
      rw p (then-none (way on next said k (put t)))

  one-joined : (k : ℕ) (t : T) (g : Way T) → on' t ≡ true → Joined k (next' t) g → Joined (suc k) t (then 1 (said' t) g)
  one-joined k t g o h =
      let (a, b, c) = same t o in
      let p : k - g.calls ≡ suc k - (1 + g.calls) = omega arith in
      way_on on next said k (put t) a
      ∙ rw (b, c) (ap (λ w. then 1 (said' t) w) h)
      ∙ then-then 1 (said' t) g.calls g.text (way on next said (k - g.calls) (put g.state))
      ∙ (λ i. then (1 + g.calls) (said' t ++ g.text) (way on next said (p i) (put g.state)))

  by-joined : (k : ℕ) (t : T) (b : Bool) → on' t ≡ b → Joined k (next' t) (way on' next' said' k (next' t)) → Joined (suc k) t (way on' next' said' (suc k) t)
  by-joined k t true o h = let e = way_on on' next' said' k t o in rw e (one-joined k t (way on' next' said' k (next' t)) o h)
  by-joined k t false o h = let e = way-off on' next' said' (suc k) t o in rw e (none-joined (suc k) t)

  pub inner : (k : ℕ) (t : T) → Joined k t (way on' next' said' k t)
  inner zero t = let e = way-none on' next' said' zero t refl in rw e (none-joined zero t)
  inner (suc k) t = by-joined k t (on' t) refl (inner k (next' t))
