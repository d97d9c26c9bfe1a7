-- Two machines side by side, once for all: where each step of the first is either made by the second too or left out by it, and what is
-- left out shows nothing, all steps together come to the same.
use mathlib.Core.Bool.{Bool, true, false}
use mathlib.Core.List.{List, [], ◌∷◌, ◌++◌, append_assoc}
use mathlib.Core.Path.{◌≡◌, refl, sym, ◌∙◌, ap, subst}
use Rattle.promise.specs.Steps.{Each, reached, shown, Along, cons_if, kept_of}

-- ---- one machine: its states and its steps

module _ {S E : Type 0} (next : S → E → S) where
  pub reached-join : (s : S) (es fs : List E) → reached next s (es ++ fs) ≡ reached next (reached next s es) fs
  unfolding reached
  reached-join s [] fs = refl
  reached-join s (e ∷ es) fs = reached-join (next s e) es fs

  pub shown-join : {A : Type 0} (told : S → E → List A) (s : S) (es fs : List E) →
      shown next told s (es ++ fs) ≡ shown next told s es ++ shown next told (reached next s es) fs
  unfolding reached shown
  shown-join told s [] fs = refl
  shown-join told s (e ∷ es) fs =
      ap (λ (l : List _). told s e ++ l) (shown-join told (next s e) es fs)
      ∙ sym (append_assoc (told s e) (shown next told (next s e) es) (shown next told (reached next (next s e) es) fs))

-- ---- two machines: each state of the first has its twin

module _ {S E : Type 0} (next : S → E → S) {S2 E2 : Type 0} (next2 : S2 → E2 → S2) (kept : S → E → Bool) (act : E → E2) where
  module _ (twin : S → S2) (Fit : S → Type 0) (Mild : E → Type 0) where
    abbrev pub Moves : Bool → S → E → Type 0
    Moves true s e = next2 (twin s) (act e) ≡ twin (next s e)
    Moves false s e = twin s ≡ twin (next s e)

    -- what a kept step shows, its counterpart shows too; a step left out shows nothing
    abbrev pub Shows : {A : Type 0} → (S → E → List A) → (S2 → E2 → List A) → Bool → S → E → Type 0
    Shows told told2 true s e = told s e ≡ told2 (twin s) (act e)
    Shows told told2 false s e = told s e ≡ []

    module _ (one : (s : S) (e : E) → Fit s → Mild e → Moves (kept s e) s e × Fit (next s e)) where
      state-go : (k : Bool) (s : S) (e : E) (fs : List E2) (t : S2) → Moves k s e →
          t ≡ reached next2 (twin (next s e)) fs → t ≡ reached next2 (twin s) (cons_if k (act e) fs)
      unfolding reached
      state-go true s e fs t p h = h ∙ ap (λ (d : S2). reached next2 d fs) (sym p)
      state-go false s e fs t p h = h ∙ ap (λ (d : S2). reached next2 d fs) (sym p)

      -- the second machine comes to the twin of the first's state
      pub same-state : (s : S) (es : List E) → Fit s → Each Mild es → twin (reached next s es) ≡ reached next2 (twin s) (kept_of next kept act s es)
      unfolding reached kept_of
      same-state s [] f m = refl
      same-state s (e ∷ es) f (m, ms) =
          let h = one s e f m in
          state-go (kept s e) s e (kept_of next kept act (next s e) es) (twin (reached next (next s e) es)) h.0 (same-state (next s e) es h.1 ms)

      pub stays_fit : (s : S) (es : List E) → Fit s → Each Mild es → Fit (reached next s es)
      unfolding reached
      stays_fit s [] f m = f
      stays_fit s (e ∷ es) f (m, ms) = stays_fit (next s e) es (one s e f m).1 ms

      -- a property that each kept step has at the twin holds along all of them
      module _ (P : S2 → E2 → Type 0) (has : (s : S) (e : E) → Fit s → Mild e → kept s e ≡ true → P (twin s) (act e)) where
        along-go : (k : Bool) (s : S) (e : E) (fs : List E2) → (k ≡ true → P (twin s) (act e)) → Moves k s e →
            Along next2 P (twin (next s e)) fs → Along next2 P (twin s) (cons_if k (act e) fs)
        along-go true s e fs g p h = (g refl, subst (λ (d : S2). Along next2 P d fs) (sym p) h)
        along-go false s e fs g p h = subst (λ (d : S2). Along next2 P d fs) (sym p) h

        pub all-along : (s : S) (es : List E) → Fit s → Each Mild es → Along next2 P (twin s) (kept_of next kept act s es)
        unfolding kept_of
        all-along s [] f m = tt
        all-along s (e ∷ es) f (m, ms) =
            let h = one s e f m in
            along-go (kept s e) s e (kept_of next kept act (next s e) es) (has s e f m) h.0 (all-along (next s e) es h.1 ms)

      -- both machines show the same
      module _ {A : Type 0} (told : S → E → List A) (told2 : S2 → E2 → List A) where
        module _ (shows : (s : S) (e : E) → Fit s → Mild e → Shows told told2 (kept s e) s e) where
          shown-go : (k : Bool) (s : S) (e : E) (l : List A) (fs : List E2) → Moves k s e → Shows told told2 k s e →
              l ≡ shown next2 told2 (twin (next s e)) fs → told s e ++ l ≡ shown next2 told2 (twin s) (cons_if k (act e) fs)
          unfolding shown
          shown-go true s e l fs p q h = λ i. q i ++ (h ∙ ap (λ (d : S2). shown next2 told2 d fs) (sym p)) i
          shown-go false s e l fs p q h = ap (λ (r : List A). r ++ l) q ∙ h ∙ ap (λ (d : S2). shown next2 told2 d fs) (sym p)

          pub same-shown : (s : S) (es : List E) → Fit s → Each Mild es → shown next told s es ≡ shown next2 told2 (twin s) (kept_of next kept act s es)
          unfolding shown kept_of
          same-shown s [] f m = refl
          same-shown s (e ∷ es) f (m, ms) =
              let h = one s e f m in
              shown-go (kept s e) s e (shown next told (next s e) es) (kept_of next kept act (next s e) es) h.0 (shows s e f m)
              (same-shown (next s e) es h.1 ms)
