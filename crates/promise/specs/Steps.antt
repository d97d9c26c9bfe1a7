-- A machine's steps one after the other: the state that they lead to, what they show, and the steps of a schedule that are kept.
use Rattle.std.specs.Prelude.{Bool, true, false, List, [], ◌∷◌, ◌++◌}

-- each of a list has a property
abbrev pub Each : {E : Type 0} → (E → Type 0) → List E → Type 0
Each P [] = Unit
Each P (e ∷ es) = P e × Each P es

module _ {S E : Type 0} (next : S → E → S) where
  -- the state after all steps
  unfoldable pub reached : S → List E → S
  reached s [] = s
  reached s (e ∷ es) = reached (next s e) es

  -- what each step shows at the state where it is made, one after the other
  unfoldable pub shown : {A : Type 0} → (S → E → List A) → S → List E → List A
  shown told s [] = []
  shown told s (e ∷ es) = told s e ++ shown told (next s e) es

  -- each step has a property at the state where it is made
  abbrev pub Along : (S → E → Type 0) → S → List E → Type 0
  Along P s [] = Unit
  Along P s (e ∷ es) = P s e × Along P (next s e) es

-- ---- the steps of a schedule that are kept, each as its counterpart

abbrev pub cons_if : {A : Type 0} → Bool → A → List A → List A
cons_if true a l = a ∷ l
cons_if false a l = l

module _ {S E : Type 0} (next : S → E → S) {E2 : Type 0} (kept : S → E → Bool) (act : E → E2) where
  unfoldable pub kept_of : S → List E → List E2
  kept_of s [] = []
  kept_of s (e ∷ es) = cons_if (kept s e) (act e) (kept_of (next s e) es)
