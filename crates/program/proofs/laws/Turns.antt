-- A loop goes back exactly its number of times, and then on, each time that it is entered. Assumes nothing.
use Prim.Native.Nat.{ℕ, zero, suc, ◌≤◌}
use mathlib.Core.Bool.{Bool, true, false}
use mathlib.Core.List.{List, [], ◌∷◌}
use mathlib.Core.Path.{◌≡◌, refl, sym, ◌∙◌, ap, subst}
use native.Mathlib.Omega.{arith}
use lib.Dec.{ltb, eqb, T, lt→ltb}
use borrow.Author.Tests.{eqb-true, eqb-false, eq-eqb, ne_eqb}
use Rattle.program.specs.declared.Loop.{Loop}
use Rattle.program.specs.Onward.{counter}
use Rattle.program.specs.Rounds.{Rounds}
use Rattle.program.proofs.laws.Flow.{Flow, Ahead, Jump, Wait, Round, Halt, Next, Fail, Here, depth, again, opens, looped, goes, is_loop, start_of, next_of, noted}
use Rattle.program.proofs.laws.Nest as nest

module _ (flow : ℕ → Flow) (n : ℕ) where
  abbrev Secure : Type 0
  Secure = nest.Secure flow n

  abbrev Inv : ℕ → List Loop → Type 0
  Inv p l = nest.Inv flow n p l

  abbrev IsLoop : ℕ → Type 0
  IsLoop i = nest.IsLoop flow n i

  abbrev start : ℕ → ℕ
  start i = nest.start flow n i

  abbrev Good : Next → Type 0
  Good t = nest.Good flow n t

  abbrev Begun : ℕ → List Loop → Type 0
  Begun p l = nest.Begun flow n p l

  abbrev Rising : ℕ → List Loop → Type 0
  Rising p l = nest.Rising flow n p l

  -- ---- how often a loop goes back
  -- what the loop at i, with number c, has left
  abbrev pub due : ℕ → ℕ → List Loop → ℕ
  due i c [] = c
  due i c (o ∷ l) = elim (eqb o.place i) [ true ↦ o.left | false ↦ due i c l ]

  abbrev pub due_n : ℕ → ℕ → Next → ℕ
  due_n i c Fail = c
  due_n i c (Here p l) = due i c l

  yes : (q : Bool) (a b : ℕ) → q ≡ true → elim q [ true ↦ a | false ↦ b ] ≡ a
  yes true a b e = refl
  yes false a b e = absurd (subst T (sym e) tt)

  nay : (q : Bool) (a b : ℕ) → q ≡ false → elim q [ true ↦ a | false ↦ b ] ≡ b
  nay true a b e = absurd (subst T e tt)
  nay false a b e = refl

  due-none : (i c : ℕ) (l : List Loop) (m : ℕ) → suc i ≤ m → Rising m l → due i c l ≡ c
  due-none i c [] m h r = refl
  due-none i c (o ∷ l) m h (g, r) = nay (eqb o.place i) o.left (due i c l) (ne_eqb o.place i apart) ∙ due-none i c l (suc o.place) (omega arith) r
    where
      apart : o.place ≡ i → ⊥
      apart e = omega arith

  -- one turn of the loop at i with k left, which leads to t
  abbrev Turned : ℕ → ℕ → ℕ → Next → Type 0
  Turned i c zero t = (next_of t ≡ suc i) × (due_n i c t ≡ c)
  Turned i c (suc k) t = (next_of t ≡ start i) × (due_n i c t ≡ k)

  turned-again : (s : Secure) (i c k : ℕ) (l : List Loop) → IsLoop i → Rising (suc i) l → Turned i c k (again i (start i) k l)
  turned-again s i c zero l h r = (refl, due-none i c l (suc i) (omega arith) r)
  turned-again s i c (suc k) l h r = (refl, yes (eqb i i) k (due i c l) (eq-eqb i i refl))

  turned-opens : (s : Secure) (i c : ℕ) (l : List Loop) → IsLoop i → Begun i l → Rising (suc i) l → Turned i c c (opens i (start i) c l)
  turned-opens s i c l k b r =
      let o : Loop = counter i c in
      let v : Inv i (o ∷ l) = record { begun = (k, s.own i k, b); rising = (omega arith, r) } in
      nest.chosen flow n (Turned i c c) (ltb (depth l) 7) (lt→ltb (depth l) 7 (nest.seven flow n s i (o ∷ l) (s.bounded i k) v)) (turned-again s i c c l k r)

  turned-go : (s : Secure) (i c : ℕ) (o : Loop) (l : List Loop) (q : Bool) → eqb o.place i ≡ q → IsLoop i → Inv i (o ∷ l) →
      Turned i c (elim q [ true ↦ o.left | false ↦ due i c l ]) (elim q [ true ↦ again i (start i) o.left l | false ↦ opens i (start i) c (o ∷ l) ])
  turned-go s i c o l true e k v = turned-again s i c o.left l k (subst (λ (j : ℕ). Rising (suc j) l) (eqb-true o.place i e) v.rising.1)
  turned-go s i c o l false e k v =
      let g : suc i ≤ o.place = nest.beyond flow n v.rising.0 (eqb-false o.place i e) in
      subst (λ (d : ℕ). Turned i c d (opens i (start i) c (o ∷ l))) (sym (due-none i c l (suc o.place) (omega arith) v.rising.1))
      (turned-opens s i c (o ∷ l) k v.begun (g, v.rising.1))

  turned : (s : Secure) (i c : ℕ) (l : List Loop) → IsLoop i → Inv i l → Turned i c (due i c l) (looped i (start i) c l)
  turned s i c [] k v = turned-opens s i c [] k tt tt
  turned s i c (o ∷ l) k v = turned-go s i c o l (eqb o.place i) refl k v

  -- another place leaves what is due alone
  kept_again : (i c p f k : ℕ) (l : List Loop) → (p ≡ i → ⊥) → due_n i c (again p f k l) ≡ due i c l
  kept_again i c p f zero l h = refl
  kept_again i c p f (suc k) l h = nay (eqb p i) k (due i c l) (ne_eqb p i h)

  kept-opens : (i c p f k : ℕ) (l : List Loop) → (p ≡ i → ⊥) → Good (opens p f k l) → due_n i c (opens p f k l) ≡ due i c l
  kept-opens i c p f k l h = go (ltb (depth l) 7)
    where
      go : (q : Bool) → Good (elim q [ true ↦ again p f k l | false ↦ Fail ]) → due_n i c (elim q [ true ↦ again p f k l | false ↦ Fail ]) ≡ due i c l
      go true g = kept_again i c p f k l h
      go false g = absurd g

  kept-go : (i c p f k : ℕ) (o : Loop) (l : List Loop) (q : Bool) → eqb o.place p ≡ q → (p ≡ i → ⊥) →
      Good (elim q [ true ↦ again p f o.left l | false ↦ opens p f k (o ∷ l) ]) →
      due_n i c (elim q [ true ↦ again p f o.left l | false ↦ opens p f k (o ∷ l) ]) ≡ due i c (o ∷ l)
  kept-go i c p f k o l true e h g =
      kept_again i c p f o.left l h ∙ sym (nay (eqb o.place i) o.left (due i c l) (ne_eqb o.place i (λ d. h (sym (eqb-true o.place p e) ∙ d))))
  kept-go i c p f k o l false e h g = kept-opens i c p f k (o ∷ l) h g

  kept-due : (i c : ℕ) (fl : Flow) (b : Bool) (p : ℕ) (l : List Loop) → (p ≡ i → ⊥) → Good (goes fl b p l) → due_n i c (goes fl b p l) ≡ due i c l
  kept-due i c Ahead b p l h g = refl
  kept-due i c (Jump q) b p l h g = refl
  kept-due i c (Wait q) b p l h g = refl
  kept-due i c (Round k f) b p [] h g = kept-opens i c p f k [] h g
  kept-due i c (Round k f) b p (o ∷ l) h g = kept-go i c p f k o l (eqb o.place p) refl h g
  kept-due i c Halt b p l h g = refl

  cycle-turn : (i c k : ℕ) (t : Next) (ts : List ℕ) → Turned i c k t → Rounds (start i) (suc i) c (due_n i c t) ts → Rounds (start i) (suc i) c k (next_of t ∷ ts)
  cycle-turn i c zero t ts (e, d) h = (e, subst (λ (m : ℕ). Rounds (start i) (suc i) c m ts) d h)
  cycle-turn i c (suc k) t ts (e, d) h = (e, subst (λ (m : ℕ). Rounds (start i) (suc i) c m ts) d h)

  -- one record: noted if it is the loop's own
  pub cycle-go : (s : Secure) (i c f : ℕ) → flow i ≡ Round c f → (b : Bool) (p : ℕ) (l : List Loop) (q : Bool) → eqb p i ≡ q → Inv p l → (ts : List ℕ) →
      Rounds (start i) (suc i) c (due_n i c (goes (flow p) b p l)) ts → Rounds (start i) (suc i) c (due i c l) (noted q (next_of (goes (flow p) b p l)) ts)
  cycle-go s i c f e b p l true h v ts g = cycle-turn i c (due i c l) (goes (flow p) b p l) ts here g
    where
      same : p ≡ i
      same = eqb-true p i h

      k : IsLoop i
      k = subst (λ (x : Flow). T (is_loop x)) (sym e) tt

      here : Turned i c (due i c l) (goes (flow p) b p l)
      here = subst (λ (x : Flow). Turned i c (due i c l) (goes x b p l)) (sym (ap flow same ∙ e))
          (subst (λ (j : ℕ). Turned i c (due i c l) (looped j f c l)) (sym same)
          (subst (λ (j : ℕ). Turned i c (due i c l) (looped i j c l)) (ap start_of e) (turned s i c l k (subst (λ (j : ℕ). Inv j l) same v))))
  cycle-go s i c f e b p l false h v ts g =
      subst (λ (m : ℕ). Rounds (start i) (suc i) c m ts) (kept-due i c (flow p) b p l (eqb-false p i h) (nest.good-goes flow n s (flow p) b p l refl v)) g
