-- Every open loop's range holds the place of a run, the innermost last, and no eighth loop opens. Assumes nothing.
use Prim.Native.Nat.{ℕ, zero, suc, ◌+◌, ◌≤◌, ◌<◌}
use mathlib.Core.Bool.{Bool, true, false, cond, ◌&&◌}
use mathlib.Core.List.{List, [], ◌∷◌}
use mathlib.Core.Path.{◌≡◌, refl, sym, ap, subst}
use native.Mathlib.Omega.{arith}
use lib.Dec.{ltb, leb, eqb, T, lt→ltb}
use borrow.Author.Tests.{le-leb, eqb-true, eqb-false}
use Rattle.program.specs.declared.Loop.{Loop}
use Rattle.program.specs.Onward.{counter}
use Rattle.program.proofs.laws.Flow.{Flow, Ahead, Jump, Wait, Round, Halt, Next, Fail, Here, depth, again, opens, looped, goes, is_loop, start_of, holds, holders}

pub is_true : {b : Bool} → b ≡ true → T b
is_true e = subst T (sym e) tt

module _ (flow : ℕ → Flow) (n : ℕ) where
  abbrev pub IsLoop : ℕ → Type 0
  IsLoop i = T (is_loop (flow i))

  abbrev pub start : ℕ → ℕ
  start i = start_of (flow i)

  -- WHAT THE CHECK SECURES of a program with n records
  pub record Secure : Type 0 where
    pub bounded : (i : ℕ) → IsLoop i → i < n
    pub own : (i : ℕ) → IsLoop i → start i ≤ i
    pub nest : (i j : ℕ) → IsLoop i → IsLoop j → i < j → start j ≤ i → start j ≤ start i
    pub jump : (p q : ℕ) → flow p ≡ Jump q → (i : ℕ) → IsLoop i → start i ≤ p → p ≤ i → (start i ≤ q) × (q ≤ i)
    pub wait : (p q : ℕ) → flow p ≡ Wait q → (i : ℕ) → IsLoop i → start i ≤ p → p ≤ i → (start i ≤ q) × (q ≤ i)
    pub few : (p : ℕ) → p < n → holders flow n 0 p ≤ 7

  -- THE INVARIANT: each open loop's range has begun at or before p, and from the loop opened last outwards the places rise from p on.
  -- So every open range holds p.
  abbrev pub Begun : ℕ → List Loop → Type 0
  Begun p [] = Unit
  Begun p (o ∷ l) = IsLoop o.place × (start o.place ≤ p) × Begun p l

  abbrev pub Rising : ℕ → List Loop → Type 0
  Rising m [] = Unit
  Rising m (o ∷ l) = (m ≤ o.place) × Rising (suc o.place) l

  pub record Inv (p : ℕ) (l : List Loop) : Type 0 where
    pub begun : Begun p l
    pub rising : Rising p l

  abbrev pub Good : Next → Type 0
  Good Fail = ⊥
  Good (Here p l) = Inv p l

  -- every open loop's place is below m
  abbrev Below : ℕ → List Loop → Type 0
  Below m [] = Unit
  Below m (o ∷ l) = (o.place < m) × Below m l

  begun-up : (p : ℕ) (l : List Loop) → Begun p l → Begun (suc p) l
  begun-up p [] b = tt
  begun-up p (o ∷ l) (k, h, b) = (k, omega arith, begun-up p l b)

  pub beyond : {m k : ℕ} → m ≤ k → (k ≡ m → ⊥) → suc m ≤ k
  beyond h d = omega arith

  -- past a place that no open loop ends at
  rising-past : (p : ℕ) (l : List Loop) → Begun p l → Rising p l → (IsLoop p → ⊥) → Rising (suc p) l
  rising-past p [] b r h = tt
  rising-past p (o ∷ l) (k, g, b) (m, r) h = (beyond m (λ e. h (subst IsLoop e k)), r)

  next : (p : ℕ) (l : List Loop) → Inv p l → (IsLoop p → ⊥) → Inv (suc p) l
  next p l v h = record { begun = begun-up p l v.begun; rising = rising-past p l v.begun v.rising h }

  -- to a place that lies in the same ranges
  begun_to : (p q : ℕ) (l : List Loop) → ((i : ℕ) → IsLoop i → start i ≤ p → p ≤ i → (start i ≤ q) × (q ≤ i)) → Begun p l → (m : ℕ) → p ≤ m → Rising m l → Begun q l
  begun_to p q [] h b m k r = tt
  begun_to p q (o ∷ l) h (i, g, b) m k (r, t) = (i, (h o.place i g (omega arith)).0, begun_to p q l h b (suc o.place) (omega arith) t)

  rising-to : (p q : ℕ) (l : List Loop) → ((i : ℕ) → IsLoop i → start i ≤ p → p ≤ i → (start i ≤ q) × (q ≤ i)) → Begun p l → Rising p l → Rising q l
  rising-to p q [] h b r = tt
  rising-to p q (o ∷ l) h (i, g, b) (r, t) = ((h o.place i g r).1, t)

  across : (p q : ℕ) (l : List Loop) → ((i : ℕ) → IsLoop i → start i ≤ p → p ≤ i → (start i ≤ q) × (q ≤ i)) → Inv p l → Inv q l
  across p q l h v = record { begun = begun_to p q l h v.begun p (omega arith) v.rising; rising = rising-to p q l h v.begun v.rising }

  -- ---- the depth: rising places whose ranges all hold p are no more than the holders of p
  counted : (b x y : Bool) → T b → x ≡ true → y ≡ true → ◌≡◌ {A = ℕ} (cond (b && (x && y)) 1 0) 1
  counted true x y t e f = rw (e, f)
  counted false x y t e f = absurd t

  one_of : (i p : ℕ) → IsLoop i → start i ≤ p → p ≤ i → ◌≡◌ {A = ℕ} (cond (holds flow i p) 1 0) 1
  one_of i p k g h = counted (is_loop (flow i)) (leb (start i) p) (leb p i) k (le-leb _ _ g) (le-leb _ _ h)

  abbrev pub Covers : ℕ → List Loop → Type 0
  Covers p [] = Unit
  Covers p (o ∷ l) = (p ≤ o.place) × Covers p l

  pub covers : (p m : ℕ) (l : List Loop) → p ≤ m → Rising m l → Covers p l
  covers p m [] h r = tt
  covers p m (o ∷ l) h (g, r) = (omega arith, covers p (suc o.place) l (omega arith) r)

  -- what the induction over the places says of every list
  abbrev Deep : ℕ → ℕ → ℕ → Type 0
  Deep m i p = (l : List Loop) → Begun p l → Covers p l → Rising i l → Below (i + m) l → depth l ≤ holders flow m i p

  deep-go : (m i p : ℕ) (o : Loop) (l : List Loop) (q : Bool) → eqb o.place i ≡ q → Deep m (suc i) p →
      Begun p (o ∷ l) → Covers p (o ∷ l) → Rising i (o ∷ l) → Below (suc i + m) (o ∷ l) → suc (depth l) ≤ cond (holds flow i p) 1 0 + holders flow m (suc i) p
  deep-go m i p o l true e f (k, g, b) (c, cs) (r, rs) (u, us) =
      let h : o.place ≡ i = eqb-true o.place i e in
      let w : ◌≡◌ {A = ℕ} (cond (holds flow i p) 1 0) 1 = one_of i p (subst IsLoop h k) (subst (λ (j : ℕ). start j ≤ p) h g) (subst (λ (j : ℕ). p ≤ j) h c) in
      omega (arith, w, f l b cs (subst (λ (j : ℕ). Rising (suc j) l) h rs) us)
  deep-go m i p o l false e f b c (r, rs) u = omega (arith, f (o ∷ l) b c (beyond r (eqb-false o.place i e), rs) u)

  deep : (m i p : ℕ) → Deep m i p
  deep zero i p [] b c r u = omega arith
  deep zero i p (o ∷ l) b c r u = absurd (none r.0 u.0)
    where
      none : {j k : ℕ} → j ≤ k → k < j + 0 → ⊥
      none h g = omega arith
  deep (suc m) i p [] b c r u = omega arith
  deep (suc m) i p (o ∷ l) b c r u = deep-go m i p o l (eqb o.place i) refl (deep m (suc i) p) b c r (subst (λ (j : ℕ). Below j (o ∷ l)) (shift i m) u)
    where
      shift : (i m : ℕ) → i + suc m ≡ suc i + m
      shift i m = omega arith

  below : (s : Secure) (p : ℕ) (l : List Loop) → Begun p l → Below n l
  below s p [] b = tt
  below s p (o ∷ l) (k, g, b) = (s.bounded o.place k, below s p l b)

  rising_down : (l : List Loop) (m : ℕ) → Rising m l → Rising 0 l
  rising_down [] m r = tt
  rising_down (o ∷ l) m (g, r) = (omega arith, r)

  -- seven at most
  pub seven : (s : Secure) (p : ℕ) (l : List Loop) → p < n → Inv p l → depth l ≤ 7
  seven s p l h v =
      omega (
        arith,
        s.few p h,
        deep n 0 p l v.begun (covers p p l (omega arith) v.rising) (rising_down l p v.rising)
            (subst (λ (j : ℕ). Below j l) (zero-plus n) (below s p l v.begun)),
      )
    where
      zero-plus : (k : ℕ) → k ≡ 0 + k
      zero-plus k = omega arith

  -- ---- at a loop
  begun-back : (s : Secure) (p : ℕ) → IsLoop p → (l : List Loop) (m : ℕ) → suc p ≤ m → Begun p l → Rising m l → Begun (start p) l
  begun-back s p k [] m h b r = tt
  begun-back s p k (o ∷ l) m h (i, g, b) (r, rs) = (i, s.nest p o.place k i (omega arith) g, begun-back s p k l (suc o.place) (omega arith) b rs)

  pushed : (s : Secure) (p c : ℕ) (l : List Loop) → IsLoop p → Begun p l → Rising (suc p) l → Inv (start p) (counter p c ∷ l)
  pushed s p c l k b r = record { begun = (k, omega arith, begun-back s p k l (suc p) (omega arith) b r); rising = (s.own p k, r) }

  pub good-again : (s : Secure) (p c : ℕ) (l : List Loop) → IsLoop p → Begun p l → Rising (suc p) l → Good (again p (start p) c l)
  good-again s p zero l k b r = record { begun = begun-up p l b; rising = r }
  good-again s p (suc c) l k b r = pushed s p c l k b r

  pub chosen : (P : Next → Type 0) (q : Bool) {a : Next} → T q → P a → P (elim q [ true ↦ a | false ↦ Fail ])
  chosen P true t h = h
  chosen P false t h = absurd t

  good-opens : (s : Secure) (p c : ℕ) (l : List Loop) → IsLoop p → Begun p l → Rising (suc p) l → Good (opens p (start p) c l)
  good-opens s p c l k b r =
      let o : Loop = counter p c in
      let v : Inv p (o ∷ l) = record { begun = (k, s.own p k, b); rising = (omega arith, r) } in
      chosen Good (ltb (depth l) 7) (lt→ltb (depth l) 7 (seven s p (o ∷ l) (s.bounded p k) v)) (good-again s p c l k b r)

  good-looped-go : (s : Secure) (p c : ℕ) (o : Loop) (l : List Loop) (q : Bool) → eqb o.place p ≡ q → IsLoop p → Inv p (o ∷ l) →
      Good (elim q [ true ↦ again p (start p) o.left l | false ↦ opens p (start p) c (o ∷ l) ])
  good-looped-go s p c o l true e k v =
      good-again s p o.left l k v.begun.2 (subst (λ (j : ℕ). Rising (suc j) l) (eqb-true o.place p e) v.rising.1)
  good-looped-go s p c o l false e k v = good-opens s p c (o ∷ l) k v.begun (beyond v.rising.0 (eqb-false o.place p e), v.rising.1)

  good-looped : (s : Secure) (p c : ℕ) (l : List Loop) → IsLoop p → Inv p l → Good (looped p (start p) c l)
  good-looped s p c [] k v = good-opens s p c [] k tt tt
  good-looped s p c (o ∷ l) k v = good-looped-go s p c o l (eqb o.place p) refl k v

  no_loop : {p : ℕ} {f : Flow} → flow p ≡ f → (T (is_loop f) → ⊥) → IsLoop p → ⊥
  no_loop e h k = h (subst (λ (g : Flow). T (is_loop g)) e k)

  good-wait : (s : Secure) (p q : ℕ) (b : Bool) (l : List Loop) → flow p ≡ Wait q → Inv p l → Inv (cond b q (suc p)) l
  good-wait s p q true l e v = across p q l (s.wait p q e) v
  good-wait s p q false l e v = next p l v (no_loop e (λ t. t))

  pub good-goes : (s : Secure) (f : Flow) (b : Bool) (p : ℕ) (l : List Loop) → flow p ≡ f → Inv p l → Good (goes f b p l)
  good-goes s Ahead b p l e v = next p l v (no_loop e (λ t. t))
  good-goes s (Jump q) b p l e v = across p q l (s.jump p q e) v
  good-goes s (Wait q) b p l e v = good-wait s p q b l e v
  good-goes s (Round c f) b p l e v = subst (λ (g : ℕ). Good (looped p g c l)) (ap start_of e) (good-looped s p c l (subst (λ (g : Flow). T (is_loop g)) (sym e) tt) v)
  good-goes s Halt b p l e v = v
