-- The check of two programs one behind the other (02, §4): of two that pass, what comes of them passes exactly if no jump or wait of the
-- first leads to its end place, or no range of the second starts at place 0. Assumes nothing.
use Prim.Native.Nat.{ℕ, ◌+◌, ◌≤◌, ◌<◌}
use mathlib.Core.Bool.{Bool, true, false, not, ◌&&◌}
use mathlib.Core.List.{List, [], ◌++◌}
use mathlib.Core.Path.{◌≡◌, refl, sym, ◌∙◌, ap, subst}
use native.Mathlib.Nat.{zero-add}
use native.Mathlib.Omega.{arith}
use borrow.Author.Tests.{eqb-true, eq-eqb}
use lib.Dec.{eqb}
use lib.ListN.{length, length-append, get_or-append}
use lib.Seq.{get_or-append-add}
use Rattle.count.proofs.laws.Truth.{never, and_parts, both}
use Rattle.record.specs.declared.Record.{Record}
use Rattle.record.specs.Bytes.{made, is_right}
use Rattle.program.specs.Verdict.{Verdict, Sound, Fault, Unreadable}
use Rattle.program.specs.Program.{record_in, is_sound, passes}
use Rattle.program.specs.Edges.{leads_out, starts_first}
use Rattle.program.specs.work.Aims.{is_loop, is_turn, offset_of, aim_of, loop_at, turn_at, far_at, marked_of}
use Rattle.program.specs.work.Edges.{leads}
use Rattle.program.specs.work.Marks.{mark, holds, strays, letter, checked}
use Rattle.program.specs.work.Ranges.{differ}
use Rattle.program.proofs.laws.Clean.{Clean, clean, letter-of, start-of, holds-yes, holds-short}
use Rattle.program.proofs.laws.Discipline.{fine}
use Rattle.program.proofs.laws.Edges.{out-same, first-same}
use Rattle.program.proofs.laws.First.{none}
use Rattle.program.proofs.laws.Marks.{marked-same}
use Rattle.program.proofs.laws.Part.{split, Part, clean-part}
use Rattle.program.proofs.laws.Ranges.{some-none, some_one}
use Rattle.program.proofs.laws.Run.{Accepted}

not_sound : (v : Verdict) → (v ≡ Sound → ⊥) → is_sound v ≡ false
not_sound Sound f = absurd (f refl)
not_sound (Fault a p) f = refl
not_sound Unreadable f = refl

-- ---- over marks: n places that pass, and k behind them that pass

module _ (loop turn : ℕ → Bool) (far : ℕ → ℕ) (n k : ℕ) (loop1 turn1 : ℕ → Bool) (far1 : ℕ → ℕ) (loop2 turn2 : ℕ → Bool) (far2 : ℕ → ℕ) (one : Part loop turn far 0 n loop1 turn1 far1) (two : Part loop turn far n k loop2 turn2 far2) (first : checked loop1 turn1 far1 n ≡ Sound) (second : checked loop2 turn2 far2 k ≡ Sound) where
  behind : (j : ℕ) → j < k → loop (n + j) ≡ true → mark n ≤ far (n + j)
  behind j h z =
      let u = start-of loop2 far2 j (clean loop2 turn2 far2 k second j h).late (sym (two.loops j h) ∙ z) in
      rw (two.fars j h) (omega arith)

  -- ---- the places of both

  first-clean : (p : ℕ) → p < n → (turn1 p ≡ true → far1 p ≡ mark n → (j : ℕ) → j < k → loop2 j ≡ true → far2 j ≡ mark 0 → ⊥) → Clean loop turn far (n + k) p
  first-clean p h q =
      let c = clean-part loop turn far 0 n k loop1 turn1 far1 one (clean loop1 turn1 far1 n first) (rw zero-add behind) p h
      (rw zero-add (λ t f j g o s. q t f j g (sym (two.loops j g) ∙ o) (let e : n + far2 j ≡ mark n = sym (two.fars j g) ∙ s in omega arith))) in
      rw (zero-add n, zero-add p) at c

  second-clean : (j : ℕ) → j < k → Clean loop turn far (n + k) (n + j)
  second-clean j h =
      let e : n + k + 0 ≡ n + k = omega arith in
      subst (λ (m : ℕ). Clean loop turn far m (n + j)) e
      (clean-part loop turn far n k 0 loop2 turn2 far2 two (clean loop2 turn2 far2 k second) (λ i g. absurd (omega arith)) j h (λ t f i g. absurd (omega arith)))

  -- NO FAULT, unless a jump or wait of the first leads to its end place and a range of the second starts at its place 0
  sound-so : ((p j : ℕ) → p < n → j < k → turn1 p ≡ true → far1 p ≡ mark n → loop2 j ≡ true → far2 j ≡ mark 0 → ⊥) → checked loop turn far (n + k) ≡ Sound
  unfolding checked
  sound-so q =
      none (letter loop turn far (n + k)) (n + k) 0
      (λ i u v. letter-of loop turn far (n + k) i (split (Clean loop turn far (n + k)) n k (λ p h. first-clean p h (λ t f j g. q p j h g t f)) second-clean i (omega arith)))

  -- and then: the range does not hold that jump or wait, but its target
  strays-so : (p j : ℕ) → p < n → j < k → turn1 p ≡ true → far1 p ≡ mark n → loop2 j ≡ true → far2 j ≡ mark 0 → strays loop turn far (n + k) p ≡ true
  unfolding strays differ
  strays-so p j h g t f o s =
      let a : turn p ≡ true = subst (λ (i : ℕ). turn i ≡ true) (zero-add p) (one.turns p h ∙ t) in
      let b : far p ≡ mark n = subst (λ (i : ℕ). far i ≡ mark n) (zero-add p) (one.fars p h ∙ omega arith) in
      let c : loop (n + j) ≡ true = two.loops j g ∙ o in
      let e : far (n + j) ≡ mark n = two.fars j g ∙ omega arith in
      let y : holds loop far (n + j) (far p) ≡ true = holds-yes loop far (n + j) (far p) c (omega arith) (omega arith) in
      let z : holds loop far (n + j) (mark p) ≡ false = holds-short loop far (n + j) (mark p) (λ x. omega arith) in
      both a (some_one (n + k) (n + j) (differ loop far (mark p) (far p)) (omega arith) (rw (y, z)))

  faulty-so : (p j : ℕ) → p < n → j < k → turn1 p ≡ true → far1 p ≡ mark n → loop2 j ≡ true → far2 j ≡ mark 0 → checked loop turn far (n + k) ≡ Sound → ⊥
  faulty-so p j h g t f o s e = never (sym (clean loop turn far (n + k) e p (omega arith)).same ∙ strays-so p j h g t f o s)

  -- ---- as the edges tell it

  both-edges : leads turn1 far1 (mark n) n ≡ true → leads loop2 far2 (mark 0) k ≡ true → checked loop turn far (n + k) ≡ Sound → ⊥
  unfolding leads
  both-edges u v e = never (sym (some-none n (λ i. turn1 i && eqb (far1 i) (mark n)) (λ p h. from p h (turn1 p && eqb (far1 p) (mark n)) refl)) ∙ u)
    where
      to : (p : ℕ) → p < n → turn1 p && eqb (far1 p) (mark n) ≡ true → (j : ℕ) → j < k → (b : Bool) → loop2 j && eqb (far2 j) (mark 0) ≡ b → b ≡ false
      to p h x j g true y =
          let c = and_parts (turn1 p) (eqb (far1 p) (mark n)) x in
          let d = and_parts (loop2 j) (eqb (far2 j) (mark 0)) y in
          absurd (faulty-so p j h g c.0 (eqb-true _ _ c.1) d.0 (eqb-true _ _ d.1) e)
      to p h x j g false y = refl

      from : (p : ℕ) → p < n → (b : Bool) → turn1 p && eqb (far1 p) (mark n) ≡ b → b ≡ false
      from p h true x = never (sym (some-none k (λ j. loop2 j && eqb (far2 j) (mark 0)) (λ j g. to p h x j g (loop2 j && eqb (far2 j) (mark 0)) refl)) ∙ v)
      from p h false x = refl

  no_edges : leads turn1 far1 (mark n) n && leads loop2 far2 (mark 0) k ≡ false → checked loop turn far (n + k) ≡ Sound
  unfolding leads
  no_edges e =
      sound-so (λ p j h g t f o s.
      never (sym e ∙ both (some_one n p (λ i. turn1 i && eqb (far1 i) (mark n)) h (both t (eq-eqb _ _ f)))
      (some_one k j (λ i. loop2 i && eqb (far2 i) (mark 0)) g (both o (eq-eqb _ _ s)))))

  pub appended-marks : is_sound (checked loop turn far (n + k)) ≡ not (leads turn1 far1 (mark n) n && leads loop2 far2 (mark 0) k)
  appended-marks = by (leads turn1 far1 (mark n) n && leads loop2 far2 (mark 0) k) refl
    where
      by : (b : Bool) → leads turn1 far1 (mark n) n && leads loop2 far2 (mark 0) k ≡ b → is_sound (checked loop turn far (n + k)) ≡ not b
      by true e = let d = and_parts (leads turn1 far1 (mark n) n) (leads loop2 far2 (mark 0) k) e in not_sound (checked loop turn far (n + k)) (both-edges d.0 d.1)
      by false e = ap is_sound (no_edges e)

-- ---- of two lists of records

-- a list stands in another from place d on
part_of : (l x : List Record) (d : ℕ) → ((i : ℕ) → i < length x → record_in l (d + i) ≡ record_in x i)
    → Part (loop_at l) (turn_at l) (far_at l) d (length x) (loop_at x) (turn_at x) (far_at x)
part_of l x d e =
    record {
      loops = λ i h. ap (λ (r : Record). is_loop (aim_of r)) (e i h);
      turns = λ i h. ap (λ (r : Record). is_turn (aim_of r)) (e i h);
      fars = λ i h. ap (λ (r : Record). d + i + offset_of (aim_of r)) (e i h) ∙ omega arith;
    }

module _ (l m : List Record) where
  in-first : (i : ℕ) → i < length l → record_in (l ++ m) i ≡ record_in l i
  in-first i h = get_or-append l m (made 0 []) i h

  in-second : (j : ℕ) → record_in (l ++ m) (length l + j) ≡ record_in m j
  in-second j = get_or-append-add l m j (made 0 [])

  marked_append : marked_of l ≡ Sound → marked_of m ≡ Sound
      → is_sound (marked_of (l ++ m)) ≡ not (leads (turn_at l) (far_at l) (mark (length l)) (length l) && leads (loop_at m) (far_at m) (mark 0) (length m))
  unfolding marked_of
  marked_append p q =
      rw (length-append l m)
      (appended-marks (loop_at (l ++ m)) (turn_at (l ++ m)) (far_at (l ++ m)) (length l) (length m) (loop_at l) (turn_at l) (far_at l) (loop_at m) (turn_at m) (far_at m)
      (part_of (l ++ m) l 0 (λ i h. rw (zero-add i) (in-first i h))) (part_of (l ++ m) m (length l) (λ j h. in-second j)) p q)

  module _ (axes : ℕ) (a : Accepted axes l) (b : Accepted axes m) where
    rights : (i : ℕ) → i < length (l ++ m) → is_right axes (record_in (l ++ m) i) ≡ true
    rights =
        rw (length-append l m)
        (split (λ (i : ℕ). is_right axes (record_in (l ++ m) i) ≡ true) (length l) (length m)
        (λ i h. ap (is_right axes) (in-first i h) ∙ a.right i h) (λ j h. ap (is_right axes) (in-second j) ∙ b.right j h))

    -- THE CHECK OF BOTH
    pub appended-passes : passes (l ++ m) ≡ not (leads_out l && starts_first m)
    unfolding passes
    appended-passes =
        ap is_sound (marked-same (l ++ m) axes rights)
        ∙ marked_append (fine axes l a) (fine axes m b)
        ∙ rw (out-same axes l a.right, first-same axes m b.right)
