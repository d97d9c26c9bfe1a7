-- The open loops as a list, the one opened last in front; and that looping over the array is looping over that list. Assumes nothing.
use Prim.Native.Nat.{ℕ, zero, suc, ◌+◌, ◌-◌, ◌≤◌, ◌<◌}
use mathlib.Core.Bool.{Bool, true, false, cond, ◌&&◌}
use mathlib.Core.List.{List, [], ◌∷◌}
use mathlib.Core.Path.{◌≡◌, refl, sym, ◌∙◌, ap}
use native.Mathlib.Omega.{arith}
use native.Mathlib.Numerals.{add-one, sub-one}
use borrow.Author.Tests.{ltb-true, ltb-false, lt-ltb, le-ltb, le-leb, lt-leb, leb-false, eqb-true, eqb-false, ne_eqb}
use lib.Dec.{ltb, leb, eqb}
use lib.ListN.{length, get_or, set, replicate, length-set}
use lib.Seq.{get_or-set_same, get_or-set_other}
use Rattle.count.specs.Pick.{pick}
use Rattle.program.specs.declared.Loop.{Loop}
use Rattle.program.specs.declared.Loops.{Loops}
use Rattle.program.specs.Going.{Going, To, Waits, Wrong, Way}
use lib.IntN.{ℤ}
use Rattle.count.specs.Ranges.{nth}
use Rattle.count.proofs.laws.Truth.{and_left}
use Rattle.record.specs.declared.Record.{Record}
use Rattle.program.specs.Onward.{counter, opened, no_loops, last_of, to, wrong, again, opens, looped, inside, target_of, aimed, onward_of}
use Rattle.program.proofs.laws.Flow.{Next, Fail, Here, depth}
use Rattle.program.proofs.laws.Flow as flow

abbrev pub stack : ℕ → List Loop → List Loop
stack zero l = []
stack (suc d) l = get_or l d (counter 0 0) ∷ stack d l

abbrev pub stack_of : Loops → List Loop
stack_of o = stack o.depth o.at

pub depth-stack : (d : ℕ) (l : List Loop) → depth (stack d l) ≡ d
depth-stack zero l = refl
depth-stack (suc d) l = ap suc (depth-stack d l)

-- a counter above leaves the counters below alone
stack_set : (d j : ℕ) (l : List Loop) (x : Loop) → d ≤ j → stack d (set l j x) ≡ stack d l
stack_set zero j l x h = refl
stack_set (suc d) j l x h =
    let apart : (d ≡ j → ⊥) = λ e. omega arith in
    rw (get_or-set_other l j d x (counter 0 0) apart, stack_set d j l x (omega arith))

-- ---- where a run stands after a record; the Bool says whether a wait's character came

abbrev pub view_by : Bool → Going → Way → Next
view_by b To w = Here w.place (stack_of w.loops)
view_by b Waits w = Here (cond b w.target w.place) (stack_of w.loops)
view_by b Wrong w = Fail

abbrev pub view : Bool → Way → Next
view b w = view_by b w.going w

-- ---- a loop record

module _ (b : Bool) (p f : ℕ) (l : List Loop) (h : length l ≡ 7) where
  -- one more counter on top
  pushed : (d : ℕ) (x : Loop) → d < 7 → stack (suc d) (set l d x) ≡ x ∷ stack d l
  pushed d x g =
      let u : d < length l = omega arith in
      rw (get_or-set_same l d x (counter 0 0) u, stack_set d d l x (omega arith))

  opens_as : (c d : ℕ) → d < 7 → opens p f (suc c) (opened l d) ≡ to f (opened (set l d (counter p c)) (suc d))
  unfolding opens
  opens_as c d g = rw (lt-leb 7 d g, add-one, sub-one)

  opens_not : (c d : ℕ) → 7 ≤ d → opens p f c (opened l d) ≡ wrong (opened l d)
  unfolding opens
  opens_not c d g = rw (le-leb 7 d g)

  opens_by : (c d : ℕ) (t : Bool) → ltb d 7 ≡ t
      → view b (opens p f (suc c) (opened l d)) ≡ elim t [ true ↦ flow.again p f (suc c) (stack d l) | false ↦ Fail ]
  opens_by c d true e = ap (view b) (opens_as c d (ltb-true d 7 e)) ∙ ap (λ (m : List Loop). Here f m) (pushed d (counter p c) (ltb-true d 7 e))
  opens_by c d false e = ap (view b) (opens_not (suc c) d (ltb-false d 7 e))

  view-opens : (c d : ℕ) → 0 < c → view b (opens p f c (opened l d)) ≡ flow.opens p f c (stack d l)
  view-opens zero d g = absurd (omega arith)
  view-opens (suc c) d g =
      opens_by c d (ltb d 7) refl
      ∙ ap (λ (k : ℕ). elim (ltb k 7) [ true ↦ flow.again p f (suc c) (stack d l) | false ↦ Fail ]) (sym (depth-stack d l))

  again-close : (d : ℕ) → (get_or l d (counter 0 0)).left ≡ 0 → again p f (opened l (suc d)) ≡ to (suc p) (opened (set l d (counter 0 0)) d)
  unfolding again
  again-close d e =
      let z : suc d - 1 ≡ d = omega arith in
      rw (z, e, add-one)

  again-count : (d k : ℕ) → (get_or l d (counter 0 0)).left ≡ suc k → again p f (opened l (suc d)) ≡ to f (opened (set l d (counter p k)) (suc d))
  unfolding again
  again-count d k e =
      let z : suc d - 1 ≡ d = omega arith in
      let y : suc k - 1 ≡ k = omega arith in
      let n : (suc k ≡ 0 → ⊥) = λ q. omega arith in
      rw (z, e, ne_eqb (suc k) 0 n, y)

  again_by : (d k : ℕ) → d < 7 → (get_or l d (counter 0 0)).left ≡ k → view b (again p f (opened l (suc d))) ≡ flow.again p f k (stack d l)
  again_by d zero g e = ap (view b) (again-close d e) ∙ ap (λ (m : List Loop). Here (suc p) m) (stack_set d d l (counter 0 0) (omega arith))
  again_by d (suc k) g e = ap (view b) (again-count d k e) ∙ ap (λ (m : List Loop). Here f m) (pushed d (counter p k) g)

  last-by : (c d : ℕ) (t : Bool) → 0 < c → d < 7 → eqb (get_or l d (counter 0 0)).place p ≡ t
      → view b (pick t (again p f (opened l (suc d))) (opens p f c (opened l (suc d))))
      ≡ elim t [ true ↦ flow.again p f (get_or l d (counter 0 0)).left (stack d l) | false ↦ flow.opens p f c (stack (suc d) l) ]
  last-by c d true g u e = again_by d (get_or l d (counter 0 0)).left u refl
  last-by c d false g u e = view-opens c (suc d) g

  looped-as : (c d : ℕ) → d < 7
      → looped p f c (opened l (suc d)) ≡ pick (eqb (get_or l d (counter 0 0)).place p) (again p f (opened l (suc d))) (opens p f c (opened l (suc d)))
  unfolding looped
  looped-as c d u =
      let z : suc d - 1 ≡ d = omega arith in
      rw (le-ltb 7 (suc d) u, lt-ltb 0 (suc d) (omega arith), z)

  looped-none : (c : ℕ) → looped p f c (opened l 0) ≡ opens p f c (opened l 0)
  unfolding looped
  looped-none c = refl

  pub view-looped : (c d : ℕ) → 0 < c → d ≤ 7 → view b (looped p f c (opened l d)) ≡ flow.looped p f c (stack d l)
  view-looped c zero g u = ap (view b) (looped-none c) ∙ view-opens c 0 g
  view-looped c (suc d) g u = ap (view b) (looped-as c d u) ∙ last-by c d (eqb (get_or l d (counter 0 0)).place p) g u refl

-- ---- seven entries, at most seven open, and the entries past the last are 0

pub record Shaped (o : Loops) : Type 0 where
  pub seven : length o.at ≡ 7
  pub shallow : o.depth ≤ 7
  pub cleared : (j : ℕ) → o.depth ≤ j → get_or o.at j (counter 0 0) ≡ counter 0 0

get_d_replicate : (k j : ℕ) → get_or (replicate k (counter 0 0)) j (counter 0 0) ≡ counter 0 0
get_d_replicate zero j = refl
get_d_replicate (suc k) zero = refl
get_d_replicate (suc k) (suc j) = get_d_replicate k j

pub shaped-none : Shaped no_loops
shaped-none = record { seven = refl; shallow = omega arith; cleared = λ j h. get_d_replicate 7 j }

module _ (o : Loops) (s : Shaped o) where
  -- an entry below the depth is set, and the depth stays
  shaped-put : (i : ℕ) (x : Loop) (d : ℕ) → i < d → o.depth ≤ d → d ≤ 7 → Shaped (opened (set o.at i x) d)
  shaped-put i x d h g k =
      record {
        seven = length-set o.at i x ∙ s.seven;
        shallow = k;
        cleared = λ j u. get_or-set_other o.at i j x (counter 0 0) (λ e. below e u) ∙ s.cleared j (omega arith);
      }
    where
      below : {j : ℕ} → j ≡ i → d ≤ j → ⊥
      below e u = omega arith

  closed-by : (j : ℕ) (t : Bool) → eqb j (o.depth - 1) ≡ t → 0 < o.depth → o.depth - 1 ≤ j
      → get_or (set o.at (o.depth - 1) (counter 0 0)) j (counter 0 0) ≡ counter 0 0
  closed-by j true e h g =
      let d : j ≡ o.depth - 1 = eqb-true _ _ e in
      let u : o.depth - 1 < length o.at = omega (arith, s.seven, s.shallow) in
      rw d (get_or-set_same o.at (o.depth - 1) (counter 0 0) (counter 0 0) u)
  closed-by j false e h g =
      let d : (j ≡ o.depth - 1 → ⊥) = eqb-false _ _ e in
      let u : o.depth ≤ j = beyond d g in
      get_or-set_other o.at (o.depth - 1) j (counter 0 0) (counter 0 0) d ∙ s.cleared j u
    where
      beyond : {j d : ℕ} → (j ≡ d - 1 → ⊥) → d - 1 ≤ j → d ≤ j
      beyond n l = omega arith

  -- the last entry is cleared, and the depth falls
  shaped-close : 0 < o.depth → Shaped (opened (set o.at (o.depth - 1) (counter 0 0)) (o.depth - 1))
  shaped-close h =
      record {
        seven = length-set o.at (o.depth - 1) (counter 0 0) ∙ s.seven;
        shallow = omega (arith, s.shallow);
        cleared = λ j u. closed-by j (eqb j (o.depth - 1)) refl h u;
      }

  either : (t : Bool) (x y : Way) → Shaped x.loops → Shaped y.loops → Shaped (pick t x y).loops
  either true x y a c = a
  either false x y a c = c

  shaped-again : (p f : ℕ) → 0 < o.depth → Shaped (again p f o).loops
  unfolding again
  shaped-again p f h =
      either (eqb (last_of o).left 0) _ _ (shaped-close h)
      (shaped-put (o.depth - 1) (counter p ((last_of o).left - 1)) o.depth (omega arith) (omega arith) s.shallow)

  opens-shaped : (p f c : ℕ) (t : Bool) → leb 7 o.depth ≡ t
      → Shaped (pick t (wrong o) (to f (opened (set o.at o.depth (counter p (c - 1))) (o.depth + 1)))).loops
  opens-shaped p f c true e = s
  opens-shaped p f c false e =
      let g : o.depth < 7 = leb-less e in
      shaped-put o.depth (counter p (c - 1)) (o.depth + 1) (omega arith) (omega arith) (omega arith)
    where
      leb-less : {d : ℕ} → leb 7 d ≡ false → d < 7
      leb-less {d} q = leb-false 7 d q

  last-shaped : (p f c : ℕ) (t : Bool) → ltb 0 o.depth && eqb (last_of o).place p ≡ t → Shaped (pick t (again p f o) (opens p f c o)).loops
  unfolding opens
  last-shaped p f c true e = shaped-again p f (ltb-true 0 o.depth (and_left (ltb 0 o.depth) (eqb (last_of o).place p) e))
  last-shaped p f c false e = opens-shaped p f c (leb 7 o.depth) refl

  pub shaped-looped : (p f c : ℕ) → Shaped (looped p f c o).loops
  unfolding looped
  shaped-looped p f c = either (ltb 7 o.depth) _ _ s (last-shaped p f c (ltb 0 o.depth && eqb (last_of o).place p) refl)

  shaped-aimed : (p n : ℕ) (z : ℤ) (r : Record) → Shaped (aimed p n z r o).loops
  unfolding aimed
  shaped-aimed p n z r =
      either (inside p z n) _ _
      (either (eqb r.code 50) _ _ s
      (either (eqb (get_or r.words 0 0) 0) _ _ s (either (ltb 32767 (get_or r.words 0 0)) _ _ s (shaped-looped p (target_of p z) (get_or r.words 0 0)))))
      s

  -- whatever the record, the entries past the last stay 0
  pub shaped-onward : (r : Record) (p n : ℕ) → Shaped (onward_of r p n o).loops
  unfolding onward_of
  shaped-onward r p n =
      either (leb n p) _ _ s
      (either (eqb r.code 51) _ _ (shaped-aimed p n (nth r.words 1) r) (either (eqb r.code 50) _ _ (shaped-aimed p n (nth r.words 1) r) s))
