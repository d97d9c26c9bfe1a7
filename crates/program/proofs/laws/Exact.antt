-- What the discipline of loops says of a run: which ranges its open counters belong to, that none is open at the end place, and that a loop
-- with number c goes back exactly c times and then on, each time that it is entered. Assumes nothing.
use Prim.Native.Nat.{ℕ, zero, suc, ◌+◌, ◌-◌, ◌≤◌, ◌<◌}
use mathlib.Core.Bool.{Bool, true, false}
use mathlib.Core.List.{List, [], ◌∷◌}
use mathlib.Core.Path.{◌≡◌, refl, sym, ◌∙◌, ap, subst}
use native.Mathlib.Omega.{arith}
use borrow.Author.Tests.{leb-true, lt-ltb, ltb-true, eqb-true, eqb-false, eq-eqb, ne_eqb}
use lib.Dec.{ltb, leb, eqb}
use lib.IntN.{ℤ, pos, negsuc}
use lib.ListN.{length, get_or}
use Rattle.count.specs.Pick.{pick}
use Rattle.count.specs.Ranges.{nth, in_back}
use Rattle.count.specs.Numbers.{within}
use Rattle.count.proofs.laws.Truth.{and_left}
use Rattle.record.specs.declared.Record.{Record}
use Rattle.program.specs.declared.Loop.{Loop}
use Rattle.program.specs.declared.Loops.{Loops}
use Rattle.program.specs.Going.{Going, To, Waits, Wrong, Way}
use Rattle.program.specs.Check.{holds}
use Rattle.program.specs.work.Marks.{mark}
use Rattle.program.specs.work.Marks as marks
use Rattle.program.specs.work.Aims.{Aim, loops, shift, aim_of, is_loop, offset_of, aim_at, loop_at, turn_at, far_at}
use Rattle.program.specs.Onward.{counter, onward_of}
use Rattle.program.specs.Rounds.{Rounds}
use Rattle.program.proofs.laws.Right.{loop-right}
use Rattle.program.proofs.laws.Marks.{mark-is, holds_same, loops-same, goes_back, leads-on}
use Rattle.program.proofs.laws.Clean.{holds-yes}
use Rattle.program.proofs.laws.Flow.{Round, Next, Fail, Here, next_of, noted}
use Rattle.program.proofs.laws.Flow as flow
use Rattle.program.proofs.laws.Nest.{IsLoop, Begun, Rising, Covers, covers}
use Rattle.program.proofs.laws.Nest as nest
use Rattle.program.proofs.laws.Turns.{due, due_n, cycle-go}
use Rattle.program.proofs.laws.Secure.{placed, in_field, flow_at, loop-in, start-in}
use Rattle.program.proofs.laws.Stack.{stack, stack_of, view_by}
use Rattle.program.specs.Program.{record_in, target_at}
use Rattle.program.specs.Program as program
use Rattle.program.proofs.laws.Run.{Accepted, Standing, Stands, Lost, taken_by, taken, step_of, begin, place_of, turns_of}
use Rattle.program.proofs.laws.Discipline.{Disciplined, Fine, back, fine, secured, step, steps, begins}

-- ---- the open counters

-- the place of the counter at j
abbrev pub place_at : Loops → ℕ → ℕ
place_at o j = (get_or o.at j (counter 0 0)).place

less : {j d : ℕ} → j < suc d → (j ≡ d → ⊥) → j < d
less h e = omega arith

back-small : (k : ℕ) → in_back (negsuc k) ≡ true → k ≤ 32767
unfolding in_back within
back-small k e = leb-true k 32767 (and_left (leb k 32767) (leb 0 k) e)

module _ (axes : ℕ) (l : List Record) (a : Accepted axes l) where
  abbrev start : ℕ → ℕ
  start i = nest.start (flow_at l) (length l) i

  begun-at : (p : ℕ) (m : List Loop) (d j : ℕ) → Begun (flow_at l) (length l) p (stack d m) → j < d
      → IsLoop (flow_at l) (length l) (get_or m j (counter 0 0)).place × (start (get_or m j (counter 0 0)).place ≤ p)
  begun-at p m zero j b h = absurd (omega arith)
  begun-at p m (suc d) j (k, g, b) h = go (eqb j d) refl (λ u. begun-at p m d j b u)
    where
      go : (q : Bool) → eqb j d ≡ q → (j < d → IsLoop (flow_at l) (length l) (get_or m j (counter 0 0)).place × (start (get_or m j (counter 0 0)).place ≤ p))
          → IsLoop (flow_at l) (length l) (get_or m j (counter 0 0)).place × (start (get_or m j (counter 0 0)).place ≤ p)
      go true e f = rw (eqb-true j d e) (k, g)
      go false e f = f (less h (eqb-false _ _ e))

  covers_at : (p : ℕ) (m : List Loop) (d j : ℕ) → Covers (flow_at l) (length l) p (stack d m) → j < d → p ≤ (get_or m j (counter 0 0)).place
  covers_at p m zero j b h = absurd (omega arith)
  covers_at p m (suc d) j (g, b) h = go (eqb j d) refl (λ u. covers_at p m d j b u)
    where
      go : (q : Bool) → eqb j d ≡ q → (j < d → p ≤ (get_or m j (counter 0 0)).place) → p ≤ (get_or m j (counter 0 0)).place
      go true e f = rw (eqb-true j d e) g
      go false e f = f (less h (eqb-false _ _ e))

  held : (p i : ℕ) → holds (program.loop_at l) (target_at l) i (pos p) ≡ marks.holds (loop_at l) (far_at l) i (mark p)
  held p i =
      ap (λ (t : ℕ → Bool). holds t (target_at l) i (pos p)) (loops-same l)
      ∙ holds_same (loop_at l) (turn_at l) (target_at l) (far_at l) (length l) (goes_back l axes a.right) (leads-on l axes a.right) i (mark p) (pos p) (mark-is p)

  -- EVERY OPEN COUNTER belongs to a loop whose range holds the place
  pub open-holds : (p : ℕ) (o : Loops) → Disciplined l p o → (j : ℕ) → j < o.depth
      → (place_at o j < length l) × (program.loop_at l (place_at o j) ≡ true) × (holds (program.loop_at l) (target_at l) (place_at o j) (pos p) ≡ true)
  open-holds p o d j h =
      let b = begun-at p o.at o.depth j d.nested.begun h in
      let c = covers_at p o.at o.depth j (covers (flow_at l) (length l) p p (stack_of o) (omega arith) d.nested.rising) h in
      let e = loop-in l (back axes l a) (fine axes l a) (place_at o j) b.0 in
      let f = holds-yes (loop_at l) (far_at l) (place_at o j) (mark p) e.1 (omega (arith, e.2, b.1)) (omega arith) in
      (e.0, ap (λ (t : ℕ → Bool). t (place_at o j)) (loops-same l) ∙ e.1, held p (place_at o j) ∙ f)

  rises : (m : List Loop) (d n j k : ℕ) → Rising (flow_at l) (length l) n (stack d m) → j < k → k < d → (get_or m k (counter 0 0)).place < (get_or m j (counter 0 0)).place
  rises m zero n j k r h g = absurd (omega arith)
  rises m (suc d) n j k (u, r) h g = go (eqb k d) refl (λ v. rises m d (suc (get_or m d (counter 0 0)).place) j k r h v)
    where
      top : j < d → (get_or m d (counter 0 0)).place < (get_or m j (counter 0 0)).place
      top v = covers_at (suc (get_or m d (counter 0 0)).place) m d j (covers (flow_at l) (length l) (suc (get_or m d (counter 0 0)).place) (suc (get_or m d (counter 0 0)).place) (stack d m) (omega arith) r) v

      go : (q : Bool) → eqb k d ≡ q → (k < d → (get_or m k (counter 0 0)).place < (get_or m j (counter 0 0)).place) → (get_or m k (counter 0 0)).place < (get_or m j (counter 0 0)).place
      go true e f = let y = eqb-true k d e in rw y (top (omega arith))
      go false e f = f (less g (eqb-false _ _ e))

  -- THE INNERMOST LAST: of two open counters the one opened later ends earlier
  pub innermost-last : (p : ℕ) (o : Loops) → Disciplined l p o → (j k : ℕ) → j < k → k < o.depth → place_at o k < place_at o j
  innermost-last p o d j k h g = rises o.at o.depth p j k d.nested.rising h g

  none-by : (o : Loops) (d : ℕ) → o.depth ≡ d → Disciplined l (length l) o → d ≡ 0
  none-by o zero e h = refl
  none-by o (suc d) e h =
      let u : d < o.depth = omega arith in
      let b = open-holds (length l) o h d u in
      let c = covers_at (length l) o.at o.depth d (covers (flow_at l) (length l) (length l) (length l) (stack_of o) (omega arith) h.nested.rising) u in
      absurd (omega (arith, b.0))

  -- NO LOOP IS OPEN AT THE END PLACE
  pub none_open : (o : Loops) → Disciplined l (length l) o → o.depth ≡ 0
  none_open o h = none-by o o.depth refl h

  -- ---- how often a loop goes back

  seen : Standing → Next
  seen (Stands p o) = Here p (stack_of o)
  seen Lost = Fail

  seen_by : (b : Bool) (k : Going) (w : Way) → seen (taken_by b k w) ≡ view_by b k w
  unfolding seen
  seen_by b To w = refl
  seen_by b Waits w = refl
  seen_by b Wrong w = refl

  next-seen : (s : Standing) → next_of (seen s) ≡ place_of s
  unfolding seen
  next-seen (Stands p o) = refl
  next-seen Lost = refl

  step-go : (b : Bool) (p : ℕ) (o : Loops) (t : Bool) → ltb p (length l) ≡ t → Disciplined l p o
      → seen (pick t (taken b (onward_of (record_in l p) p (length l) o)) (Stands p o)) ≡ flow.goes (flow_at l p) b p (stack_of o)
  unfolding seen
  step-go b p o true e d =
      let w : Way = onward_of (record_in l p) p (length l) o in
      seen_by b w.going w ∙ step axes l a b p o (ltb-true _ _ e) d.shaped
  step-go b p o false e d =
      ap (λ (t : Bool). flow.goes (in_field t (placed p (aim_at l p))) b p (stack_of o)) (sym e)

  seen_step : (b : Bool) (p : ℕ) (o : Loops) → Disciplined l p o → seen (step_of l b p o) ≡ flow.goes (flow_at l p) b p (stack_of o)
  seen_step b p o d = step-go b p o (ltb p (length l)) refl d

  cycle-run : (i c f : ℕ) → flow_at l i ≡ Round c f → (bs : List Bool) (s : Standing) → Fine l s
      → Rounds (start i) (suc i) c (due_n (flow_at l) (length l) i c (seen s)) (turns_of l i bs s)
  unfolding turns_of seen
  cycle-run i c f e [] s g = tt
  cycle-run i c f e (b ∷ bs) Lost g = absurd g
  cycle-run i c f e (b ∷ bs) (Stands p o) g =
      let q = seen_step b p o g in
      let ts : List ℕ = turns_of l i bs (step_of l b p o) in
      subst (λ (x : ℕ). Rounds (start i) (suc i) c (due (flow_at l) (length l) i c (stack_of o)) (noted (eqb p i) x ts)) (ap next_of (sym q) ∙ next-seen (step_of l b p o))
      (cycle-go (flow_at l) (length l) (secured axes l a) i c f e b p (stack_of o) (eqb p i) refl g.nested ts
      (subst (λ (t : Next). Rounds (start i) (suc i) c (due_n (flow_at l) (length l) i c t) ts) q (cycle-run i c f e bs (step_of l b p o) (steps axes l a b p o g))))

  aim-loop : (i c : ℕ) (z : ℤ) → (record_in l i).code ≡ 51 → get_or (record_in l i).words 0 0 ≡ c → 0 < c → nth (record_in l i).words 1 ≡ z
      → aim_at l i ≡ loops c (shift z)
  unfolding aim_of
  aim-loop i c z e f g h =
      let n : (c ≡ 0 → ⊥) = λ y. omega arith in
      rw (eq-eqb (record_in l i).code 51 e, f, ne_eqb c 0 n, h)

  -- EXACTLY c TIMES: the record of a loop with number c and offset -(k + 1) at place i sends a run, again and again, c times back to
  -- i - (k + 1) and once on
  pub exactly : (i c k : ℕ) → i < length l → (record_in l i).code ≡ 51 → get_or (record_in l i).words 0 0 ≡ c → 0 < c
      → nth (record_in l i).words 1 ≡ negsuc k → (bs : List Bool) → Rounds (i - suc k) (suc i) c c (turns_of l i bs begin)
  unfolding seen
  exactly i c k h e f g z bs =
      let m = aim-loop i c (negsuc k) e f g z in
      let w : flow_at l i ≡ Round c (i + (32767 - k) - 32768) = ap (λ (t : Bool). in_field t (placed i (aim_at l i))) (lt-ltb i (length l) h) ∙ ap (placed i) m in
      let d = start-in l (back axes l a) (fine axes l a) i h (ap is_loop m) in
      let v : 32768 ≤ i + (32767 - k) = subst (λ (x : Aim). 32768 ≤ i + offset_of x) m d.0 in
      let n : (get_or (record_in l i).words 0 0 ≡ 0 → ⊥) = λ y. omega arith in
      let s = back-small k (subst (λ (y : ℤ). in_back y ≡ true) z (loop-right axes (record_in l i) (a.right i h) e n).2) in
      let u : start i ≡ i - suc k = ap flow.start_of w ∙ omega (arith, v, s) in
      subst (λ (x : ℕ). Rounds x (suc i) c c (turns_of l i bs begin)) u (cycle-run i c (i + (32767 - k) - 32768) w bs begin (begins axes l a))
