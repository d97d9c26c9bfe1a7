-- The discipline of loops: in every run of an accepted list of records, whatever its waits hear, every open counter belongs to a range that
-- holds the place, the innermost last; no eighth loop opens, no target lies outside, and no loop is open at the end place.
-- Assumes nothing.
use Prim.Native.Nat.{ℕ, zero, suc, ◌+◌, ◌-◌, ◌≤◌, ◌<◌}
use mathlib.Core.Bool.{Bool, true, false, cond}
use mathlib.Core.List.{List, [], ◌∷◌}
use mathlib.Core.Path.{◌≡◌, refl, sym, ◌∙◌, ap, subst}
use native.Mathlib.Omega.{arith}
use borrow.Author.Tests.{lt-ltb, ltb-true, eqb-true, eqb-false}
use lib.Dec.{ltb, eqb}
use lib.ListN.{length, get_or}
use Rattle.count.specs.Pick.{pick}
use Rattle.count.specs.Ranges.{nth}
use Rattle.count.proofs.laws.Truth.{never}
use Rattle.record.specs.declared.Record.{Record}
use Rattle.program.specs.Verdict.{Verdict, Sound, Fault, Unreadable}
use Rattle.program.specs.declared.Loop.{Loop}
use Rattle.program.specs.declared.Loops.{Loops}
use Rattle.program.specs.Going.{Going, To, Waits, Wrong, Way}
use Rattle.program.specs.work.Marks.{mark}
use Rattle.program.specs.work.Aims.{Aim, goes, jumps, waits, loops, shift, aim_of, is_loop, is_turn, offset_of, aim_at, loop_at, turn_at, marked_of}
use Rattle.program.specs.Program.{record_in, check_of, is_sound, passes}
use Rattle.program.specs.Onward.{no_loops, onward_of}
use Rattle.program.proofs.laws.Right.{loop-right}
use Rattle.program.proofs.laws.Marks.{aim_by, loop-offset, turn-offset, marked-same}
use Rattle.program.proofs.laws.Flow.{Next, Fail, Here}
use Rattle.program.proofs.laws.Flow as flow
use Rattle.program.proofs.laws.Nest.{Secure, Inv, Good, good-goes}
use Rattle.program.proofs.laws.Secure.{Back, placed, in_field, flow_at, secure, target-in, start-in}
use Rattle.program.proofs.laws.Stack.{stack_of, view_by, view, view-looped, Shaped, shaped-none, shaped-onward}
use Rattle.program.proofs.laws.Sends.{on-other, on-wait, on-jump, on-loop}
use Rattle.program.proofs.laws.Run.{Accepted, Standing, Stands, Lost, taken_by, taken, step_of, run_of, begin}

-- ---- the invariant

pub record Disciplined (l : List Record) (p : ℕ) (o : Loops) : Type 0 where
  pub shaped : Shaped o
  pub place_in : p ≤ length l
  pub nested : Inv (flow_at l) (length l) p (stack_of o)

-- after a record: at the next place, or on either side of a wait; never G
abbrev pub FaresBy : List Record → Going → Way → Type 0
FaresBy l To w = Disciplined l w.place w.loops
FaresBy l Waits w = Disciplined l w.place w.loops × Disciplined l w.target w.loops
FaresBy l Wrong w = ⊥

abbrev pub Fares : List Record → Way → Type 0
Fares l w = FaresBy l w.going w

abbrev pub Fine : List Record → Standing → Type 0
Fine l (Stands p o) = Disciplined l p o
Fine l Lost = ⊥

sound-of : (v : Verdict) → is_sound v ≡ true → v ≡ Sound
sound-of Sound e = refl
sound-of (Fault a p) e = never e
sound-of Unreadable e = never e

module _ (axes : ℕ) (l : List Record) (a : Accepted axes l) where
  pub fine : marked_of l ≡ Sound
  unfolding passes
  fine = sym (marked-same l axes a.right) ∙ sound-of (check_of l) a.passing

  pub back : Back l
  back i h e = let d = loop-offset axes (record_in l i) (a.right i h) e in omega (arith, d.1, d.2)

  pub secured : Secure (flow_at l) (length l)
  secured = secure l back fine

  -- ---- one record, with the open loops as a list

  module _ (b : Bool) (p : ℕ) (o : Loops) (g : p < length l) (s : Shaped o) where
    abbrev r : Record
    r = record_in l p

    abbrev off : ℕ
    off = shift (nth r.words 1)

    step_by : (x y z : Bool) → eqb r.code 51 ≡ x → eqb r.code 50 ≡ y → eqb (get_or r.words 0 0) 0 ≡ z
        → (is_turn (aim_by x y z (get_or r.words 0 0) off) ≡ true → (32768 ≤ p + off) × (p + off ≤ mark (length l)))
        → (is_loop (aim_by x y z (get_or r.words 0 0) off) ≡ true → (32768 ≤ p + off) × (p + off < mark p))
        → view b (onward_of r p (length l) o) ≡ flow.goes (placed p (aim_by x y z (get_or r.words 0 0) off)) b p (stack_of o)
    step_by true y true h i j t k =
        let d = t refl in
        ap (view b) (on-jump axes r (a.right p g) p (length l) o g d.0 d.1 h j)
    step_by true y false h i j t k =
        let d = k refl in
        ap (view b) (on-loop axes r (a.right p g) p (length l) o g d.0 (omega (arith, d.1)) h j)
        ∙ view-looped b p (p + off - 32768) o.at s.seven (get_or r.words 0 0) o.depth
        (loop-right axes r (a.right p g) (eqb-true _ _ h) (eqb-false _ _ j)).0 s.shallow
    step_by false true z h i j t k =
        let d = t refl in
        ap (view b) (on-wait axes r (a.right p g) p (length l) o g d.0 d.1 h i)
    step_by false false z h i j t k = ap (view b) (on-other r p (length l) o g h i)

    abbrev x : Bool
    x = eqb r.code 51

    abbrev y : Bool
    y = eqb r.code 50

    abbrev z : Bool
    z = eqb (get_or r.words 0 0) 0

    turn_facts : turn_at l p ≡ true → (32768 ≤ p + off) × (p + off ≤ mark (length l))
    turn_facts e = let d = target-in l back fine p g e in let f = (turn-offset axes r (a.right p g) e).1 in (omega (arith, d.0), omega (arith, d.1))

    loop-facts : loop_at l p ≡ true → (32768 ≤ p + off) × (p + off < mark p)
    loop-facts e = let d = start-in l back fine p g e in let f = (loop-offset axes r (a.right p g) e).1 in (omega (arith, d.0), omega (arith, d.1))

    pub step : view b (onward_of r p (length l) o) ≡ flow.goes (flow_at l p) b p (stack_of o)
    unfolding aim_of
    step =
        step_by x y z refl refl refl turn_facts loop-facts
        ∙ ap (λ (t : Bool). flow.goes (in_field t (placed p (aim_at l p))) b p (stack_of o)) (sym (lt-ltb p (length l) g))

  -- ---- between place 0 and the end place

  abbrev Within : Next → Type 0
  Within Fail = Unit
  Within (Here p s) = p ≤ length l

  within-again : (p f c : ℕ) (s : List Loop) → p < length l → f ≤ length l → Within (flow.again p f c s)
  within-again p f zero s h g = h
  within-again p f (suc c) s h g = g

  within-if : (q : Bool) (x y : Next) → Within x → Within y → Within (elim q [ true ↦ x | false ↦ y ])
  within-if true x y a b = a
  within-if false x y a b = b

  within-opens : (p f c : ℕ) (s : List Loop) → p < length l → f ≤ length l → Within (flow.opens p f c s)
  within-opens p f c s h g = within-if (ltb (flow.depth s) 7) (flow.again p f c s) Fail (within-again p f c s h g) tt

  within-looped : (p f c : ℕ) (s : List Loop) → p < length l → f ≤ length l → Within (flow.looped p f c s)
  within-looped p f c [] h g = within-opens p f c [] h g
  within-looped p f c (o ∷ s) h g =
      within-if (eqb o.place p) (flow.again p f o.left s) (flow.opens p f c (o ∷ s)) (within-again p f o.left s h g) (within-opens p f c (o ∷ s) h g)

  within-wait : (b : Bool) (p q : ℕ) → p < length l → q ≤ length l → cond b q (suc p) ≤ length l
  within-wait true p q h g = g
  within-wait false p q h g = h

  turn-to : (p x : ℕ) (A : Aim) → p < length l → aim_at l p ≡ A → is_turn A ≡ true → offset_of A ≡ x → p + x - 32768 ≤ length l
  turn-to p x A h e t o = let d = target-in l back fine p h (ap is_turn e ∙ t) in let f = ap offset_of e ∙ o in omega (arith, d.1)

  within_by : (b : Bool) (p : ℕ) (s : List Loop) (A : Aim) → p < length l → aim_at l p ≡ A → Within (flow.goes (placed p A) b p s)
  within_by b p s goes h e = h
  within_by b p s (jumps x) h e = turn-to p x (jumps x) h e refl refl
  within_by b p s (waits x) h e = within-wait b p (p + x - 32768) h (turn-to p x (waits x) h e refl refl)
  within_by b p s (loops c x) h e =
      let d = start-in l back fine p h (ap is_loop e) in
      let f = ap offset_of e in
      within-looped p (p + x - 32768) c s h (omega (arith, d.1))

  within-goes : (b : Bool) (p : ℕ) (s : List Loop) → p < length l → Within (flow.goes (flow_at l p) b p s)
  within-goes b p s h =
      subst (λ (t : Bool). Within (flow.goes (in_field t (placed p (aim_at l p))) b p s)) (sym (lt-ltb p (length l) h)) (within_by b p s (aim_at l p) h refl)

  -- ---- the laws

  -- a start is disciplined
  pub begins : Disciplined l 0 no_loops
  begins = record { shaped = shaped-none; place_in = omega arith; nested = record { begun = tt; rising = tt } }

  fares-by : (k : Going) (w : Way) → Shaped w.loops → ((b : Bool) → Good (flow_at l) (length l) (view_by b k w)) → ((b : Bool) → Within (view_by b k w)) → FaresBy l k w
  fares-by To w s v u = record { shaped = s; place_in = u true; nested = v true }
  fares-by Waits w s v u =
      (record { shaped = s; place_in = u false; nested = v false }, record { shaped = s; place_in = u true; nested = v true })
  fares-by Wrong w s v u = v true

  -- a record keeps the discipline, on either side of a wait, and never ends with G: no eighth loop, and no target outside
  pub fares : (p : ℕ) (o : Loops) → p < length l → Disciplined l p o → Fares l (onward_of (record_in l p) p (length l) o)
  fares p o g d =
      let w : Way = onward_of (record_in l p) p (length l) o in
      fares-by w.going w (shaped-onward o d.shaped (record_in l p) p (length l))
      (λ b. subst (λ (t : Next). Good (flow_at l) (length l) t) (sym (step b p o g d.shaped)) (good-goes (flow_at l) (length l) secured (flow_at l p) b p (stack_of o) refl d.nested))
      (λ b. subst Within (sym (step b p o g d.shaped)) (within-goes b p (stack_of o) g))

  wrong-by : (k : Going) (w : Way) → k ≡ Wrong → FaresBy l k w → ⊥
  wrong-by k w e f = subst (λ (x : Going). FaresBy l x w) e f

  pub never-wrong : (p : ℕ) (o : Loops) → p < length l → Disciplined l p o → (onward_of (record_in l p) p (length l) o).going ≡ Wrong → ⊥
  never-wrong p o g d e =
      let w : Way = onward_of (record_in l p) p (length l) o in
      wrong-by w.going w e (fares p o g d)

  fine-by : (b : Bool) (k : Going) (w : Way) → FaresBy l k w → Fine l (taken_by b k w)
  fine-by b To w f = f
  fine-by true Waits w f = f.1
  fine-by false Waits w f = f.0
  fine-by b Wrong w f = f

  step-if : (b : Bool) (p : ℕ) (o : Loops) (t : Bool) → ltb p (length l) ≡ t → Disciplined l p o
      → Fine l (pick t (taken b (onward_of (record_in l p) p (length l) o)) (Stands p o))
  step-if b p o true e d =
      let w : Way = onward_of (record_in l p) p (length l) o in
      fine-by b w.going w (fares p o (ltb-true _ _ e) d)
  step-if b p o false e d = d

  pub steps : (b : Bool) (p : ℕ) (o : Loops) → Disciplined l p o → Fine l (step_of l b p o)
  steps b p o d = step-if b p o (ltb p (length l)) refl d

  pub runs-from : (bs : List Bool) (s : Standing) → Fine l s → Fine l (run_of l bs s)
  unfolding run_of
  runs-from [] s f = f
  runs-from (b ∷ bs) (Stands p o) f = runs-from bs (step_of l b p o) (steps b p o f)
  runs-from (b ∷ bs) Lost f = absurd f

  -- EVERY RUN, whatever its waits hear, stays disciplined
  pub runs : (bs : List Bool) → Fine l (run_of l bs begin)
  runs bs = runs-from bs begin begins
