-- The check over places is the check over marks, for every list of right records. Assumes nothing.
use Prim.Native.Nat.{ℕ, zero, suc, ◌+◌, ◌-◌, ◌≤◌, ◌<◌}
use mathlib.Core.Bool.{Bool, true, false, not, ◌&&◌, ◌||◌, beq}
use mathlib.Core.List.{List, []}
use mathlib.Core.Path.{◌≡◌, refl, sym, ◌∙◌, ap, fun_ext}
use native.Mathlib.Omega.{arith}
use borrow.Author.Tests.{ltb-true, ltb-false, leb-true, leb-false, eqb-true, eqb-false, lt-ltb, le-ltb, le-leb, lt-leb}
use lib.Dec.{ltb, leb, eqb}
use lib.IntN.{ℤ, pos, negsuc, sub_ℕ}
use lib.ListN.{length, get_or, get_or-eq_default}
use lib.Signed.{le_z}
use Rattle.count.specs.Pick.{pick}
use Rattle.count.specs.Numbers.{within}
use Rattle.count.specs.Ranges.{nth, in_offset}
use Rattle.count.proofs.laws.Laws.{same_test, sub-pos, sub-neg, sub-eq}
use Rattle.count.proofs.laws.Truth.{never, and_left}
use Rattle.record.specs.declared.Record.{Record}
use Rattle.record.specs.Bytes.{made, is_right}
use Rattle.program.specs.Check.{some, tally, fault_from, share, around, crosses}
use Rattle.program.specs.Check.{holds as holds_at, early as early_at, overlaps as overlaps_at, holders as holders_at, outside as outside_at, strays as strays_at, letter as letter_at, checked as checked_at}
use Rattle.program.specs.Program.{record_in, leads_to, target_at, check_of}
use Rattle.program.specs.Program as program
use Rattle.program.specs.work.Marks.{mark, holds, meets, early, overlaps, holders, outside, strays, letter, checked}
use Rattle.program.specs.work.Aims.{Aim, goes, jumps, waits, loops, shift, aim_of, is_loop, is_turn, offset_of, loop_at, turn_at, far_at, marked_of}
use Rattle.program.proofs.laws.Right.{wait-right, jump-right, loop-right, back_in}

-- ---- tests of order

not-leb : (a b : ℕ) → not (leb a b) ≡ ltb b a
not-leb a b = by (leb a b) refl
  where
    by : (t : Bool) → leb a b ≡ t → not t ≡ ltb b a
    by true e = sym (le-ltb b a (leb-true a b e))
    by false e = sym (lt-ltb b a (leb-false a b e))

pub not-both : (a b : Bool) → not (a && b) ≡ not a || not b
not-both true b = refl
not-both false b = refl

-- two places in the order of their marks
pub le-marks : (a b : ℕ) → le_z (sub_ℕ a 32768) (sub_ℕ b 32768) ≡ leb a b
le-marks a b = by (ltb a 32768) (ltb b 32768) refl refl
  where
    by : (s t : Bool) → ltb a 32768 ≡ s → ltb b 32768 ≡ t → le_z (sub_ℕ a 32768) (sub_ℕ b 32768) ≡ leb a b
    by true true p q =
        let l = ltb-true a 32768 p in
        let m = ltb-true b 32768 q in
        rw (sub-neg a 32768 l, sub-neg b 32768 m) (same_test (32768 - suc b) (32768 - suc a) a b (λ h. omega arith) (λ h. omega arith))
    by true false p q =
        let l = ltb-true a 32768 p in
        let m = ltb-false b 32768 q in
        rw (sub-neg a 32768 l, sub-pos b 32768 m) (sym (le-leb a b (omega arith)))
    by false true p q =
        let l = ltb-false a 32768 p in
        let m = ltb-true b 32768 q in
        rw (sub-pos a 32768 l, sub-neg b 32768 m) (sym (lt-leb a b (omega arith)))
    by false false p q =
        let l = ltb-false a 32768 p in
        let m = ltb-false b 32768 q in
        rw (sub-pos a 32768 l, sub-pos b 32768 m) (same_test (a - 32768) (b - 32768) a b (λ h. omega arith) (λ h. omega arith))

pub le-by : (a b : ℕ) (x y : ℤ) → x ≡ sub_ℕ a 32768 → y ≡ sub_ℕ b 32768 → le_z x y ≡ leb a b
le-by a b x y p q = rw (p, q) (le-marks a b)

pub mark-is : (p : ℕ) → pos p ≡ sub_ℕ (mark p) 32768
mark-is p = sym (sub-pos (mark p) 32768 (omega arith) ∙ ap pos (omega arith))

pub some_same : (k : ℕ) (f g : ℕ → Bool) → ((i : ℕ) → i < k → f i ≡ g i) → some k f ≡ some k g
some_same zero f g h = refl
some_same (suc k) f g h = rw (h k (omega arith), some_same k f g (λ i l. h i (omega arith)))

cross-by : (b c d : Bool) → (true && b) && not (c && false) && not (d && true) ≡ not d && b
cross-by true true true = refl
cross-by true true false = refl
cross-by true false true = refl
cross-by true false false = refl
cross-by false true true = refl
cross-by false true false = refl
cross-by false false true = refl
cross-by false false false = refl

-- ---- each condition: every loop and every jump or wait leads to the place of its mark, and loops go back

module _ (loop turn : ℕ → Bool) (target : ℕ → ℤ) (far : ℕ → ℕ) (n : ℕ) (backs : (i : ℕ) → loop i ≡ true → (target i ≡ sub_ℕ (far i) 32768) × (far i ≤ mark i)) (leads : (i : ℕ) → turn i ≡ true → target i ≡ sub_ℕ (far i) 32768) where
  pub holds_same : (i m : ℕ) (q : ℤ) → q ≡ sub_ℕ m 32768 → holds_at loop target i q ≡ holds loop far i m
  unfolding holds_at holds within
  holds_same i m q h = by (loop i) refl
    where
      by : (b : Bool) → loop i ≡ b → b && (le_z (target i) q && le_z q (pos i)) ≡ (b && leb (far i) m) && leb m (mark i)
      by true e = rw (le-by (far i) m (target i) q (backs i e).0 h, le-by m (mark i) q (pos i) h (mark-is i))
      by false e = refl

  early-same : (p : ℕ) → early_at loop target p ≡ early loop far p
  unfolding early_at early
  early-same p = by (loop p) refl
    where
      by : (b : Bool) → loop p ≡ b → b && not (le_z (pos 0) (target p)) ≡ b && ltb (far p) 32768
      by true e = rw (le-by 32768 (far p) (pos 0) (target p) refl (backs p e).0) (not-leb 32768 (far p))
      by false e = refl

  outside-same : (p : ℕ) → outside_at turn target n p ≡ outside turn far n p
  unfolding outside_at outside within
  outside-same p = by (turn p) refl
    where
      by : (b : Bool) → turn p ≡ b → b && not (le_z (pos 0) (target p) && le_z (target p) (pos n)) ≡ b && (ltb (far p) 32768 || ltb (mark n) (far p))
      by true e =
          rw (le-by 32768 (far p) (pos 0) (target p) refl (leads p e), le-by (far p) (mark n) (target p) (pos n) (leads p e) (mark-is n))
          (not-both (leb 32768 (far p)) (leb (far p) (mark n)) ∙ rw (not-leb 32768 (far p), not-leb (far p) (mark n)))
      by false e = refl

  crosses-same : (i p : ℕ) → i < p → loop i ≡ true → loop p ≡ true → crosses loop target i p ≡ ltb (far i) (far p) && leb (far p) (mark i)
  unfolding crosses share around
  crosses-same i p h d e =
      let f = backs i d in
      let g = backs p e in
      rw (
        le-by (far i) (mark p) (target i) (pos p) f.0 (mark-is p),
        le-by (far p) (mark i) (target p) (pos i) g.0 (mark-is i),
        le-by (far i) (far p) (target i) (target p) f.0 g.0,
        le-by (far p) (far i) (target p) (target i) g.0 f.0,
        le-leb (far i) (mark p) (omega (arith, f.1)),
        lt-leb p i h,
        le-leb i p (omega arith),
      )
      (cross-by (leb (far p) (mark i)) (leb (far i) (far p)) (leb (far p) (far i)) ∙ rw (not-leb (far p) (far i)))

  overlaps-same : (p : ℕ) → overlaps_at loop target p ≡ overlaps loop far p
  unfolding overlaps_at overlaps meets
  overlaps-same p = by (loop p) refl
    where
      one : (i : ℕ) → i < p → loop p ≡ true → (b : Bool) → loop i ≡ b → b && crosses loop target i p ≡ (b && ltb (far i) (far p)) && leb (far p) (mark i)
      one i h e true d = crosses-same i p h d e
      one i h e false d = refl

      by : (b : Bool) → loop p ≡ b → b && some p (λ i. loop i && crosses loop target i p) ≡ b && some p (λ i. meets loop far i (far p))
      by true e = some_same p (λ i. loop i && crosses loop target i p) (λ i. meets loop far i (far p)) (λ i h. one i h e (loop i) refl)
      by false e = refl

  holders-same : (p : ℕ) → holders_at loop target n p ≡ holders loop far n p
  unfolding holders_at holders
  holders-same p = ap (tally n) (fun_ext (λ i. holds_same i (mark p) (pos p) (mark-is p)))

  strays-same : (p : ℕ) → strays_at loop turn target n p ≡ strays loop turn far n p
  unfolding strays_at strays
  strays-same p = by (turn p) refl
    where
      by : (b : Bool) → turn p ≡ b
          → b && some n (λ i. not (beq (holds_at loop target i (pos p)) (holds_at loop target i (target p))))
          ≡ b && some n (λ i. not (beq (holds loop far i (mark p)) (holds loop far i (far p))))
      by true e =
          some_same n (λ i. not (beq (holds_at loop target i (pos p)) (holds_at loop target i (target p))))
          (λ i. not (beq (holds loop far i (mark p)) (holds loop far i (far p))))
          (λ i h. rw (holds_same i (mark p) (pos p) (mark-is p), holds_same i (far p) (target p) (leads p e)))
      by false e = refl

  letters-same : (p : ℕ) → letter_at loop turn target n p ≡ letter loop turn far n p
  unfolding letter_at letter
  letters-same p = rw (outside-same p, early-same p, overlaps-same p, holders-same p, strays-same p)

  pub checked-same : checked_at loop turn target n ≡ checked loop turn far n
  unfolding checked_at checked
  checked-same = ap (λ (f : ℕ → ℕ). fault_from f n 0) (fun_ext letters-same)

-- ---- where a right record leads

-- a record by its tests
abbrev pub aim_by : Bool → Bool → Bool → ℕ → ℕ → Aim
aim_by x y z c s = pick x (pick z (jumps s) (loops c s)) (pick y (waits s) goes)

pub reaches : (p : ℕ) (z : ℤ) → in_offset z ≡ true → leads_to p z ≡ sub_ℕ (p + shift z) 32768
unfolding in_offset within
reaches p (pos k) e = sym (sub-pos (p + (k + 32768)) 32768 (omega arith) ∙ ap pos (omega arith))
reaches p (negsuc k) e =
    let u : k ≤ 32767 = leb-true k 32767 (and_left (leb k 32767) true e) in
    sub-eq p (suc k) (p + (32767 - k)) 32768 (omega arith)

module _ (axes : ℕ) (r : Record) (h : is_right axes r ≡ true) where
  abbrev number : ℕ
  number = get_or r.words 0 0

  abbrev off : ℤ
  off = nth r.words 1

  loop-by : (x y z : Bool) → eqb r.code 51 ≡ x → eqb number 0 ≡ z → is_loop (aim_by x y z number (shift off)) ≡ true
      → (in_offset off ≡ true) × (offset_of (aim_by x y z number (shift off)) ≡ shift off) × (shift off ≤ 32767)
  loop-by true y true p q e = never e
  loop-by true y false p q e = let d = back_in off (loop-right axes r h (eqb-true _ _ p) (eqb-false _ _ q)).2 in (d.0, refl, d.1)
  loop-by false true z p q e = never e
  loop-by false false z p q e = never e

  turn_by : (x y z : Bool) → eqb r.code 51 ≡ x → eqb r.code 50 ≡ y → eqb number 0 ≡ z → is_turn (aim_by x y z number (shift off)) ≡ true
      → (in_offset off ≡ true) × (offset_of (aim_by x y z number (shift off)) ≡ shift off)
  turn_by true y true p q s e = (jump-right axes r h (eqb-true _ _ p) (eqb-true _ _ s), refl)
  turn_by true y false p q s e = never e
  turn_by false true z p q s e = (wait-right axes r h (eqb-true _ _ q), refl)
  turn_by false false z p q s e = never e

  pub loop-offset : is_loop (aim_of r) ≡ true → (in_offset off ≡ true) × (offset_of (aim_of r) ≡ shift off) × (shift off ≤ 32767)
  unfolding aim_of
  loop-offset e = loop-by (eqb r.code 51) (eqb r.code 50) (eqb number 0) refl refl e

  pub turn-offset : is_turn (aim_of r) ≡ true → (in_offset off ≡ true) × (offset_of (aim_of r) ≡ shift off)
  unfolding aim_of
  turn-offset e = turn_by (eqb r.code 51) (eqb r.code 50) (eqb number 0) refl refl refl e

-- ---- of a list

loop-is : (x y z : Bool) (c s : ℕ) → x && not z ≡ is_loop (aim_by x y z c s)
loop-is true y true c s = refl
loop-is true y false c s = refl
loop-is false true z c s = refl
loop-is false false z c s = refl

turn_is : (k : ℕ) (x y z : Bool) (c s : ℕ) → eqb k 51 ≡ x → eqb k 50 ≡ y → (x && z) || y ≡ is_turn (aim_by x y z c s)
turn_is k true true z c s p q = let a = eqb-true k 51 p in let b = eqb-true k 50 q in absurd (omega arith)
turn_is k true false true c s p q = refl
turn_is k true false false c s p q = refl
turn_is k false true z c s p q = refl
turn_is k false false z c s p q = refl

module _ (l : List Record) where
  pub loops-same : program.loop_at l ≡ loop_at l
  unfolding aim_of
  loops-same = fun_ext (λ i. loop-is (eqb (record_in l i).code 51) (eqb (record_in l i).code 50) (eqb (get_or (record_in l i).words 0 0) 0) (get_or (record_in l i).words 0 0) (shift (nth (record_in l i).words 1)))

  pub turns_same : program.turn_at l ≡ turn_at l
  unfolding aim_of
  turns_same = fun_ext (λ i. turn_is (record_in l i).code (eqb (record_in l i).code 51) (eqb (record_in l i).code 50) (eqb (get_or (record_in l i).words 0 0) 0) (get_or (record_in l i).words 0 0) (shift (nth (record_in l i).words 1)) refl refl)

  -- behind the last record there is neither a loop nor a jump or wait
  past : (i : ℕ) → length l ≤ i → (loop_at l i ≡ false) × (turn_at l i ≡ false)
  unfolding aim_of
  past i h = let e = get_or-eq_default l (made 0 []) h in (ap (λ (r : Record). is_loop (aim_of r)) e, ap (λ (r : Record). is_turn (aim_of r)) e)

  module _ (axes : ℕ) (right : (i : ℕ) → i < length l → is_right axes (record_in l i) ≡ true) where
    pub goes_back : (i : ℕ) → loop_at l i ≡ true → (target_at l i ≡ sub_ℕ (far_at l i) 32768) × (far_at l i ≤ mark i)
    goes_back i e = by (ltb i (length l)) refl
      where
        by : (b : Bool) → ltb i (length l) ≡ b → (target_at l i ≡ sub_ℕ (far_at l i) 32768) × (far_at l i ≤ mark i)
        by true p =
            let d = loop-offset axes (record_in l i) (right i (ltb-true _ _ p)) e in
            (reaches i (nth (record_in l i).words 1) d.0 ∙ ap (λ (o : ℕ). sub_ℕ (i + o) 32768) (sym d.1), omega (arith, d.1, d.2))
        by false p = never (sym (past i (ltb-false _ _ p)).0 ∙ e)

    pub leads-on : (i : ℕ) → turn_at l i ≡ true → target_at l i ≡ sub_ℕ (far_at l i) 32768
    leads-on i e = by (ltb i (length l)) refl
      where
        by : (b : Bool) → ltb i (length l) ≡ b → target_at l i ≡ sub_ℕ (far_at l i) 32768
        by true p =
            let d = turn-offset axes (record_in l i) (right i (ltb-true _ _ p)) e in
            reaches i (nth (record_in l i).words 1) d.0 ∙ ap (λ (o : ℕ). sub_ℕ (i + o) 32768) (sym d.1)
        by false p = never (sym (past i (ltb-false _ _ p)).1 ∙ e)

    -- THE TWO CHECKS are one
    pub marked-same : check_of l ≡ marked_of l
    unfolding check_of marked_of
    marked-same =
        ap (λ (f : ℕ → Bool). checked_at f (program.turn_at l) (target_at l) (length l)) loops-same
        ∙ ap (λ (f : ℕ → Bool). checked_at (loop_at l) f (target_at l) (length l)) turns_same
        ∙ checked-same (loop_at l) (turn_at l) (target_at l) (far_at l) (length l) goes_back leads-on
