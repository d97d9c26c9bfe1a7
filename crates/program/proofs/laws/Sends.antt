-- Where a right record sends a run, by what it is: own place plus offset, counted from its own record. Assumes nothing.
use Prim.Native.Nat.{ℕ, suc, ◌+◌, ◌-◌, ◌≤◌, ◌<◌}
use mathlib.Core.Bool.{true, false}
use mathlib.Core.Path.{◌≡◌, ◌∙◌, ap}
use native.Mathlib.Omega.{arith}
use native.Mathlib.Numerals.{add-one}
use borrow.Author.Tests.{le-leb, lt-leb, leb-true, eqb-true, eqb-false, eq-eqb, le-ltb}
use lib.Dec.{leb, eqb}
use lib.IntN.{ℤ, pos, negsuc, nat_abs, ◌+ℤ◌}
use lib.ListN.{get_or}
use Rattle.count.specs.Numbers.{within}
use Rattle.count.specs.Ranges.{nth, in_offset}
use Rattle.count.proofs.laws.Laws.{sub-pos}
use Rattle.count.proofs.laws.Truth.{and_left}
use Rattle.record.specs.declared.Record.{Record}
use Rattle.record.specs.Bytes.{is_right}
use Rattle.program.specs.declared.Loops.{Loops}
use Rattle.program.specs.Going.{Waits}
use Rattle.program.specs.work.Marks.{mark}
use Rattle.program.specs.work.Aims.{shift}
use Rattle.program.specs.Onward.{inside, target_of, aimed, looped, onward_of, went, to}
use Rattle.program.proofs.laws.Right.{wait-right, jump-right, loop-right, back_in}
use Rattle.program.proofs.laws.Target.{sends}

-- ---- own place plus offset

pub inside-shift : (p n : ℕ) (z : ℤ) → in_offset z ≡ true → 32768 ≤ p + shift z → p + shift z ≤ mark n
    → (inside p z n ≡ true) × (target_of p z ≡ p + shift z - 32768)
unfolding inside within in_offset
inside-shift p n (pos k) e g h = (rw (le-leb 0 (p + k) (omega arith), le-leb (p + k) n (omega arith)), omega arith)
inside-shift p n (negsuc k) e g h =
    let u : k ≤ 32767 = leb-true k 32767 (and_left (leb k 32767) true e) in
    let v : suc k ≤ p = omega arith in
    (rw (sub-pos p (suc k) v, le-leb 0 (p - suc k) (omega arith), le-leb (p - suc k) n (omega arith)), rw (sub-pos p (suc k) v) (omega arith))

-- ---- by the record's code and number

module _ (r : Record) (p n : ℕ) (o : Loops) (l : p < n) where
  pub on-other : eqb r.code 51 ≡ false → eqb r.code 50 ≡ false → onward_of r p n o ≡ to (suc p) o
  unfolding onward_of
  on-other a b = rw (lt-leb n p l, a, b, add-one)

  pub on-three : eqb r.code 51 ≡ true → onward_of r p n o ≡ aimed p n (nth r.words 1) r o
  unfolding onward_of
  on-three a = rw (lt-leb n p l, a)

  pub on-two : eqb r.code 51 ≡ false → eqb r.code 50 ≡ true → onward_of r p n o ≡ aimed p n (nth r.words 1) r o
  unfolding onward_of
  on-two a b = rw (lt-leb n p l, a, b)

aimed-inside : (p n : ℕ) (z : ℤ) (r : Record) (o : Loops) → inside p z n ≡ true → aimed p n z r o ≡ sends p (target_of p z) r o
unfolding aimed
aimed-inside p n z r o e = rw e

module _ (axes : ℕ) (r : Record) (h : is_right axes r ≡ true) (p n : ℕ) (o : Loops) (l : p < n) (g : 32768 ≤ p + shift (nth r.words 1)) (k : p + shift (nth r.words 1) ≤ mark n) where
  aimed-to : in_offset (nth r.words 1) ≡ true → aimed p n (nth r.words 1) r o ≡ sends p (p + shift (nth r.words 1) - 32768) r o
  aimed-to e =
      let d = inside-shift p n (nth r.words 1) e g k in
      aimed-inside p n (nth r.words 1) r o d.0 ∙ ap (λ (t : ℕ). sends p t r o) d.1

  three-two : r.code ≡ 51 → eqb r.code 50 ≡ false
  three-two e = rw e

  -- a wait keeps its target
  pub on-wait : eqb r.code 51 ≡ false → eqb r.code 50 ≡ true → onward_of r p n o ≡ went Waits (suc p) (p + shift (nth r.words 1) - 32768) o
  on-wait a b = on-two r p n o l a b ∙ aimed-to (wait-right axes r h (eqb-true _ _ b)) ∙ rw (b, add-one)

  -- a jump goes there
  pub on-jump : eqb r.code 51 ≡ true → eqb (get_or r.words 0 0) 0 ≡ true → onward_of r p n o ≡ to (p + shift (nth r.words 1) - 32768) o
  on-jump a z =
      on-three r p n o l a ∙ aimed-to (jump-right axes r h (eqb-true _ _ a) (eqb-true _ _ z)) ∙ rw (three-two (eqb-true _ _ a), z)

  -- a loop uses its counter
  pub on-loop : eqb r.code 51 ≡ true → eqb (get_or r.words 0 0) 0 ≡ false
      → onward_of r p n o ≡ looped p (p + shift (nth r.words 1) - 32768) (get_or r.words 0 0) o
  on-loop a z =
      let d = loop-right axes r h (eqb-true _ _ a) (eqb-false _ _ z) in
      on-three r p n o l a ∙ aimed-to (back_in (nth r.words 1) d.2).0 ∙ rw (three-two (eqb-true _ _ a), z, le-ltb 32767 (get_or r.words 0 0) d.1)

-- ---- counted from its own record

inside-at : (p n q : ℕ) (z : ℤ) → pos p +ℤ z ≡ pos q → q ≤ n → (inside p z n ≡ true) × (target_of p z ≡ q)
unfolding inside within
inside-at p n q z e h = (rw (e, le-leb 0 q (omega arith), le-leb q n h), ap nat_abs e)

module _ (r : Record) (p n q : ℕ) (o : Loops) (l : p < n) (e : pos p +ℤ nth r.words 1 ≡ pos q) (h : q ≤ n) where
  aimed-at : aimed p n (nth r.words 1) r o ≡ sends p q r o
  aimed-at =
      let d = inside-at p n q (nth r.words 1) e h in
      aimed-inside p n (nth r.words 1) r o d.0 ∙ ap (λ (t : ℕ). sends p t r o) d.1

  -- A JUMP with offset z at place p goes to p + z
  pub jump-own : r.code ≡ 51 → get_or r.words 0 0 ≡ 0 → onward_of r p n o ≡ to q o
  jump-own c z = on-three r p n o l (eq-eqb _ _ c) ∙ aimed-at ∙ rw (c, z)

  -- and a wait with offset z at place p has the target p + z
  pub wait-own : r.code ≡ 50 → onward_of r p n o ≡ went Waits (suc p) q o
  wait-own c = on-two r p n o l (rw c) (eq-eqb _ _ c) ∙ aimed-at ∙ rw (c, add-one)
