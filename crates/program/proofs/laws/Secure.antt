-- What the check secures of a list of records: the facts that the laws of loops rest on. Assumes nothing.
use Prim.Native.Nat.{ℕ, ◌+◌, ◌-◌, ◌≤◌, ◌<◌}
use mathlib.Core.Bool.{Bool, true, false, not, ◌&&◌, beq}
use mathlib.Core.List.{List}
use mathlib.Core.Path.{◌≡◌, refl}
use native.Mathlib.Omega.{arith}
use borrow.Author.Tests.{ltb-true, ltb-false, leb-true}
use lib.Dec.{ltb, leb, T}
use lib.ListN.{length}
use Rattle.count.proofs.laws.Truth.{and_parts}
use Rattle.record.specs.declared.Record.{Record}
use Rattle.program.specs.Verdict.{Sound}
use Rattle.program.specs.work.Marks.{mark, holds, meets, overlaps, holders, strays}
use Rattle.program.specs.work.Aims.{Aim, goes, jumps, waits, loops, offset_of, aim_at, loop_at, turn_at, far_at, marked_of}
use Rattle.program.specs.work.Aims as aims
use Rattle.program.proofs.laws.Flow.{Flow, Ahead, Jump, Wait, Round, Halt}
use Rattle.program.proofs.laws.Flow as flow
use Rattle.program.proofs.laws.Nest.{is_true, Secure}
use Rattle.program.proofs.laws.Clean.{and-false, none_of, up-tally, holders-up, holds-yes, holds_parts, meets-no, level, Clean, clean, target-of, start-of}

-- where a record at place i goes
abbrev pub placed : ℕ → Aim → Flow
placed i goes = Ahead
placed i (jumps o) = Jump (i + o - 32768)
placed i (waits o) = Wait (i + o - 32768)
placed i (loops c o) = Round c (i + o - 32768)

abbrev pub in_field : Bool → Flow → Flow
in_field true f = f
in_field false f = Halt

-- the records by place, none behind the last
abbrev pub flow_at : List Record → ℕ → Flow
flow_at l i = in_field (ltb i (length l)) (placed i (aim_at l i))

loop-case : (i : ℕ) (b : Bool) (x : Aim) → T (flow.is_loop (in_field b (placed i x))) → (b ≡ true) × (aims.is_loop x ≡ true) × (flow.start_of (in_field b (placed i x)) ≡ i + offset_of x - 32768)
loop-case i false x t = absurd t
loop-case i true goes t = absurd t
loop-case i true (jumps o) t = absurd t
loop-case i true (waits o) t = absurd t
loop-case i true (loops c o) t = (refl, refl, refl)

pub jump-case : (i q : ℕ) (b : Bool) (x : Aim) → in_field b (placed i x) ≡ Jump q → (b ≡ true) × (aims.is_turn x ≡ true) × (q ≡ i + offset_of x - 32768)
jump-case i q false x t = (cc, cc, cc)
jump-case i q true goes t = (cc, cc, cc)
jump-case i q true (jumps o) t = (cc, cc, cc)
jump-case i q true (waits o) t = (cc, cc, cc)
jump-case i q true (loops c o) t = (cc, cc, cc)

pub wait-case : (i q : ℕ) (b : Bool) (x : Aim) → in_field b (placed i x) ≡ Wait q → (b ≡ true) × (aims.is_turn x ≡ true) × (q ≡ i + offset_of x - 32768)
wait-case i q false x t = (cc, cc, cc)
wait-case i q true goes t = (cc, cc, cc)
wait-case i q true (jumps o) t = (cc, cc, cc)
wait-case i q true (waits o) t = (cc, cc, cc)
wait-case i q true (loops c o) t = (cc, cc, cc)

-- a loop's offset is at most -1, as it is of every right record
abbrev pub Back : List Record → Type 0
Back l = (i : ℕ) → i < length l → loop_at l i ≡ true → offset_of (aim_at l i) ≤ 32767

module _ (l : List Record) (back : Back l) (fine : marked_of l ≡ Sound) where
  pub cleans : (p : ℕ) → p < length l → Clean (loop_at l) (turn_at l) (far_at l) (length l) p
  unfolding marked_of
  cleans = clean (loop_at l) (turn_at l) (far_at l) (length l) fine

  abbrev IsLoop : ℕ → Type 0
  IsLoop i = T (flow.is_loop (flow_at l i))

  abbrev start : ℕ → ℕ
  start i = flow.start_of (flow_at l i)

  pub loop-in : (i : ℕ) → IsLoop i → (i < length l) × (loop_at l i ≡ true) × (start i ≡ far_at l i - 32768)
  loop-in i t = let d = loop-case i (ltb i (length l)) (aim_at l i) t in (ltb-true _ _ d.0, d.1, d.2)

  own : (i : ℕ) → IsLoop i → start i ≤ i
  own i k = let d = loop-in i k in let b = back i d.0 d.1 in rw d.2 (omega arith)

  nest : (i j : ℕ) → IsLoop i → IsLoop j → i < j → start j ≤ i → start j ≤ start i
  unfolding overlaps
  nest i j k m h g =
      let d = loop-in i k in
      let e = loop-in j m in
      let z = none_of j (λ i. meets (loop_at l) (far_at l) i (far_at l j)) (and-false (cleans j e.0).apart e.1) i h in
      let u : far_at l j ≤ mark i = omega (arith, e.2) in
      let v = meets-no (loop_at l) (far_at l) i (far_at l j) z d.1 u in
      omega (arith, d.2, e.2)

  few : (p : ℕ) → p < length l → flow.holders (flow_at l) (length l) 0 p ≤ 7
  unfolding holders
  few p h =
      omega (
        arith,
        holders-up (flow_at l) (length l) 0 p (λ j. holds (loop_at l) (far_at l) j (mark p)) each,
        up-tally (length l) (λ j. holds (loop_at l) (far_at l) j (mark p)),
        ltb-false 7 (holders (loop_at l) (far_at l) (length l) p) (cleans p h).seven,
      )
    where
      each : (j : ℕ) → flow.holds (flow_at l) j p ≡ true → holds (loop_at l) (far_at l) j (mark p) ≡ true
      each j e =
          let d = and_parts (flow.is_loop (flow_at l j)) (leb (start j) p && leb p j) e in
          let f = and_parts (leb (start j) p) (leb p j) d.1 in
          let g = loop-in j (is_true d.0) in
          let a : start j ≤ p = leb-true _ _ f.0 in
          let b : p ≤ j = leb-true _ _ f.1 in
          holds-yes (loop_at l) (far_at l) j (mark p) g.1 (omega (arith, g.2)) (omega arith)

  -- a jump or a wait at p
  turn : (p q : ℕ) → p < length l → turn_at l p ≡ true → q ≡ far_at l p - 32768 → (i : ℕ) → IsLoop i → start i ≤ p → p ≤ i → (start i ≤ q) × (q ≤ i)
  unfolding strays
  turn p q r t s i k g h =
      let d = loop-in i k in
      let z = none_of (length l) (λ i. not (beq (holds (loop_at l) (far_at l) i (mark p)) (holds (loop_at l) (far_at l) i (far_at l p)))) (and-false (cleans p r).same t) i d.0 in
      let y = level z (holds-yes (loop_at l) (far_at l) i (mark p) d.1 (omega (arith, d.2)) (omega arith)) in
      let w = holds_parts (loop_at l) (far_at l) i (far_at l p) y in
      (omega (arith, w.0, d.2), omega (arith, w.1))

  jump : (p q : ℕ) → flow_at l p ≡ Jump q → (i : ℕ) → IsLoop i → start i ≤ p → p ≤ i → (start i ≤ q) × (q ≤ i)
  jump p q e = let d = jump-case p q (ltb p (length l)) (aim_at l p) e in turn p q (ltb-true _ _ d.0) d.1 d.2

  wait : (p q : ℕ) → flow_at l p ≡ Wait q → (i : ℕ) → IsLoop i → start i ≤ p → p ≤ i → (start i ≤ q) × (q ≤ i)
  wait p q e = let d = wait-case p q (ltb p (length l)) (aim_at l p) e in turn p q (ltb-true _ _ d.0) d.1 d.2

  -- a target lies between place 0 and the end place
  pub target-in : (p : ℕ) → p < length l → turn_at l p ≡ true → (32768 ≤ far_at l p) × (far_at l p ≤ mark (length l))
  target-in p h t = target-of (turn_at l) (far_at l) (length l) p (cleans p h).inside t

  -- a loop goes back to place 0 or behind it
  pub start-in : (p : ℕ) → p < length l → loop_at l p ≡ true → (32768 ≤ far_at l p) × (far_at l p < mark p)
  start-in p h t = let b = back p h t in (start-of (loop_at l) (far_at l) p (cleans p h).late t, omega arith)

  pub secure : Secure (flow_at l) (length l)
  secure = record { bounded = λ i k. (loop-in i k).0; own = own; nest = nest; jump = jump; wait = wait; few = few }
