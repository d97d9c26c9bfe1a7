-- What the code keeps of a record: whether it is a loop, or a jump or wait, and its offset; and that a right record's offset is the
-- definition's. Assumes nothing.
use Prim.Native.Nat.{ℕ, ◌-◌, ◌≤◌, ◌<◌}
use mathlib.Core.Path.{◌≡◌, refl, sym}
use mathlib.Core.Bool.{Bool, true, false}
use native.Mathlib.Omega.{arith}
use borrow.Author.Tests.{ltb-true, ltb-false, leb-true, eqb-true, eqb-false, lt-ltb, le-ltb}
use lib.Dec.{eqb, leb, ltb}
use lib.IntN.{pos, negsuc}
use lib.ListN.{get_or}
use Rattle.count.specs.Pick.{pick}
use Rattle.count.specs.Numbers.{within, signed}
use Rattle.count.specs.Ranges.{nth, in_offset}
use Rattle.count.proofs.laws.Laws.{signed_low, signed_high}
use Rattle.count.proofs.laws.Truth.{and_left}
use Rattle.record.specs.declared.Record.{Record}
use Rattle.record.specs.Bytes.{is_right}
use Rattle.program.specs.work.Aims.{aim_of, goes, jumps, waits, loops, shift, offset_of}
use Rattle.program.proofs.laws.Right.{wait-right, jump-right, loop-right, back_in}
use Rattle.program.specs.work.Decode.{clip, kept}

-- ---- an offset in range is its own

clip-low : (w : ℕ) → w < 2147483648 → within (negsuc 32767) (pos 32767) (signed w) ≡ true → shift (signed w) ≡ clip w
unfolding within clip
clip-low w l e =
    let d : leb w 32767 ≡ true = rw (signed_low w l) at e in
    let h = leb-true w 32767 d in
    rw (signed_low w l, lt-ltb w 32768 (omega arith))

clip-high : (w : ℕ) → 2147483648 ≤ w → within (negsuc 32767) (pos 32767) (signed w) ≡ true → shift (signed w) ≡ clip w
unfolding within clip
clip-high w l e =
    let h = leb-true (4294967295 - w) 32767 (and_left (leb (4294967295 - w) 32767) true (rw (signed_high w l) at e)) in
    rw (signed_high w l, le-ltb w 32768 (omega arith), le-ltb w 4294934528 (omega arith))

pub clip-same : (w : ℕ) → in_offset (signed w) ≡ true → shift (signed w) ≡ clip w
unfolding in_offset
clip-same w e = by (ltb w 2147483648) refl
  where
    by : (t : Bool) → ltb w 2147483648 ≡ t → shift (signed w) ≡ clip w
    by true p = clip-low w (ltb-true w 2147483648 p) e
    by false p = clip-high w (ltb-false w 2147483648 p) e

-- ---- of a right record

module _ (axes : ℕ) (r : Record) (h : is_right axes r ≡ true) where
  number_by : (b : Bool) → eqb (get_or r.words 0 0) 0 ≡ b → r.code ≡ 51
      → clip (get_or r.words 1 0) ≡ offset_of (pick b (jumps (shift (nth r.words 1))) (loops (get_or r.words 0 0) (shift (nth r.words 1))))
  number_by true e c = sym (clip-same (get_or r.words 1 0) (jump-right axes r h c (eqb-true _ _ e)))
  number_by false e c =
      sym (clip-same (get_or r.words 1 0) (back_in (nth r.words 1) (loop-right axes r h c (eqb-false _ _ e)).2).0)

  code_by : (a b : Bool) → eqb r.code 51 ≡ a → eqb r.code 50 ≡ b
      → pick a (clip (get_or r.words 1 0)) (pick b (clip (get_or r.words 1 0)) 0)
      ≡ offset_of
      (pick a
      (pick (eqb (get_or r.words 0 0) 0) (jumps (shift (nth r.words 1))) (loops (get_or r.words 0 0) (shift (nth r.words 1))))
      (pick b (waits (shift (nth r.words 1))) goes))
  code_by true b p q = number_by (eqb (get_or r.words 0 0) 0) refl (eqb-true _ _ p)
  code_by false true p q = sym (clip-same (get_or r.words 1 0) (wait-right axes r h (eqb-true _ _ q)))
  code_by false false p q = refl

  pub kept_same : kept r ≡ offset_of (aim_of r)
  unfolding kept aim_of
  kept_same = code_by (eqb r.code 51) (eqb r.code 50) refl refl
