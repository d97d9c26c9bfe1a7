-- What a right record's numbers say of a jump, a loop or a wait (01, "Lines", the paragraph under the table of replies): loop numbers are
-- 1 to 32,767 with an offset of at most -1, number 0 is a jump, and offsets are -32,768 to 32,767. Assumes nothing.
use Prim.Native.Nat.{ℕ, ◌≤◌, ◌<◌}
use mathlib.Core.Path.{◌≡◌, refl, sym, ◌∙◌}
use mathlib.Core.Bool.{Bool, true, false, ◌&&◌, ◌||◌}
use mathlib.Core.List.{List}
use native.Mathlib.Omega.{arith}
use borrow.Author.Tests.{leb-true, lt-leb}
use lib.Dec.{leb}
use lib.IntN.{ℤ, pos, negsuc}
use lib.ListN.{get_or}
use lib.Signed.{le_z}
use Rattle.count.specs.Numbers.{within}
use Rattle.count.specs.Ranges.{nth, in_offset, in_back, in_loop, in_zero, in_character}
use Rattle.count.proofs.laws.Laws.{within-up, within-zero}
use Rattle.count.proofs.laws.Truth.{never, and_parts}
use Rattle.record.specs.declared.Record.{Record}
use Rattle.record.specs.Fault.{ranges_right, loop_right}
use Rattle.record.specs.Bytes.{is_right}
use Rattle.record.proofs.laws.Faultless.{right-faultless}
use Rattle.program.specs.work.Aims.{shift}

pub ranges-right : (axes : ℕ) (r : Record) → is_right axes r ≡ true → ranges_right axes r.code r.words ≡ true
ranges-right axes r h = (right-faultless axes r h).ranges-so

-- ---- each code

loop-ranges : (axes code : ℕ) (l : List ℕ) → ranges_right axes code l ≡ true → code ≡ 51 → loop_right (nth l 0) (nth l 1) ≡ true
unfolding ranges_right
loop-ranges axes code l h e = rw e at h

wait-ranges : (axes code : ℕ) (l : List ℕ) → ranges_right axes code l ≡ true → code ≡ 50 → in_character (nth l 0) && in_offset (nth l 1) ≡ true
unfolding ranges_right
wait-ranges axes code l h e = rw e at h

zero-part : (a b c d : Bool) → (a && b) || (c && d) ≡ true → a ≡ false → d ≡ true
zero-part true b c d h e = never (sym e)
zero-part false b c d h e = (and_parts c d h).1

loop-part : (a b c d : Bool) → (a && b) || (c && d) ≡ true → c ≡ false → (a ≡ true) × (b ≡ true)
loop-part true true c d h e = (refl, refl)
loop-part true false true d h e = never (sym e)
loop-part true false false d h e = never h
loop-part false b true d h e = never (sym e)
loop-part false b false d h e = never h

module _ (axes : ℕ) (r : Record) (h : is_right axes r ≡ true) where
  pub wait-right : r.code ≡ 50 → in_offset (nth r.words 1) ≡ true
  wait-right e = (and_parts (in_character (nth r.words 0)) (in_offset (nth r.words 1)) (wait-ranges axes r.code r.words (ranges-right axes r h) e)).1

  pub jump-right : r.code ≡ 51 → get_or r.words 0 0 ≡ 0 → in_offset (nth r.words 1) ≡ true
  unfolding loop_right in_loop
  jump-right e z =
      zero-part (in_loop (nth r.words 0)) (in_back (nth r.words 1)) (in_zero (nth r.words 0)) (in_offset (nth r.words 1))
      (loop-ranges axes r.code r.words (ranges-right axes r h) e)
      (within-up 1 32767 (get_or r.words 0 0) (omega arith) ∙ rw (lt-leb 1 (get_or r.words 0 0) (omega arith)))

  loop-both : r.code ≡ 51 → (get_or r.words 0 0 ≡ 0 → ⊥) → (in_loop (nth r.words 0) ≡ true) × (in_back (nth r.words 1) ≡ true)
  unfolding loop_right in_zero
  loop-both e z =
      loop-part (in_loop (nth r.words 0)) (in_back (nth r.words 1)) (in_zero (nth r.words 0)) (in_offset (nth r.words 1))
      (loop-ranges axes r.code r.words (ranges-right axes r h) e)
      (within-zero 0 (get_or r.words 0 0) (omega arith) ∙ rw (lt-leb (get_or r.words 0 0) 0 (omega arith)))

  pub loop-right : r.code ≡ 51 → (get_or r.words 0 0 ≡ 0 → ⊥) → (0 < get_or r.words 0 0) × (get_or r.words 0 0 ≤ 32767) × (in_back (nth r.words 1) ≡ true)
  unfolding in_loop
  loop-right e z =
      let d = loop-both e z in
      let w = and_parts (leb 1 (get_or r.words 0 0)) (leb (get_or r.words 0 0) 32767) (sym (within-up 1 32767 (get_or r.words 0 0) (omega arith)) ∙ d.0) in
      (omega arith, leb-true _ _ w.1, d.1)

-- ---- offsets

pub offset-in : (z : ℤ) → in_offset z ≡ true → shift z ≤ 65535
unfolding in_offset within
offset-in (pos n) e = let l = leb-true n 32767 e in omega arith
offset-in (negsuc n) e = omega arith

pub back_in : (z : ℤ) → in_back z ≡ true → (in_offset z ≡ true) × (shift z ≤ 32767)
unfolding in_back in_offset within
back_in (pos n) e = never e
back_in (negsuc n) e =
    let d = and_parts (le_z (negsuc 32767) (negsuc n)) (le_z (negsuc n) (negsuc 0)) e in
    (rw d.0, omega arith)
