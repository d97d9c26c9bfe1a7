-- `reader::next_number` meets its contract: the loop keeps what the whole text comes to.
use Prim.Native.Nat.{ℕ, ◌+◌, ◌≤◌, ◌<◌}
use mathlib.Core.Path.{◌≡◌, refl, sym, ◌∙◌}
use mathlib.Core.Bool.{Bool, true, false, not, ◌&&◌, ◌||◌}
use mathlib.Core.List.{List}
use native.Mathlib.Omega.{arith}
use lib.Dec.{eqb}
use lib.ListN.{length, drop, get_or, drop_of_length-le}
use Rattle.count.proofs.laws.Lists.{next}
use Rattle.reader.specs.Reader.{is_digit, with_digit, number, reading}
use Rattle.reader.proofs.next_number.Goals as goal
use Rattle.reader.proofs.next_number.Goals.{else-begun-via-then-begun+else-not-digit, else-begun-via-else-begun}

-- ---- what the bytes from byte i on come to

module _ (s : List ℕ) (i size : ℕ) (minus begun : Bool) where
  abbrev byte : ℕ
  byte = get_or s i 0

  ends : i < length s → begun && not (is_digit byte) ≡ true → reading (drop i s) i size minus begun ≡ number minus size (i + 1)
  unfolding reading
  ends h e = rw (next s i h, e)

  goes_on : i < length s → begun && not (is_digit byte) ≡ false
      → reading (drop i s) i size minus begun ≡ reading (drop (i + 1) s) (i + 1) (with_digit size byte) (minus || eqb byte 45) (begun || is_digit byte)
  unfolding reading
  goes_on h e = rw (next s i h, e)

  all_read : length s ≤ i → reading (drop i s) i size minus begun ≡ number minus size i
  unfolding reading
  all_read h = rw (drop_of_length-le s h)

pub returns-then-not-digit : goal.returns-then-not-digit
returns-then-not-digit c =
    let n = c.args.text.now in
    let past : c.loop-at.begun && not (is_digit (get_or n c.loop-at.at 0)) ≡ true = rw (c.if-begun.true, ← c.if-not-digit.ensures.value) refl in
    sym (c.loop-at.invariant.read ∙ ends n c.loop-at.at c.loop-at.size c.loop-at.minus c.loop-at.begun c.loop-at-test.true past ∙ rw (← c.word_of.ensures) refl)

pub loop-at-preserved : goal.loop-at-preserved
loop-at-preserved c =
    let n = c.args.text.now in
    let digit = c.is_ascii_digit-digit.ensures.value in
    let more : c.loop-at.begun && not (is_digit (get_or n c.loop-at.at 0)) ≡ false =
    elim c.else-begun.branch [
      | else-begun-via-then-begun+else-not-digit w ↦ rw (w.if-begun.true, ← w.if-not-digit.ensures.value) refl
      | else-begun-via-else-begun w ↦ rw w.if-begun.false refl
    ] in
    record {
      read = c.loop-at.invariant.read ∙ goes_on n c.loop-at.at c.loop-at.size c.loop-at.minus c.loop-at.begun c.loop-at-test.true more ∙ rw (← c.with_digit-size.ensures, ← digit) refl;
      within = omega (arith, c.loop-at-test.true);
    }

pub returns : goal.returns
returns c =
    let n = c.args.text.now in
    let end : c.loop-at.at ≡ c.max.result = omega (arith, c.loop-at.invariant.within, c.loop-at-test.false, c.loop-at.auto.at, c.max.ensures) in
    sym (c.loop-at.invariant.read ∙ all_read n c.loop-at.at c.loop-at.size c.loop-at.minus c.loop-at.begun c.loop-at-test.false ∙ rw (← c.word_of-2.ensures, end) refl)
