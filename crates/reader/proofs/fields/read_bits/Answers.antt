-- `reader::read_bits` meets its contract: each return by the tests that led there.
use Rattle.std.proofs.Common.{◌≡◌, false, ◌&&◌, refl, eqb, length, take, eq-eqb, ne_eqb}
use lib.Seq.{take-length}
use Rattle.count.specs.Pick.{every}
use Rattle.count.proofs.laws.Truth.{and-false}
use Rattle.reader.specs.Fields.{is_hex, bits_of}
use Rattle.reader.proofs.fields.read_bits.Goals as goal
use Rattle.reader.proofs.fields.read_bits.Goals.{else-field-eq16-via-then-field-eq16+else-all_hex, else-field-eq16-via-else-field-eq16}

pub returns-then-all_hex : goal.returns-then-all_hex
unfolding bits_of
returns-then-all_hex c =
    let s = c.args.field.now in
    let n : length s ≡ 16 = c.if-field-eq16.true in
    let t : take 16 s ≡ s = rw (← n) (take-length s) in
    rw (eq-eqb _ _ n, ← c.all_hex.ensures, c.if-all_hex.true, c.hex_number.ensures, t) refl

pub returns-else-field-eq16 : goal.returns-else-field-eq16
unfolding bits_of
returns-else-field-eq16 c =
    let s = c.args.field.now in
    let no : eqb (length s) 16 && every is_hex s ≡ false =
    elim c.else-field-eq16.branch [
      | else-field-eq16-via-then-field-eq16+else-all_hex w ↦ rw (← w.all_hex.ensures, w.if-all_hex.false, and-false) refl
      | else-field-eq16-via-else-field-eq16 w ↦ rw (ne_eqb _ _ w.if-field-eq16.false) refl
    ] in
    rw no refl
