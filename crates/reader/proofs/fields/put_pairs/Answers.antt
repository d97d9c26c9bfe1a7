-- `reader::put_pairs` meets its contract: one byte a turn.
use Rattle.std.proofs.Common.{ℕ, ◌/◌, ◌<◌, List, ◌≡◌, refl, ap, ◌∙◌, arith, length, set, length-set}
use lib.Seq.{paste, paste-zero}
use Rattle.reader.specs.Fields.{pairs}
use Rattle.reader.proofs.laws.Pairs.{pair-at, pairs-more, pairs-all}
use Rattle.reader.proofs.fields.put_pairs.Goals as goal

pub loop-i-init : goal.loop-i-init
loop-i-init c = record { same = refl; put = paste-zero c.args.bytes.now 0 (pairs c.args.field.now) }

pub loop-i-preserved : goal.loop-i-preserved
loop-i-preserved c =
    let s = c.args.field.now in
    let bytes = c.args.bytes.now in
    let i = c.loop-i.i in
    let h : i < length s / 2 = c.loop-i-test.true in
    record {
      same = simp length-set c.loop-i.invariant.same;
      put = ap (λ (s : List ℕ). set s i c.byte_of.result) c.loop-i.invariant.put ∙ rw (c.byte_of.ensures, pair-at s i h) (pairs-more s bytes i h c.requires);
    }

pub returns : goal.returns
returns c =
    let s = c.args.field.now in
    let bytes = c.args.bytes.now in
    let e : c.loop-i.i ≡ length s / 2 = omega (arith, c.loop-i-test.false, c.loop-i.auto.i-end) in
    c.loop-i.invariant.put ∙ ap (paste bytes 0 (pairs s)) e ∙ pairs-all s bytes
