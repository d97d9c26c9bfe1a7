-- `line::read_numbers` meets its contract: the loop keeps what the whole text comes to. Assumes nothing.
use Rattle.std.specs.Prelude.{Option, Some}
use Prim.Native.Nat.{ℕ}
use mathlib.Core.Path.{◌≡◌, refl, sym, ap, ◌∙◌}
use native.Mathlib.Omega.{arith}
use lib.ListN.{drop, set, length-set}
use lib.Seq.{set_out}
use Rattle.line.specs.declared.numbers.Item.{Item}
use Rattle.line.specs.work.Reading.{more}
use Rattle.line.proofs.Spaces.{spaced-on}
use Rattle.line.proofs.Items.{from_start, turn, past-comma, ahead}
use Rattle.line.proofs.numbers.read_numbers.Goals as goal
use Rattle.line.proofs.numbers.read_numbers.Goals.{then-n-lt8, else-n-lt8}

goes-on : (i : Item) (j : ℕ) → i.next ≡ Some j → i ≡ more i.word j
goes-on i j e = ap (λ (n : Option ℕ). record { word = i.word; next = n }) e

pub loop-item-init : goal.loop-item-init
loop-item-init c = (c.requires, omega arith, refl, from_start (drop c.args.start c.args.s.now))

pub returns-in_err-item : goal.returns-in_err-item
returns-in_err-item c =
    let l = c.loop-item in
    c.from_residual.ensures ∙ sym (l.invariant.3 ∙ turn c.args.s.now l.n l.words l.at c.read_number.ensures ∙ rw (c.in_err-item.was) refl)

pub loop-item-smaller : goal.loop-item-smaller
loop-item-smaller c =
    let l = c.loop-item in
    let i = c.in_ok-item.item in
    let m : c.read_number.result ≡ Some (more i.word c.in-Some.next) = c.in_ok-item.was ∙ ap Some (goes-on i c.in-Some.next c.in-Some.is) in
    let a = ahead c.args.s.now l.at l.invariant.0 c.read_number.ensures m in
    let b = spaced-on c.args.s.now _ a.1 in
    rw c.past_space-at.ensures (omega (arith, a, b))

pub loop-item-preserved : goal.loop-item-preserved
loop-item-preserved c =
    let t = c.args.s.now in
    let l = c.loop-item in
    let i = c.in_ok-item.item in
    let m : c.read_number.result ≡ Some (more i.word c.in-Some.next) = c.in_ok-item.was ∙ ap Some (goes-on i c.in-Some.next c.in-Some.is) in
    let k : c.if-n-lt8.words ≡ set l.words l.n i.word = elim c.if-n-lt8.branch [
      | then-n-lt8 w ↦ w.words-is
      | else-n-lt8 w ↦ w.words-is ∙ sym (set_out l.words l.n i.word (omega arith))
    ] in
    let a = ahead t l.at l.invariant.0 c.read_number.ensures m in
    let b = spaced-on t _ a.1 in (
      rw c.past_space-at.ensures b.1,
      rw c.past_space-at.ensures (omega arith),
      rw (k, length-set) l.invariant.2,
      rw (k, c.past_space-at.ensures) (l.invariant.3 ∙ turn t l.n l.words l.at c.read_number.ensures ∙ rw m (past-comma _ _ t _)),
    )

pub returns-in-None : goal.returns-in-None
returns-in-None c =
    let l = c.loop-item in
    let i = c.in_ok-item.item in
    let k : c.if-n-lt8.words ≡ set l.words l.n i.word = elim c.if-n-lt8.branch [
      | then-n-lt8 w ↦ w.words-is
      | else-n-lt8 w ↦ w.words-is ∙ sym (set_out l.words l.n i.word (omega arith))
    ] in
    rw k (sym (l.invariant.3 ∙ turn c.args.s.now l.n l.words l.at c.read_number.ensures ∙ rw (c.in_ok-item.was, c.in-None.is) refl))
