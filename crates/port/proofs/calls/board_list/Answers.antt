-- `port::calls::board_list` meets its contract. Assumes nothing.
use mathlib.Core.Bool.{not}
use mathlib.Core.Path.{◌≡◌, refl, sym, ap, ◌∙◌}
use mathlib.Core.List.{List}
use Prim.Native.Nat.{ℕ}
use Rattle.std.specs.Result.{result_unwrap_or}
use Rattle.std.specs.Prelude.{Result, Ok, Err}
use borrow.Author.Tests.{eq-eqb, ne_eqb}
use Rattle.count.specs.declared.Refusal.{Refusal}
use Rattle.record.specs.Listing.{told}
use Rattle.record.specs.Table.{refused}
use Rattle.port.specs.declared.State.{State}
use Rattle.port.specs.Calls.{listed, listed_state, written_by}
use Rattle.port.specs.Calls.{listing_state}
use Rattle.port.proofs.laws.Calls.{listed-so}
use Rattle.port.proofs.calls.board_list.Goals as goal

pub returns-then-store-ne16384 : goal.returns-then-store-ne16384
unfolding listing_state
returns-then-store-ne16384 c = simp (ne_eqb _ _ c.if-store-ne16384.true, c.written.ensures)

pub returns-then-not-is_known : goal.returns-then-not-is_known
unfolding listing_state
returns-then-not-is_known c = simp (eq-eqb _ _ c.if-store-ne16384.false, ← c.is_known.ensures, (ap not c.if-not-is_known.true), c.written-then-not-is_known.ensures)

list-told : (s : State) (r : Result ℕ Refusal) (t : List ℕ) → listed (written_by (refused r) (result_unwrap_or r 0) s) t ≡ listed_state s (told r t)
list-told s (Ok n) t = refl
list-told s (Err e) t = refl

pub returns : goal.returns
returns c =
    let a = c.args in
    simp (c.written-2.ensures, c.refusal_of.ensures, c.unwrap_or.ensures)
    (list-told a.state c.list-listed.result c.list-listed.new.text
    ∙ listed-so a.state (sym c.is_known.ensures ∙ c.if-not-is_known.false) c.«open».ensures a.store.now a.text.now c.if-store-ne16384.false c.list-listed.ensures)
