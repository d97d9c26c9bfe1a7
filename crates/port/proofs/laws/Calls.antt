-- A call on the board of a state, as the code makes it, is the definition's. Assumes nothing.
use Prim.Native.Nat.{ℕ, ◌≤◌}
use mathlib.Core.Path.{◌≡◌, refl, sym, ap, ◌∙◌}
use mathlib.Core.Bool.{Bool, true, false, not, ◌&&◌, ◌||◌}
use mathlib.Core.List.{List}
use borrow.Author.Tests.{eq-eqb, le-ltb}
use lib.ListN.{length}
use Rattle.record.specs.Listing.{Telling}
use Rattle.engine.specs.Tick.{runs_of}
use Rattle.board.specs.declared.Board.{Board}
use Rattle.board.specs.State.{sound}
use Rattle.board.specs.Calls.{Lent, Outcome, receiving, listing}
use Rattle.port.specs.declared.Shown.{Shown}
use Rattle.port.specs.declared.State.{State}
use Rattle.port.specs.Code.{known, board_of}
use Rattle.port.specs.Calls.{heard_state, hearing_state, listed_state, listing_state, shown_by, showing}

module _ (s : State) (k : known s ≡ true) {b : Board} (o : b ≡ board_of s) where
  pub listed-so : (store text : List ℕ) {t : Telling} → length store ≡ 16384 → t ≡ listing b store text → listed_state s t ≡ listing_state s store text
  unfolding listing_state
  listed-so store text l q = rw (eq-eqb (length store) 16384 l, k, q, o)

  pub heard-so : (byte : ℕ) (ports : List ℕ) (l : Lent) {p : List ℕ} {x : Outcome} → 32 ≤ length l.reply → length l.memory.store ≡ 16384 → p ≡ ports
      → x ≡ receiving byte p b l → heard_state s x ≡ hearing_state byte ports s l
  unfolding hearing_state
  heard-so byte ports l r n i q = rw (le-ltb (length l.reply) 32 r, eq-eqb (length l.memory.store) 16384 n, k, q, i, o)

-- what a host shows
module _ (s : State) {b : Board} (o : b ≡ board_of s) {k : Bool} (p : k ≡ known s) {t : Bool} (q : t ≡ sound b) where
  pub shown-refused : {r : Shown} → r ≡ shown_by 103 false b s → not k || not t ≡ true → r ≡ showing s
  unfolding showing
  shown-refused e w = e ∙ rw (o, sym p, sym (q ∙ ap sound o), w) refl

  pub shown-so : {x : Bool} {r : Shown} → x ≡ runs_of b.engine → r ≡ shown_by 0 (x && not b.standing) b s → not k || not t ≡ false → r ≡ showing s
  unfolding showing
  shown-so v e w = e ∙ rw (v, o, sym p, sym (q ∙ ap sound o), w) refl
