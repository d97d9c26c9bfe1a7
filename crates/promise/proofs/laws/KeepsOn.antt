-- What a byte that is heard and a clock call keep holds after any events, whatever is lent. And ours has `NoDeadEnd`, from three laws of
-- crate board that are handed in: a fresh board passes the test of 103, and a byte and a clock call keep that a board passes it. Assumes
-- these three and nothing else.
use Prim.Native.Nat.{ℕ}
use mathlib.Core.Path.{◌≡◌, refl, ap}
use mathlib.Core.Bool.{Bool, true, false}
use mathlib.Core.List.{List, [], ◌∷◌}
use borrow.Author.Tests.{eqb-true, eqb-false}
use lib.Dec.{eqb}
use Rattle.record.specs.Memory.{Memory}
use Rattle.board.specs.declared.Board.{Board}
use Rattle.board.specs.State.{sound}
use Rattle.board.specs.Receive.{hearing}
use Rattle.board.specs.Calls.{Lent, Outcome, receiving, clocking, fresh}
use Rattle.board.proofs.laws.Laws.{clock-never-refused}
use Rattle.promise.specs.Machine.{ours, Event, byte, clock, next, after_all}
use Rattle.promise.specs.Demands.{RightLent, refusal_of, NoDeadEnd}
use Rattle.promise.proofs.laws.KeepsCalls.{kept}
use Rattle.promise.proofs.laws.KeepsReturn.{out-board}
use Rattle.promise.proofs.laws.Gathering.{hear-so}

-- ---- a sound board refuses no call with buffers of the right lengths

none-refused : (e : Event) (s : Board) → sound s ≡ true → RightLent e → refusal_of ours e s ≡ 0
none-refused (byte v ports l) s h r = ap (λ (o : Outcome). o.result.refusal) (hear-so v ports s l h r.1 r.0)
none-refused (clock mem) s h r = clock-never-refused s mem h r

-- ---- a property that is kept

module _ (P : Board → Type 0) (byte-keeps : (v : ℕ) (ports : List ℕ) (b : Board) (mem : Memory) → P b → P (hearing v ports b mem).board)
    (clock-keeps : (b : Board) (mem : Memory) → P b → P (clocking b mem).board) where
  -- a byte, refused or heard
  byte-kept : (v : ℕ) (ports : List ℕ) (l : Lent) (s : Board) → P s → P (receiving v ports s l).result.board
  byte-kept v ports l s h = by (eqb (receiving v ports s l).result.refusal 0) refl
    where
      by : (x : Bool) → eqb (receiving v ports s l).result.refusal 0 ≡ x
          → P (receiving v ports s l).result.board
      by true q = rw (out-board v ports l s (eqb-true (receiving v ports s l).result.refusal 0 q)) (byte-keeps v ports s l.memory h)
      by false q = rw (kept v ports s l (eqb-false (receiving v ports s l).result.refusal 0 q)).0 h

  pub event-kept : (e : Event) (s : Board) → P s → P (next ours e s)
  event-kept (byte v ports l) s h = byte-kept v ports l s h
  event-kept (clock mem) s h = clock-keeps s mem h

  pub all-kept : (es : List Event) (s : Board) → P s → P (after_all ours es s)
  unfolding after_all
  all-kept [] s h = h
  all-kept (e ∷ es) s h = all-kept es (next ours e s) (event-kept e s h)

-- ---- the test of 103

module _ (start : sound fresh ≡ true)
    (byte-keeps : (v : ℕ) (ports : List ℕ) (b : Board) (mem : Memory) → sound b ≡ true → sound (hearing v ports b mem).board ≡ true)
    (clock-keeps : (b : Board) (mem : Memory) → sound b ≡ true → sound (clocking b mem).board ≡ true) where
  pub all_sound : (es : List Event) (s : Board) → sound s ≡ true → sound (after_all ours es s) ≡ true
  all_sound es s h = all-kept (λ b. sound b ≡ true) byte-keeps clock-keeps es s h

  pub no-dead-end-by : NoDeadEnd ours
  no-dead-end-by es e r = none-refused e (after_all ours es fresh) (all_sound es fresh start) r
