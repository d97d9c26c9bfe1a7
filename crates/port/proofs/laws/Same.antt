-- From C it is the board: on a state that a board has, each call is the board's own, refusals too, and leaves such a state; so any number of
-- calls on a fresh state answer what the board answers, and leave the state of the board that they leave. Assumes nothing.
use Prim.Native.Nat.{ℕ}
use mathlib.Core.Path.{◌≡◌, refl, sym, ap, ◌∙◌, subst}
use mathlib.Core.Bool.{Bool, true, false, not}
use mathlib.Core.List.{List, [], ◌∷◌}
use lib.Dec.{ltb}
use lib.ListN.{length}
use Rattle.count.specs.Sizes.{reply_bytes}
use Rattle.count.specs.Pick.{pick}
use Rattle.record.specs.Memory.{Memory, store_fits}
use Rattle.engine.specs.declared.Answer.TheVariants as answer
use Rattle.board.specs.declared.Board.{Board}
use Rattle.board.specs.Calls.{Ticked}
use Rattle.board.specs.Calls.{Lent, lent, Outcome, refused, receiving, clocked, clocking, fresh}
use Rattle.port.specs.declared.Clocked.{Clocked}
use Rattle.port.specs.declared.State.{State}
use Rattle.port.specs.Code.{known, board_of, blank}
use Rattle.port.specs.Calls.{fresh_state, clocked_by, ticked_state, clocking_state, Hearing, heard, heard_by, heard_state, hearing_state}
use Rattle.port.specs.Host.{Call, Kept, board_after, state_after}
use Rattle.port.specs.Host.Call.{byte, clock}
use Rattle.port.proofs.laws.Code.{read-written, written_read, stays-known, blank-known}

-- ---- a fresh state

pub fresh-read : board_of fresh_state ≡ fresh
fresh-read = read-written blank fresh

pub fresh-known : known fresh_state ≡ true
fresh-known = stays-known blank fresh blank-known

module _ (s : State) (h : known s ≡ true) where
  -- ---- a clock call

  clock-by : (t : Bool) (x : Ticked) → ticked_state s (pick t (clocked 102 (board_of s) answer.Nothing) x)
      ≡ pick t (clocked_by 102 s answer.Nothing) (ticked_state s (pick t (clocked 102 (board_of s) answer.Nothing) x))
  clock-by true x = rw (written_read s h) refl
  clock-by false x = refl

  pub clock-is-the-boards : (m : Memory) → clocking_state s m ≡ ticked_state s (clocking (board_of s) m)
  unfolding clocking_state clocking
  clock-is-the-boards m = rw h (sym (clock-by (not (store_fits m)) _))

  pub clock-leaves : (m : Memory) → (board_of (clocking_state s m).state ≡ (clocking (board_of s) m).board) × (known (clocking_state s m).state ≡ true)
  clock-leaves m =
      let e = clock-is-the-boards m in (
        ap (λ (x : Clocked). board_of x.state) e ∙ read-written s (clocking (board_of s) m).board,
        ap (λ (x : Clocked). known x.state) e ∙ stays-known s (clocking (board_of s) m).board h,
      )

  -- ---- a byte received

  hear-by : (t u : Bool) (x : Outcome) (l : Lent)
      → pick t (heard (heard_by 101 0 s) l) (pick u (heard (heard_by 102 0 s) l) (heard_state s (pick t (refused 101 (board_of s) l) (pick u (refused 102 (board_of s) l) x))))
      ≡ heard_state s (pick t (refused 101 (board_of s) l) (pick u (refused 102 (board_of s) l) x))
  hear-by true u x l = rw (written_read s h) refl
  hear-by false true x l = rw (written_read s h) refl
  hear-by false false x l = refl

  pub hearing-is-the-boards : (c : ℕ) (ports : List ℕ) (l : Lent) → hearing_state c ports s l ≡ heard_state s (receiving c ports (board_of s) l)
  unfolding hearing_state receiving
  hearing-is-the-boards c ports l = rw h (hear-by (ltb (length l.reply) reply_bytes) (not (store_fits l.memory)) _ l)

  pub hearing-leaves : (c : ℕ) (ports : List ℕ) (l : Lent)
      → (board_of (hearing_state c ports s l).result.state ≡ (receiving c ports (board_of s) l).result.board) × (known (hearing_state c ports s l).result.state ≡ true)
  hearing-leaves c ports l =
      let e = hearing-is-the-boards c ports l in (
        ap (λ (x : Hearing). board_of x.result.state) e ∙ read-written s (receiving c ports (board_of s) l).result.board,
        ap (λ (x : Hearing). known x.result.state) e ∙ stays-known s (receiving c ports (board_of s) l).result.board h,
      )

-- ---- any number of calls

abbrev Same : Kept State → Kept Board → Type 0
Same x y = (board_of x.board ≡ y.board) × (x.memory ≡ y.memory) × (known x.board ≡ true)

-- from here on by the board that was reached
onward : (cs : List Call) {b b' : Board} {m m' : Memory} → b ≡ b' → m ≡ m' → board_after cs b m ≡ board_after cs b' m'
onward cs p q = rw (p, q) refl

pub calls-are-the-boards : (cs : List Call) (s : State) (m : Memory) → known s ≡ true → Same (state_after cs s m) (board_after cs (board_of s) m)
unfolding state_after board_after
calls-are-the-boards [] s m h = (refl, refl, h)
calls-are-the-boards (byte c ports reply ∷ cs) s m h =
    let l = lent reply m in
    let o = hearing_state c ports s l in
    let w = hearing-leaves s h c ports l in
    let e = ap (λ (x : Hearing). x.after.memory) (hearing-is-the-boards s h c ports l) in
    subst (Same (state_after cs o.result.state o.after.memory)) (onward cs w.0 e) (calls-are-the-boards cs o.result.state o.after.memory w.1)
calls-are-the-boards (clock ∷ cs) s m h =
    let w = clock-leaves s h m in
    subst (Same (state_after cs (clocking_state s m).state m)) (onward cs w.0 refl) (calls-are-the-boards cs (clocking_state s m).state m w.1)

-- from a fresh state on
pub calls-from-fresh : (cs : List Call) (m : Memory) → Same (state_after cs fresh_state m) (board_after cs fresh m)
calls-from-fresh cs m =
    subst (Same (state_after cs fresh_state m)) (onward cs fresh-read refl) (calls-are-the-boards cs fresh_state m fresh-known)
