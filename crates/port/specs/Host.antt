-- What a host does: calls one after the other, with the memory that it keeps between them.
use Rattle.std.specs.Prelude.{ℕ, List, [], ◌∷◌}
use Rattle.record.specs.Memory.{Memory}
use Rattle.board.specs.declared.Board.{Board}
use Rattle.board.specs.Calls.{lent, receiving, clocking}
use Rattle.port.specs.declared.State.{State}
use Rattle.port.specs.Calls.{hearing_state, clocking_state}

-- a byte with the input ports and a reply buffer, or a clock call
pub data Call : Type 0 where
  byte : ℕ → List ℕ → List ℕ → Call
  clock : Call

-- the board and the memory afterwards
pub record Kept (B : Type 0) : Type 0 where
  pub board : B
  pub memory : Memory

unfoldable pub board_after : List Call → Board → Memory → Kept Board
board_after [] b m = record { board = b; memory = m }
board_after (byte c ports reply ∷ cs) b m =
    let o = receiving c ports b (lent reply m) in
    board_after cs o.result.board o.after.memory
board_after (clock ∷ cs) b m = board_after cs (clocking b m).board m

-- the same from C
unfoldable pub state_after : List Call → State → Memory → Kept State
state_after [] s m = record { board = s; memory = m }
state_after (byte c ports reply ∷ cs) s m =
    let o = hearing_state c ports s (lent reply m) in
    state_after cs o.result.state o.after.memory
state_after (clock ∷ cs) s m = state_after cs (clocking_state s m).state m
