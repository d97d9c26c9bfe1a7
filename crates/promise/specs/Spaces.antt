-- 02 §8, of any machine: two lines of at most 80 bytes that differ only in the spaces after their commas get the same reply and leave the
-- same state and the same memory, store bytes and all.
use Rattle.std.specs.Prelude.{ℕ, ◌≤◌, ◌≡◌, true, false, ◌||◌, List, [], ◌∷◌, ◌++◌, length}
use Rattle.count.specs.Sizes.{line_bytes}
use Rattle.count.specs.Chars.{ch}
use Rattle.line.specs.Spaces.{SameButSpaces}
use Rattle.record.specs.Memory.{Memory}
use Rattle.board.specs.declared.Board.{Board}
use Rattle.promise.specs.Machine.{Machine}
use Rattle.promise.specs.Demands.{idles, stores, Host, Sent, sent}
use Rattle.promise.specs.Steps.{Each}

-- a byte that belongs to a line: 0 to 252, and no carriage return
abbrev pub Gathers : ℕ → Type 0
Gathers v = (v ≤ 252) × (v ≡ ch "\r" → ⊥)

-- a line: at most 80 of them
pub record IsLine (t : List ℕ) : Type 0 where
  pub short : length t ≤ line_bytes
  pub bytes : Each Gathers t

-- no line is begun: no byte is gathered. What its 80 bytes hold from earlier lines does not matter.
pub record NoneBegun (b : Board) : Type 0 where
  pub room : length b.line.bytes ≡ line_bytes
  pub none : b.line.len ≡ 0
  pub fits : b.line.over ≡ false

-- between the bytes there are no clock calls; or any, on a board that is idle, stores or stands stopped
pub data Between (h : Host) (b : Board) : Type 0 where
  no-calls : ((i : ℕ) → h.calls i ≡ 0) → Between h b
  at_rest : b.standing || idles b || stores b ≡ true → Between h b

-- no byte of these is answered
abbrev pub silence : List ℕ → List (List ℕ)
silence [] = []
silence (v ∷ t) = [] ∷ silence t

module _ (m : Machine) where
  -- a line and its return, byte by byte
  abbrev pub sending : Host → List ℕ → m.State → Memory → Sent m
  sending h t s mem = sent m h 0 (t ++ ch "\r" ∷ []) s mem

  -- the same state, the same memory, and the same reply, to the return alone
  pub record SameOutcome (t u : List ℕ) (x y : Sent m) : Type 0 where
    pub state : x.state ≡ y.state
    pub memory : x.memory ≡ y.memory
    pub reply : List ℕ
    pub one : x.replies ≡ silence t ++ reply ∷ []
    pub other : y.replies ≡ silence u ++ reply ∷ []

  -- on every state with no line begun and every memory, sound or refused, with any reply buffers of 32 or more bytes and the same ports at
  -- both returns
  abbrev pub SpacesChangeNothing : Type 0
  SpacesChangeNothing =
      (g h : Host) (t u : List ℕ) (s : m.State) (mem : Memory)
      → IsLine t → IsLine u → SameButSpaces t u → NoneBegun (m.board s) → Between g (m.board s) → Between h (m.board s)
      → g.ports (length t) ≡ h.ports (length u) → SameOutcome t u (sending g t s mem) (sending h u s mem)
