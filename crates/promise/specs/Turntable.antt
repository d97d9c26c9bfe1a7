-- 02 §7, of any machine: the line `@08` adds A to the axes set and zeroes A alone; and what movements with A do, as examples.
use Rattle.std.specs.Prelude.{ℕ, ◌≡◌, true, false, ◌||◌, List, [], ◌∷◌, eqb, ℤ, pos, negsuc, get_or}
use Rattle.count.specs.Chars.{ch, codes}
use Rattle.count.specs.Paper.{Paper, says}
use Rattle.count.specs.Numbers.{half}
use Rattle.motion.specs.declared.Counters.{Counters}
use Rattle.engine.specs.declared.Engine.{Engine}
use Rattle.board.specs.declared.Board.{Board}
use Rattle.board.specs.State.{board, no_line, line_done}
use Rattle.board.specs.Calls.{Lent}
use Rattle.course.specs.Walk.{walked}
use Rattle.promise.specs.Machine.{Machine}
use Rattle.promise.specs.Demands.{replied, hears, board_then}
use Rattle.promise.specs.Twelve.{send0}
use Rattle.promise.specs.Circles.{line_of, Typed, answers_of, from}

-- the line `@08` on an idle board
pub record Adds (b : Board) : Type 0 where
  pub typed : Typed (ch "0") b
  pub count : (line_of b).count ≡ 1
  pub number : get_or (line_of b).words 0 0 ≡ 8
  pub whole : b.line.over ≡ false

-- none of x, y, z, A is set or only A: A alone; x, y and z are set, or all four: all four
abbrev pub AfterEight : ℕ → ℕ → Type 0
AfterEight before now = (before ≡ 0 → now ≡ 8) × (before ≡ 8 → now ≡ 8) × (before ≡ 7 → now ≡ 15) × (before ≡ 15 → now ≡ 15)

-- A at 0, x, y and z where they were
abbrev pub zero_a : Counters → Counters
zero_a c = record { x = c.x; y = c.y; z = c.z; a = half }

-- of the engine only the axes and A's position and origin change
abbrev pub with_table : Engine → ℕ → Engine
with_table e n = record { axes = n; at = zero_a e.at; origin = zero_a e.origin; three = e.three; circling = e.circling; output = e.output; held = e.held; run = e.run }

pub record Added (b b' : Board) : Type 0 where
  pub axes : AfterEight b.engine.axes b'.engine.axes
  pub board : b' ≡ board (with_table b.engine b'.engine.axes) b.standing no_line

-- a pulse with the signs of x, y, z and a, and its speed
abbrev pub pulse : ℤ → ℤ → ℤ → ℤ → ℕ → Paper
pulse x y z a v = says 1 (x ∷ y ∷ z ∷ a ∷ pos v ∷ [])

module _ (m : Machine) where
  pub record TurntableRequested : Type 0 where
    -- after none, after x, y and z, or again: 0
    pub adds : (ports : List ℕ) (l : Lent) (s : m.State) → Adds (m.board s)
        → eqb (m.board s).engine.axes 0 || eqb (m.board s).engine.axes 7 || eqb (m.board s).engine.axes 8 || eqb (m.board s).engine.axes 15 ≡ true
        → (hears m (ch "\r") ports l s).refusal ≡ 0
        → (replied (hears m (ch "\r") ports l s) ≡ ch "0" ∷ []) × Added (m.board s) (board_then m (ch "\r") ports l s)
    -- after 1 or 3: 3, and nothing changes
    pub refuses : (ports : List ℕ) (l : Lent) (s : m.State) → Adds (m.board s)
        → eqb (m.board s).engine.axes 1 || eqb (m.board s).engine.axes 3 ≡ true → (hears m (ch "\r") ports l s).refusal ≡ 0
        → (replied (hears m (ch "\r") ports l s) ≡ ch "3" ∷ []) × (board_then m (ch "\r") ports l s ≡ line_done (m.board s))
    -- in 2.5D x and y, then z, then a, each at its speed; then 0
    pub phases : answers_of m 5 (from m (codes "@07\r@08\r@0A1,600,1,500,-1,400,2,300\r"))
        ≡ pulse (pos 1) (pos 1) (pos 0) (pos 0) 600 ∷ pulse (pos 0) (pos 0) (negsuc 0) (pos 0) 400
        ∷ pulse (pos 0) (pos 0) (pos 0) (pos 1) 300 ∷ pulse (pos 0) (pos 0) (pos 0) (pos 1) 300 ∷ send0 ∷ []
    -- in 3D all four together at the x speed
    pub together : answers_of m 3 (from m (codes "@07\r@08\r@0z1\r@0A1,600,0,500,-1,400,2,300\r"))
        ≡ pulse (pos 1) (pos 0) (negsuc 0) (pos 1) 600 ∷ pulse (pos 0) (pos 0) (pos 0) (pos 1) 600 ∷ send0 ∷ []
    -- A alone at its own speed, as a program too
    pub alone : answers_of m 2 (from m (codes "@08\r@0A-1,700\r")) ≡ pulse (pos 0) (pos 0) (pos 0) (negsuc 0) 700 ∷ send0 ∷ []
    pub stored : answers_of m 2 (from m (codes "@08\r@0i\r0 1,700\r9\r@0S\r")) ≡ pulse (pos 0) (pos 0) (pos 0) (pos 1) 700 ∷ send0 ∷ []

-- P sends 24 digits with four axes and else 18, and walk prints a fourth sign and a fourth position while A is set
pub record TurntablePrinted : Type 0 where
  pub four : walked (codes "@07\r@08\r@0A0,600,0,600,0,600,-2,700\r@0P\r")
      ≡ codes "walk\nR 0\nR 0\nP ...- 700\nP ...- 700\nR 0\nR 0000000000000000000FFFFFE\nE 0 0 0 -2\n"
  pub alone : walked (codes "@08\r@0A1,700\r@0P\r") ≡ codes "walk\nR 0\nP ...+ 700\nR 0\nR 0000000000000000000\nE 0 0 0 1\n"
  pub dropped : walked (codes "@08\r@0A1,700\r@01\r") ≡ codes "walk\nR 0\nP ...+ 700\nR 0\nR 0\nE 0 0 0\n"
