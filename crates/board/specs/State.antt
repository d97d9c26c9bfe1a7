-- The board's state, what a byte comes to, and the test of 103 (01, "Calls").
use Rattle.std.specs.Prelude.{ℕ, ◌+◌, Bool, true, false, ◌&&◌, List, leb, ltb, take, set, replicate}
use Rattle.count.specs.Sizes.{line_bytes}
use Rattle.count.specs.Pick.{pick}
use Rattle.record.specs.Memory.{Memory}
use Rattle.engine.specs.declared.Engine.{Engine}
use Rattle.engine.specs.Sound.{sound_of}
use Rattle.board.specs.declared.Line.{Line}
use Rattle.board.specs.declared.Board.{Board}

-- ---- the line

abbrev pub no_line : Line
no_line = record { bytes = replicate line_bytes 0; len = 0; over = false }

-- the bytes gathered so far
abbrev pub text_of : Line → List ℕ
text_of l = take l.len l.bytes

-- one byte more; the 81st and later ones are not kept, and the line is too long
unfoldable pub gathered : ℕ → Line → Line
gathered b l =
    pick (ltb l.len line_bytes)
    (record { bytes = set l.bytes l.len b; len = l.len + 1; over = l.over })
    (record { bytes = l.bytes; len = l.len; over = true })

-- ---- the board

abbrev pub board : Engine → Bool → Line → Board
board e standing l = record { engine = e; standing = standing; line = l }

abbrev pub with_line : Board → Line → Board
with_line b l = board b.engine b.standing l

-- the same board with an empty line
abbrev pub line_done : Board → Board
line_done b = with_line b no_line

-- what a byte comes to in a call that is not refused: the board, the bytes of its reply, and the memory
pub record Said : Type 0 where
  pub board : Board
  pub reply : List ℕ
  pub memory : Memory

abbrev pub said : Board → List ℕ → Memory → Said
said b reply m = record { board = b; reply = reply; memory = m }

-- ---- 103: what is asked of the engine, and a line of at most 80 bytes

unfoldable pub sound : Board → Bool
sound b = sound_of b.engine && leb b.line.len line_bytes
