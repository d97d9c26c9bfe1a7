-- The bytes at the front of an input that only go into the line, taken all at once: `Board::take` cites it. That it is these bytes received
-- one by one is the law `take-is-received` of proofs/laws/Takes.antt.
use Rattle.std.specs.Prelude.{ℕ, ◌+◌, Bool, not, ◌&&◌, ◌||◌, List, [], ◌∷◌, ltb, eqb, take}
use Rattle.count.specs.Chars.{ch}
use Rattle.count.specs.Pick.{pick}
use Rattle.board.specs.declared.Line.{Line}
use Rattle.board.specs.declared.Lined.{Lined}
use Rattle.board.specs.declared.Board.{Board}
use Rattle.board.specs.declared.Taken.{Taken}
use Rattle.board.specs.State.{sound, gathered, with_line}
use Rattle.board.specs.Receive.{stop_code}
use Rattle.board.specs.work.Work.{gathers_by}

-- a byte that is no carriage return and no control code
abbrev pub is_plain : ℕ → Bool
is_plain byte = not (eqb byte (ch "\r")) && ltb byte stop_code

-- how many such bytes stand at the front
unfoldable pub plain_front : List ℕ → ℕ
plain_front [] = 0
plain_front (byte ∷ input) = pick (is_plain byte) (1 + plain_front input) 0

-- bytes gathered one after the other
unfoldable pub gathered_all : List ℕ → Line → Line
gathered_all [] l = l
gathered_all (byte ∷ input) l = gathered_all input (gathered byte l)

abbrev pub lined_of : List ℕ → Line → Lined
lined_of input l = record { line = gathered_all (take (plain_front input) input) l; count = plain_front input }

-- they are taken where lines are gathered and 103 refuses nothing; else none is
unfoldable pub taken_of : List ℕ → Board → Taken
taken_of input b =
    let g = lined_of input b.line in
    pick ((b.standing || gathers_by b.engine.run.job) && sound b) (record { board = with_line b g.line; count = g.count })
    (record { board = b; count = 0 })
