-- Two more machines that the requests must shut out: ours but for the line `@08` (02 §7). The file FakesTurntable of proofs/laws shows what each
-- fails.
use Rattle.std.specs.Prelude.{ℕ, Bool, ◌&&◌, ◌||◌, List, ◌∷◌, eqb, get_or, drop}
use Rattle.count.specs.Chars.{ch}
use Rattle.count.specs.Pick.{pick}
use Rattle.engine.specs.State.{with_at, zeroes, turntable_of}
use Rattle.board.specs.declared.Board.{Board}
use Rattle.board.specs.State.{board, no_line}
use Rattle.board.specs.Calls.{Lent, lent, fresh}
use Rattle.promise.specs.Machine.{Machine, Heard, ours}
use Rattle.promise.specs.Circles.{line_of}

-- the return of a line whose first number is 8
abbrev eight : ℕ → Board → Bool
eight v b = eqb v (ch "\r") && eqb (get_or (line_of b).words 0 0) 8

abbrev hears : (ℕ → List ℕ → Lent → Board → Board × Heard) → Machine
hears h = record { State = Board; board = λ b. b; first = fresh; hear = h; tick = ours.tick; go = ours.go; list = ours.list }

-- it sets x, y and z to 0 too
abbrev pub zeroes_all : Machine
zeroes_all = hears (λ v ports l b.
    pick (eight v b)
    (let r = ours.hear v ports l b in (board (with_at r.0.engine zeroes) r.0.standing r.0.line, r.1))
    (ours.hear v ports l b))

-- it takes 8 after 1 and 3 too, and answers 0
abbrev pub adds_always : Machine
adds_always = hears (λ v ports l b.
    pick (eight v b && (eqb b.engine.axes 1 || eqb b.engine.axes 3))
    (board (turntable_of b.engine) b.standing no_line, record { len = 1; refusal = 0; after = lent (ch "0" ∷ drop 1 l.reply) l.memory })
    (ours.hear v ports l b))
