-- What a byte does to a board, as far as demand 3 needs it: while something stands, every line keeps the engine and the memory; and
-- neither the engine nor the memory ever depends on the input ports.
use Prim.Native.Nat.{ℕ, ◌+◌}
use native.Mathlib.Omega.{arith}
use mathlib.Core.Bool.{Bool, true, false, ◌&&◌}
use mathlib.Core.List.{List, [], ◌∷◌}
use mathlib.Core.Path.{◌≡◌, refl}
use borrow.Author.Tests.{ltb-true, le-leb}
use lib.Dec.{leb, ltb, eqb}
use Rattle.count.specs.Pick.{pick}
use Rattle.line.specs.Letter.{Letter}
use Rattle.line.specs.Letter as letter
use Rattle.line.specs.Said.{Direct}
use Rattle.line.specs.Lines.{direct_of, stored_of}
use Rattle.engine.specs.declared.Job.{Job}
use Rattle.engine.specs.declared.Job.TheVariants as job
use Rattle.engine.specs.declared.Engine.{Engine}
use Rattle.board.specs.declared.Line.{Line}
use Rattle.record.specs.Memory.{Memory}
use Rattle.board.specs.declared.Board.{Board}
use Rattle.board.specs.State.{board, no_line, text_of, gathered, line_done, Said, said}
use Rattle.board.specs.Direct.{reply_of, first, effect_of, accepted_said, direct_said}
use Rattle.board.specs.Storing.{stored_said}
use Rattle.board.specs.Receive.{is_storing, returned, gathering}

-- ---- the board that never stopped: the same engine, not standing, and no line begun while the other stands

abbrev pub twin_board : Board → Board
twin_board b = board b.engine false (pick b.standing no_line b.line)

-- while something is under way and does not stand, no line is begun
abbrev pub Clear : Job → Line → Type 0
Clear job.Idle l = Unit
Clear job.Storing l = Unit
Clear (job.Direct m) l = l ≡ no_line
Clear job.Ready l = l ≡ no_line
Clear (job.Moving m) l = l ≡ no_line
Clear (job.Delay q) l = l ≡ no_line
Clear (job.Wait c t) l = l ≡ no_line

abbrev pub ClearIf : Bool → Job → Line → Type 0
ClearIf true j l = Unit
ClearIf false j l = Clear j l

-- and no line is over 80 bytes
pub record Fit (b : Board) : Type 0 where
  pub short : leb b.line.len 80 ≡ true
  pub clear : ClearIf b.standing b.engine.run.job b.line

pub clear_of : (j : Job) {l : Line} → l ≡ no_line → Clear j l
clear_of job.Idle h = tt
clear_of job.Storing h = tt
clear_of (job.Direct m) h = h
clear_of job.Ready h = h
clear_of (job.Moving m) h = h
clear_of (job.Delay q) h = h
clear_of (job.Wait c t) h = h

-- a board with no line begun fits
pub fit_of : (e : Engine) (s : Bool) → Fit (board e s no_line)
fit_of e true = record { short = refl; clear = tt }
fit_of e false = record { short = refl; clear = clear_of e.run.job refl }

pub gathered-short : (v : ℕ) (l : Line) → leb l.len 80 ≡ true → leb (gathered v l).len 80 ≡ true
unfolding gathered
gathered-short v l h = by (ltb l.len 80) refl
  where
    by : (t : Bool) → ltb l.len 80 ≡ t → leb (gathered v l).len 80 ≡ true
    by true p = let q = ltb-true l.len 80 p in rw p (le-leb (l.len + 1) 80 (omega arith))
    by false p = rw p h

-- what a byte leaves: the board and the memory
abbrev pub left : Said → Board × Memory
left s = (s.board, s.memory)

abbrev pub direct : Letter → ℕ → List ℕ → Direct
direct x n w = record { letter = x; count = n; words = w }

-- ---- while something stands

-- the engine and the memory are as they were, and nothing stands only with no line begun
pub record Held (e : Engine) (mem : Memory) (q : Board × Memory) : Type 0 where
  pub twin : twin_board q.0 ≡ board e false no_line
  pub memory : q.1 ≡ mem
  pub fit : Fit q.0

module _ (e : Engine) (mem : Memory) where
  held_on : (l : Line) → leb l.len 80 ≡ true → Held e mem (board e true l, mem)
  held_on l h = record { twin = refl; memory = refl; fit = record { short = h; clear = tt } }

  held-off : Held e mem (board e false no_line, mem)
  held-off = record { twin = refl; memory = refl; fit = fit_of e false }

  module _ (ports : List ℕ) (l : Line) where
    -- P, b and S, accepted or not
    held-heard : (x : Letter) (n : ℕ) (w : List ℕ) (s : Bool) → Held e mem (left (accepted_said (effect_of x w ports e true) mem)) →
        Held e mem (left (direct_said (direct x n w) ports (board e true l) mem))
    unfolding direct_said
    held-heard x n w s h = by (eqb (reply_of e true (direct x n w)) 48)
      where
        by : (c : Bool) → Held e mem (left (pick c (accepted_said (effect_of x w ports e true) mem) (said (line_done (board e true l)) (reply_of e true (direct x n w) ∷ []) mem)))
        by true = h
        by false = held_on no_line refl

    -- every other line is refused: 5 or W
    held-direct : (x : Letter) (n : ℕ) (w : List ℕ) → Held e mem (left (direct_said (direct x n w) ports (board e true l) mem))
    unfolding direct_said reply_of first
    held-direct letter.Wrong n w = held_on no_line refl
    held-direct letter.Axes n w = held_on no_line refl
    held-direct letter.Relative n w = held_on no_line refl
    held-direct letter.Absolute n w = held_on no_line refl
    held-direct letter.Origin n w = held_on no_line refl
    held-direct letter.Zero n w = held_on no_line refl
    held-direct letter.Three n w = held_on no_line refl
    held-direct letter.Position n w = held-heard letter.Position n w true (held_on no_line refl)
    held-direct letter.Input n w = held-heard letter.Input n w true (held_on no_line refl)
    held-direct letter.Output n w = held_on no_line refl
    held-direct letter.Store n w = held_on no_line refl
    held-direct letter.Empty n w = held_on no_line refl
    held-direct letter.Start n w = held-heard letter.Start n w true held-off
    held-direct letter.Plane n w = held_on no_line refl
    held-direct letter.Direction n w = held_on no_line refl
    held-direct letter.Circle n w = held_on no_line refl

    held-return : Held e mem (left (returned ports (board e true l) mem))
    unfolding returned
    held-return = by l.over (is_storing e.run.job)
      where
        d : Direct
        d = direct_of (text_of l)

        by : (o c : Bool) → Held e mem (left (pick o (said (line_done (board e true l)) (53 ∷ []) mem)
            (pick (c && false) (stored_said (stored_of (text_of l)) (board e true l) mem) (direct_said d ports (board e true l) mem))))
        by true true = held_on no_line refl
        by true false = held_on no_line refl
        by false true = held-direct d.letter d.count d.words
        by false false = held-direct d.letter d.count d.words

    pub held-byte : (v : ℕ) → leb l.len 80 ≡ true → Held e mem (left (gathering v ports (board e true l) mem))
    unfolding gathering
    held-byte v h = by (eqb v 13)
      where
        by : (c : Bool) → Held e mem (left (pick c (returned ports (board e true l) mem) (said (board e true (gathered v l)) [] mem)))
        by true = held-return
        by false = held_on (gathered v l) (gathered-short v l h)
