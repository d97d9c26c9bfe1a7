-- A byte while nothing runs and nothing stands: nothing stands afterwards, and the board and the memory do not depend on the input ports.
use Prim.Native.Nat.{ℕ}
use mathlib.Core.Bool.{Bool, true, false, ◌&&◌, true≢false}
use mathlib.Core.List.{List, [], ◌∷◌}
use mathlib.Core.Path.{◌≡◌, refl}
use lib.Dec.{leb, eqb}
use Rattle.count.specs.Pick.{pick}
use Rattle.line.specs.Letter.{Letter}
use Rattle.line.specs.Letter as letter
use Rattle.line.specs.Said.{Direct}
use Rattle.line.specs.Code.{Code}
use Rattle.line.specs.Code as code
use Rattle.line.specs.Said.{Stored}
use Rattle.line.specs.Lines.{direct_of, stored_of}
use Rattle.record.specs.declared.Record.{Record}
use Rattle.record.specs.Memory.{Memory}
use Rattle.record.specs.Keep.{store_of}
use Rattle.program.specs.Program.{verdict_of, is_sound}
use Rattle.engine.specs.declared.Engine.{Engine}
use Rattle.engine.specs.State.{with_held, emptied, ceased}
use Rattle.board.specs.declared.Line.{Line}
use Rattle.board.specs.declared.Board.{Board}
use Rattle.board.specs.State.{board, no_line, text_of, gathered, line_done, Said, said}
use Rattle.board.specs.Direct.{reply_of, effect_of, accepted_said, direct_said}
use Rattle.board.specs.Storing.{record_reply, record_of, record_said, named_fault, end_said, stored_by, stored_said}
use Rattle.board.specs.Receive.{is_storing, returned, gathering}
use Rattle.promise.proofs.laws.KeepsLines.{stored_in}
use Rattle.promise.proofs.laws.StopBoard.{twin_board, Clear, Fit, fit_of, gathered-short, left}

-- nothing stands afterwards, and the same without ports
pub record Quiet (q r : Board × Memory) : Type 0 where
  pub standing : q.0.standing ≡ false
  pub fit : Fit q.0
  pub deaf : r ≡ q

pub twin-of : (b : Board) → b.standing ≡ false → twin_board b ≡ b
twin-of b h = by b.standing h
  where
    by : (s : Bool) → s ≡ false → board b.engine false (pick s no_line b.line) ≡ board b.engine s b.line
    by true p = absurd (true≢false p)
    by false p = refl

quiet_of : (e : Engine) (mem : Memory) → Quiet (board e false no_line, mem) (board e false no_line, mem)
quiet_of e mem = record { standing = refl; fit = fit_of e false; deaf = refl }

module _ (ports : List ℕ) (e : Engine) (l : Line) (mem : Memory) where
  abbrev b : Board
  b = board e false l

  quiet_effect : (x : Letter) (w : List ℕ) → Quiet (left (accepted_said (effect_of x w ports e false) mem)) (left (accepted_said (effect_of x w [] e false) mem))
  quiet_effect letter.Wrong w = quiet_of _ mem
  quiet_effect letter.Axes w = quiet_of _ mem
  quiet_effect letter.Relative w = quiet_of _ mem
  quiet_effect letter.Absolute w = quiet_of _ mem
  quiet_effect letter.Origin w = quiet_of _ mem
  quiet_effect letter.Zero w = quiet_of _ mem
  quiet_effect letter.Three w = quiet_of _ mem
  quiet_effect letter.Position w = quiet_of _ mem
  quiet_effect letter.Input w = quiet_of _ mem
  quiet_effect letter.Output w = quiet_of _ mem
  quiet_effect letter.Store w = quiet_of _ mem
  quiet_effect letter.Empty w = quiet_of _ mem
  quiet_effect letter.Start w = quiet_of _ mem
  quiet_effect letter.Plane w = quiet_of _ mem
  quiet_effect letter.Direction w = quiet_of _ mem
  quiet_effect letter.Circle w = quiet_of _ mem

  quiet-direct : (d : Direct) → Quiet (left (direct_said d ports b mem)) (left (direct_said d [] b mem))
  unfolding direct_said
  quiet-direct d = by (eqb (reply_of e false d) 48)
    where
      no : Said
      no = said (line_done b) (reply_of e false d ∷ []) mem

      by : (c : Bool) → Quiet (left (pick c (accepted_said (effect_of d.letter d.words ports e false) mem) no))
          (left (pick c (accepted_said (effect_of d.letter d.words [] e false) mem) no))
      by true = quiet_effect d.letter d.words
      by false = quiet_of e mem

  quiet-record : (r : Record) → Quiet (left (record_said r b mem)) (left (record_said r b mem))
  quiet-record r = by (eqb (record_reply e.held r mem) 48)
    where
      yes' : Said
      yes' = said (board (with_held e (store_of e.held r mem).kept.held) false no_line) (48 ∷ []) (stored_in e.held r mem)

      no' : Said
      no' = said (line_done b) (record_reply e.held r mem ∷ []) mem

      by : (c : Bool) → Quiet (left (pick c yes' no')) (left (pick c yes' no'))
      by true = quiet_of _ _
      by false = quiet_of e mem

  quiet-end : Quiet (left (end_said b mem)) (left (end_said b mem))
  quiet-end = by (is_sound (verdict_of e.held mem.store))
    where
      yes' : Said
      yes' = said (board (ceased e) false no_line) (48 ∷ []) mem

      no' : Said
      no' = said (board (ceased (emptied e)) false no_line) (71 ∷ named_fault (verdict_of e.held mem.store)) mem

      by : (c : Bool) → Quiet (left (pick c yes' no')) (left (pick c yes' no'))
      by true = quiet_of _ _
      by false = quiet_of _ _

  quiet-stored : (k : Code) (d : Stored) → Quiet (left (stored_by k d b mem)) (left (stored_by k d b mem))
  quiet-stored code.Wrong d = quiet_of e mem
  quiet-stored (code.Record c) d = quiet-record (record_of c d)
  quiet-stored code.End d = quiet-end

  quiet_return : Quiet (left (returned ports b mem)) (left (returned [] b mem))
  unfolding returned stored_said
  quiet_return = by l.over (is_storing e.run.job && true)
    where
      d : Stored
      d = stored_of (text_of l)

      by : (o c : Bool) → Quiet
          (left (pick o (said (line_done b) (53 ∷ []) mem) (pick c (stored_by d.code d b mem) (direct_said (direct_of (text_of l)) ports b mem))))
          (left (pick o (said (line_done b) (53 ∷ []) mem) (pick c (stored_by d.code d b mem) (direct_said (direct_of (text_of l)) [] b mem))))
      by true c = quiet_of e mem
      by false true = quiet-stored d.code d
      by false false = quiet-direct (direct_of (text_of l))

  -- a byte that gathers while idle or storing: `free` says that any line may then be begun
  pub quiet-byte : (v : ℕ) → leb l.len 80 ≡ true → ((k : Line) → Clear e.run.job k) →
      Quiet (left (gathering v ports b mem)) (left (gathering v [] b mem))
  unfolding gathering
  quiet-byte v h free = by (eqb v 13)
    where
      by : (c : Bool) → Quiet (left (pick c (returned ports b mem) (said (board e false (gathered v l)) [] mem)))
          (left (pick c (returned [] b mem) (said (board e false (gathered v l)) [] mem)))
      by true = quiet_return
      by false = record { standing = refl; fit = record { short = gathered-short v l h; clear = free (gathered v l) }; deaf = refl }
