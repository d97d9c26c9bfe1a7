-- The calls for C: 101 and 102 as on the board; 103 for a state that no board has, in the place where the board's own 103 stands; else the
-- board's own call on the board of the state, and the state with what the call changed written over it.
use Rattle.std.specs.Prelude.{ℕ, Bool, false, not, ◌&&◌, ◌||◌, List, ltb, eqb, length}
use Rattle.count.specs.Sizes.{store_bytes, reply_bytes}
use Rattle.count.specs.Pick.{pick}
use Rattle.motion.specs.declared.Sign.TheVariants.{Rest}
use Rattle.motion.specs.declared.Signs.{Signs}
use Rattle.motion.specs.Phase.{sign_value}
use Rattle.record.specs.Memory.{Memory, store_fits}
use Rattle.record.specs.Listing.{Telling}
use Rattle.engine.specs.declared.Answer.{Answer}
use Rattle.engine.specs.declared.Answer.TheVariants as answer
use Rattle.engine.specs.State.{paper}
use Rattle.engine.specs.Tick.{runs_of}
use Rattle.board.specs.declared.Board.{Board}
use Rattle.board.specs.Calls.{Ticked}
use Rattle.board.specs.State.{sound}
use Rattle.board.specs.Calls.{Lent, Outcome, receiving, clocking, listing, fresh, point}
use Rattle.port.specs.declared.State.{State}
use Rattle.port.specs.declared.Heard.{Heard}
use Rattle.port.specs.declared.Clocked.{Clocked}
use Rattle.port.specs.declared.Written.{Written}
use Rattle.port.specs.declared.Shown.{Shown}
use Rattle.port.specs.Code.{flag, known, board_of, over, blank}

abbrev pub fresh_state : State
fresh_state = over blank fresh

-- ---- a clock call: its kind as on paper, which way each axis goes, and a speed or a byte

abbrev pub kind_of : Answer → ℕ
kind_of a = (paper a).number

abbrev pub value_of : Answer → ℕ
value_of (answer.Pulse s v) = v
value_of answer.Pause = 0
value_of (answer.Send b) = b
value_of answer.Done = 0
value_of answer.Nothing = 0

abbrev pub at_rest : Signs
at_rest = record { x = Rest; y = Rest; z = Rest; a = Rest }

abbrev pub signs_of : Answer → Signs
signs_of (answer.Pulse s v) = s
signs_of answer.Pause = at_rest
signs_of (answer.Send b) = at_rest
signs_of answer.Done = at_rest
signs_of answer.Nothing = at_rest

abbrev pub clocked_by : ℕ → State → Answer → Clocked
clocked_by n s a =
    let g : Signs = signs_of a in
    record {
      state = s;
      kind = kind_of a;
      x = sign_value g.x;
      y = sign_value g.y;
      z = sign_value g.z;
      a = sign_value g.a;
      value = value_of a;
      refusal = n;
    }

abbrev pub ticked_state : State → Ticked → Clocked
ticked_state s t = clocked_by t.refusal (over s t.board) t.answer

unfoldable pub clocking_state : State → Memory → Clocked
clocking_state s m =
    pick (not (store_fits m)) (clocked_by 102 s answer.Nothing)
    (pick (not (known s)) (clocked_by 103 s answer.Nothing) (ticked_state s (clocking (board_of s) m)))

-- ---- a byte received: the result, and what was lent afterwards

pub record Hearing : Type 0 where
  pub result : Heard
  pub after : Lent

abbrev pub heard : Heard → Lent → Hearing
heard r l = record { result = r; after = l }

abbrev pub heard_by : ℕ → ℕ → State → Heard
heard_by n len s = record { state = s; len = len; refusal = n }

abbrev pub heard_state : State → Outcome → Hearing
heard_state s o = heard (heard_by o.result.refusal o.result.len (over s o.result.board)) o.after

unfoldable pub hearing_state : ℕ → List ℕ → State → Lent → Hearing
hearing_state byte ports s l =
    pick (ltb (length l.reply) reply_bytes) (heard (heard_by 101 0 s) l)
    (pick (not (store_fits l.memory)) (heard (heard_by 102 0 s) l)
    (pick (not (known s)) (heard (heard_by 103 0 s) l) (heard_state s (receiving byte ports (board_of s) l))))

-- ---- the lister: the result, and the text buffer afterwards

pub record Listing : Type 0 where
  pub result : Written
  pub text : List ℕ

abbrev pub listed : Written → List ℕ → Listing
listed r text = record { result = r; text = text }

abbrev pub written_by : ℕ → ℕ → State → Written
written_by n len s = record { state = s; len = len; refusal = n }

abbrev pub listed_state : State → Telling → Listing
listed_state s t = listed (written_by t.listed.refusal t.listed.len s) t.text

unfoldable pub listing_state : State → List ℕ → List ℕ → Listing
listing_state s store text =
    pick (not (eqb (length store) store_bytes)) (listed (written_by 102 0 s) text)
    (pick (not (known s)) (listed (written_by 103 0 s) text) (listed_state s (listing (board_of s) store text)))

-- ---- what a host shows: positions and origins as numbers, whether the next clock call has something to do, and 103 for a state that the
-- calls refuse

abbrev pub shown_by : ℕ → Bool → Board → State → Shown
shown_by n runs b s = record { state = s; position = point b.engine.at; origin = point b.engine.origin; runs = flag runs; refusal = n }

unfoldable pub showing : State → Shown
showing s =
    let b : Board = board_of s in
    pick (not (known s) || not (sound b)) (shown_by 103 false b s) (shown_by 0 (runs_of b.engine && not b.standing) b s)
