-- What `walk` prints (01, "walk"; 02, §7 for the A axis): one space parts fields, lines end in line feed.
use Rattle.std.specs.Prelude.{ℕ, Bool, List, [], ◌∷◌, ◌++◌}
use Rattle.count.specs.Chars.{ch, codes}
use Rattle.count.specs.Numbers.{value}
use Rattle.count.specs.declared.Axis.TheVariants.{A}
use Rattle.count.specs.Axes.{has, shown_axes, end_to_end}
use Rattle.count.specs.Text.{digits, shown}
use Rattle.motion.specs.declared.Signs.{Signs}
use Rattle.motion.specs.declared.Counters.{Counters}
use Rattle.motion.specs.Axes.{on, shows}
use Rattle.motion.specs.Phase.{sign_byte}
use Rattle.engine.specs.declared.Engine.{Engine}
use Rattle.engine.specs.declared.Answer.{Answer}
use Rattle.engine.specs.declared.Answer.TheVariants as answer
use Rattle.board.specs.declared.Board.{Board}

-- line 1: `walk`
abbrev pub head_text : List ℕ
head_text = codes "walk\n"

-- `R` and a whole reply or sent character; no reply prints nothing
abbrev pub reply_text : List ℕ → List ℕ
reply_text [] = []
reply_text (c ∷ l) = ch "R" ∷ ch " " ∷ c ∷ l ++ ch "\n" ∷ []

-- `P`, then the signs of x, y, z, of a too while A is set (02, §7), and the speed
unfoldable pub pulse_text : Bool → Signs → ℕ → List ℕ
pulse_text turns s v =
    ch "P" ∷ ch " " ∷ end_to_end (λ i. sign_byte (shows i s) ∷ []) (shown_axes turns) ++ (ch " " ∷ digits v ++ ch "\n" ∷ [])

-- pauses, records done and nothing print nothing
abbrev pub answer_text : Bool → Answer → List ℕ
answer_text turns (answer.Pulse s v) = pulse_text turns s v
answer_text turns answer.Pause = []
answer_text turns (answer.Send b) = reply_text (b ∷ [])
answer_text turns answer.Done = []
answer_text turns answer.Nothing = []

-- `L` and 100000
abbrev pub limit_text : List ℕ
limit_text = codes "L 100000\n"

-- last `E` and the positions of x, y, z, and of a while A is set
unfoldable pub positions_text : Bool → Counters → List ℕ
positions_text turns c = ch "E" ∷ end_to_end (λ i. ch " " ∷ shown (value (on i c))) (shown_axes turns) ++ (ch "\n" ∷ [])

-- whether A is set
abbrev pub turning : Engine → Bool
turning e = has e.axes A

abbrev pub end_text : Board → List ℕ
end_text b = positions_text (turning b.engine) b.engine.at
