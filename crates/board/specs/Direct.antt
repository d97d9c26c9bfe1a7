-- A line outside storing: the table of replies and the effects (01, "Lines", both tables; 02, §3 for e, f and y).
use Rattle.std.specs.Prelude.{ℕ, Bool, true, false, not, ◌&&◌, ◌||◌, List, [], ◌∷◌, eqb, get_or}
use Rattle.count.specs.Pick.{pick}
use Rattle.count.specs.Ranges.{in_port, in_byte, in_zero, nth}
use Rattle.count.specs.Text.{report, two_hex}
use Rattle.count.specs.Axes.{shown_axes, end_to_end}
use Rattle.motion.specs.Axes.{on}
use Rattle.motion.specs.Plan.{asked}
use Rattle.circle.specs.Plan.{plane_of, direction_of}
use Rattle.travel.specs.Plan.{plan_of, circle_of, refusal}
use Rattle.record.specs.Memory.{Memory}
use Rattle.record.specs.Fault.{Asks, asking, just, any, unknown, asks, numbers_reply}
use Rattle.line.specs.Letter.{Letter}
use Rattle.line.specs.Letter as letter
use Rattle.line.specs.Said.{Direct}
use Rattle.engine.specs.declared.Engine.{Engine}
use Rattle.engine.specs.State.{Begun}
use Rattle.engine.specs.State.{with_three, with_plane, with_direction, with_output, axes_of, origin_of, zero_of, started, emptied, storing_of, begin_of, circle_begun}
use Rattle.board.specs.declared.Board.{Board}
use Rattle.count.specs.Chars.{ch}
use Rattle.board.specs.State.{board, no_line, line_done, Said, said}

-- ---- what each line wants: a row for each letter, in the order of 01's first table

-- is it heard while something stands stopped (W), does it need axes (4), what is asked of its shape (5) and of its numbers (7, 3, 1, D),
-- what refuses its plan (9; of a circle 3, 1, D and 9 in this order), and is it S (8, G)
pub record Wants : Type 0 where
  pub heard : Bool
  pub axes : Bool
  pub numbers : Asks
  pub plan : Engine → List ℕ → ℕ
  pub starts : Bool

-- the entries that no record has
abbrev pub none : Asks
none = asking (just 0) any any any

-- 1, 3 and 7 are allowed whatever was set; 8 adds A to none, to x, y and z, or where it is set already, and not after 1 or 3 (02, §7)
abbrev pub axes_allowed : ℕ → ℕ → Bool
axes_allowed axes w = eqb w 1 || eqb w 3 || eqb w 7 || (eqb w 8 && not (eqb axes 1 || eqb axes 3))

abbrev pub axes_value : ℕ → List ℕ → Bool
axes_value axes l = axes_allowed axes (get_or l 0 0)

abbrev pub port : ℕ → List ℕ → Bool
port axes l = in_port (nth l 0)

abbrev pub port_value : ℕ → List ℕ → Bool
port_value axes l = in_zero (nth l 0) && in_byte (nth l 1)

-- a movement, a circle, and what has no plan
abbrev pub moves : Bool → Engine → List ℕ → ℕ
moves absolute e l = refusal (plan_of (asked e.axes e.three e.at e.origin absolute l))

abbrev pub turns : Engine → List ℕ → ℕ
turns e l = refusal (circle_of e.axes e.circling e.at l)

abbrev pub stays : Engine → List ℕ → ℕ
stays e l = ch "0"

-- a row: W, 4, numbers, plan
abbrev pub wanting : Bool → Bool → Asks → (Engine → List ℕ → ℕ) → Wants
wanting heard axes numbers plan = record { heard = heard; axes = axes; numbers = numbers; plan = plan; starts = false }

-- A and M ask what a record's `0` and `m` ask, n and N what its `n`, z, e and f what its own; a circle's numbers but their count are asked
-- with its plan, since its plane and direction come in between
abbrev pub wants : Letter → Wants
wants letter.Axes = wanting false false (asking (just 1) axes_value any any) stays
wants letter.Relative = wanting false true (asks (ch "0")) (moves false)
wants letter.Absolute = wanting false true (asks (ch "m")) (moves true)
wants letter.Origin = wanting false true (asks (ch "n")) stays
wants letter.Zero = wanting false true (asks (ch "n")) stays
wants letter.Three = wanting false true (asks (ch "z")) stays
wants letter.Position = wanting true false none stays
wants letter.Input = wanting true false (asking (just 1) any port any) stays
wants letter.Output = wanting false false (asking (just 2) any port_value any) stays
wants letter.Store = wanting false true none stays
wants letter.Empty = wanting false false none stays
wants letter.Start = record { heard = true; axes = true; numbers = none; plan = stays; starts = true }
wants letter.Plane = wanting false true (asks (ch "e")) stays
wants letter.Direction = wanting false true (asks (ch "f")) stays
wants letter.Circle = wanting false true (asking (just 7) any any any) turns
wants letter.Wrong = wanting false false unknown stays

-- the columns
abbrev pub is_wrong : Letter → Bool
is_wrong k = not (wants k).numbers.known

abbrev pub heard_standing : Letter → Bool
heard_standing k = (wants k).heard

abbrev pub needs_axes : Letter → Bool
needs_axes k = (wants k).axes

abbrev pub count_fits : Letter → ℕ → ℕ → Bool
count_fits k = (wants k).numbers.count

abbrev pub axes_fit : Letter → ℕ → List ℕ → Bool
axes_fit k = (wants k).numbers.values

abbrev pub ranges_fit : Letter → ℕ → List ℕ → Bool
ranges_fit k = (wants k).numbers.ranges

abbrev pub speeds_fit : Letter → ℕ → List ℕ → Bool
speeds_fit k = (wants k).numbers.speeds

abbrev pub plan_reply : Letter → Engine → List ℕ → ℕ
plan_reply k = (wants k).plan

abbrev pub is_start : Letter → Bool
is_start k = (wants k).starts

-- ---- the table of replies: the first row that holds gives the reply

pub record Row : Type 0 where
  pub reply : ℕ
  pub when : Bool

abbrev pub row : ℕ → Bool → Row
row reply when = record { reply = reply; when = when }

unfoldable pub first : List Row → ℕ → ℕ
first [] other = other
first (r ∷ rs) other = pick r.when r.reply (first rs other)

-- 6 is a reply to records alone (see `Storing.antt`)
unfoldable pub reply_of : Engine → Bool → Direct → ℕ
reply_of e standing d =
    first
    (row (ch "5") (is_wrong d.letter)
    ∷ row (ch "W") (standing && not (heard_standing d.letter))
    ∷ row (ch "4") (needs_axes d.letter && eqb e.axes 0)
    ∷ [])
    (numbers_reply (count_fits d.letter e.axes d.count) (axes_fit d.letter e.axes d.words)
    (ranges_fit d.letter e.axes d.words) (speeds_fit d.letter e.axes d.words)
    (first
    (row (plan_reply d.letter e d.words) (not (eqb (plan_reply d.letter e d.words) (ch "0")))
    ∷ row (ch "8") (is_start d.letter && not standing && eqb e.held.records 0)
    ∷ row (ch "G") (is_start d.letter && not standing && not (eqb e.axes e.held.axes))
    ∷ [])
    (ch "0")))

-- ---- the effects of an accepted line: the engine, whether something still stands, and the reply

pub record Effect : Type 0 where
  pub engine : Engine
  pub standing : Bool
  pub reply : List ℕ

abbrev pub effect : Engine → Bool → List ℕ → Effect
effect e s reply = record { engine = e; standing = s; reply = reply }

-- a movement or circle that runs replies nothing yet; one without a pulse replies 0
abbrev pub started_with : Begun → Bool → Effect
started_with b s = effect b.engine s (pick (eqb b.reply 0) [] (b.reply ∷ []))

-- the positions as P sends them: x, y and z, and with four axes a too (02, §7)
abbrev pub positions : Engine → List ℕ
positions e = end_to_end (λ i. report (on i e.at)) (shown_axes (eqb e.axes 15))

-- P: 0 and the positions; b: 0 and the port's byte. S goes on with what stands, else starts the program, and sends no 0 itself.
abbrev pub effect_of : Letter → List ℕ → List ℕ → Engine → Bool → Effect
effect_of letter.Axes l ports e s = effect (axes_of (get_or l 0 0) e) s (ch "0" ∷ [])
effect_of letter.Relative l ports e s = started_with (begin_of false l e) s
effect_of letter.Absolute l ports e s = started_with (begin_of true l e) s
effect_of letter.Origin l ports e s = effect (origin_of (get_or l 0 0) e) s (ch "0" ∷ [])
effect_of letter.Zero l ports e s = effect (zero_of (get_or l 0 0) e) s (ch "0" ∷ [])
effect_of letter.Three l ports e s = effect (with_three e (eqb (get_or l 0 0) 1)) s (ch "0" ∷ [])
effect_of letter.Position l ports e s = effect e s (ch "0" ∷ positions e)
effect_of letter.Input l ports e s = effect e s (ch "0" ∷ two_hex (get_or ports (get_or l 0 0) 0))
effect_of letter.Output l ports e s = effect (with_output e (get_or l 1 0)) s (ch "0" ∷ [])
effect_of letter.Store l ports e s = effect (storing_of e) s (ch "0" ∷ [])
effect_of letter.Empty l ports e s = effect (emptied e) s (ch "0" ∷ [])
effect_of letter.Start l ports e s = pick s (effect e false []) (effect (started e) false [])
effect_of letter.Plane l ports e s = effect (with_plane (plane_of (get_or l 0 0)) e) s (ch "0" ∷ [])
effect_of letter.Direction l ports e s = effect (with_direction (direction_of (get_or l 0 0)) e) s (ch "0" ∷ [])
effect_of letter.Circle l ports e s = started_with (circle_begun l e) s
effect_of letter.Wrong l ports e s = effect e s (ch "5" ∷ [])

-- an accepted line has its effect; the line is empty after every return
abbrev pub accepted_said : Effect → Memory → Said
accepted_said f m = said (board f.engine f.standing no_line) f.reply m

-- a refused one sends its one character and changes nothing but the line
unfoldable pub direct_said : Direct → List ℕ → Board → Memory → Said
direct_said d ports b m =
    pick (eqb (reply_of b.engine b.standing d) (ch "0"))
    (accepted_said (effect_of d.letter d.words ports b.engine b.standing) m)
    (said (line_done b) (reply_of b.engine b.standing d ∷ []) m)
