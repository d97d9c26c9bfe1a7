-- 02 §3, of any machine: circles. Each pulse of an arc moves one axis of its plane by one, by the rule; the arc length counts these pulses;
-- and an arc that 103 lets pass comes to no dead end.
use Rattle.std.specs.Prelude.{ℕ, zero, suc, ◌+◌, ◌≤◌, ◌<◌, ◌≡◌, true, false, List, [], ◌∷◌, ℤ, pos, negsuc, get_or, replicate}
use Rattle.count.specs.Sizes.{reply_bytes}
use Rattle.count.specs.Chars.{ch, codes}
use Rattle.count.specs.Paper.{Paper, says}
use Rattle.motion.specs.declared.Signs.{Signs}
use Rattle.motion.specs.Phase.{moved_all}
use Rattle.circle.specs.declared.Pair.{Pair}
use Rattle.circle.specs.declared.Ways.{Ways}
use Rattle.circle.specs.declared.Arc.{Arc}
use Rattle.circle.specs.declared.Circling.{Circling}
use Rattle.circle.specs.Rule.{on_plane, on_axes, ways_at, rests, move_of}
use Rattle.circle.specs.Arc.{start_value, with_made, arc_left}
use Rattle.circle.specs.Plan.{plane_of, direction_of, circling, at_first, start_of, centre_of, arc_from}
use Rattle.travel.specs.declared.Travel.TheVariants as travel
use Rattle.line.specs.Said.{Direct}
use Rattle.line.specs.Lines.{letter_paper, direct_of}
use Rattle.record.specs.Memory.{Memory, RightMemory}
use Rattle.engine.specs.declared.Answer.TheVariants as answer
use Rattle.engine.specs.declared.Job.{Job}
use Rattle.engine.specs.declared.Job.TheVariants as job
use Rattle.engine.specs.State.{paper}
use Rattle.board.specs.declared.Board.{Board}
use Rattle.board.specs.State.{text_of, sound}
use Rattle.board.specs.Receive.{reset_code}
use Rattle.board.specs.Calls.{Lent, lent}
use Rattle.course.specs.Walk.{no_ports, no_memory}
use Rattle.promise.specs.Machine.{Machine, Clocked}
use Rattle.promise.specs.Demands.{idles, replied, hears, board_then, ticks}
use Rattle.promise.specs.Twelve.{done, send0}

-- ---- an arc under way

-- a line asked for it, or a program
pub data Asker : Type 0 where
  line : Asker
  program : Asker

abbrev pub turning : Asker → Arc → Job
turning line a = job.Direct (travel.Round a)
turning program a = job.Moving (travel.Round a)

-- in a state that 103 lets pass, where nothing stands
pub record Turns (w : Asker) (a : Arc) (b : Board) : Type 0 where
  pub sound : sound b ≡ true
  pub standing : b.standing ≡ false
  pub job : b.engine.run.job ≡ turning w a

-- ---- one pulse

-- the point on the axes of the arc's plane, and the rule's move there: from the centre, and measured by the value at the start
abbrev pub point_of : Arc → Board → Pair
point_of a b = on_plane a.circling.plane b.engine.at

abbrev pub move_at : Arc → Board → Ways
move_at a b = move_of (start_value a) a.centre (point_of a b) (ways_at a.circling.direction a.centre (point_of a b))

-- on the axes: the others rest, and A always
abbrev pub signs_at : Arc → Board → Signs
signs_at a b = on_axes a.circling.plane (move_at a b)

-- exactly one axis of the plane goes
pub data OneGoes (w : Ways) : Type 0 where
  first : rests w.first ≡ false → rests w.second ≡ true → OneGoes w
  second : rests w.first ≡ true → rests w.second ≡ false → OneGoes w

pub record Pulsed (w : Asker) (a : Arc) (b b' : Board) (c : Clocked) : Type 0 where
  -- it is answered with its signs and the arc's speed
  pub answer : c.answer ≡ paper (answer.Pulse (signs_at a b) a.speed)
  pub refusal : c.refusal ≡ 0
  -- it moves one axis of the plane, by one
  pub one : OneGoes (move_at a b)
  pub there : b'.engine.at ≡ moved_all b.engine.at (signs_at a b)
  -- of the same arc one more is made, and 103 lets it pass
  pub next : Turns w (with_made a (a.made + 1)) b'

-- ---- lines

abbrev pub line_of : Board → Direct
line_of b = direct_of (text_of b.line)

-- a line with this letter on an idle board; setting axes has the letter `0`
pub record Typed (k : ℕ) (b : Board) : Type 0 where
  pub idle : idles b ≡ true
  pub letter : (letter_paper (line_of b).letter).number ≡ k

-- the plane and the direction
abbrev pub circling_of : Board → Circling
circling_of b = b.engine.circling

-- the arc that a `y` asks for: its plane and direction are those set, its centre is the position minus the start, and nothing of it is made
abbrev pub arc_of : Board → Arc
arc_of b =
    let l = (line_of b).words in
    arc_from (circling_of b) (centre_of (on_plane (circling_of b).plane b.engine.at) (start_of l)) (start_of l) l

-- a pulse with the signs of x, y and z at speed 600; A rests
abbrev pub shows : ℤ → ℤ → ℤ → Paper
shows x y z = says 1 (x ∷ y ∷ z ∷ pos 0 ∷ pos 600 ∷ [])

module _ (m : Machine) where
  -- bytes one after the other with input ports 0, the memory handed on, and the answers of so many clock calls
  unfoldable pub typed : List ℕ → m.State × Memory → m.State × Memory
  typed [] p = p
  typed (v ∷ t) p =
      let h = m.hear v no_ports (lent (replicate reply_bytes 0) p.1) p.0 in
      typed t (h.0, h.1.after.memory)

  unfoldable pub answers_of : ℕ → m.State × Memory → List Paper
  answers_of zero p = []
  answers_of (suc k) p = (m.tick p.1 p.0).1.answer ∷ answers_of k ((m.tick p.1 p.0).0, p.1)

  -- from the first state on
  abbrev pub from : List ℕ → m.State × Memory
  from t = typed t (m.first, no_memory)

  pub record CirclesRequested : Type 0 where
    -- a clock call with a pulse left makes it
    pub pulse : (w : Asker) (a : Arc) (mem : Memory) (s : m.State) → Turns w a (m.board s) → RightMemory mem → 0 < arc_left a
        → Pulsed w a (m.board s) (m.board (m.tick mem s).0) (m.tick mem s).1
    -- NO DEAD END: after n clock calls, at most as many as pulses are left, n more are made
    pub goes_on : (w : Asker) (a : Arc) (mem : Memory) (s : m.State) → Turns w a (m.board s) → RightMemory mem → (n : ℕ) → n ≤ arc_left a
        → Turns w (with_made a (a.made + n)) (m.board (ticks m n mem s))
    -- and the call after the last sends 0
    pub ends : (a : Arc) (mem : Memory) (s : m.State) → Turns line a (m.board s) → RightMemory mem → arc_left a ≡ 0
        → ((m.tick mem s).1.answer ≡ paper (answer.Send (ch "0"))) × (idles (m.board (m.tick mem s).0) ≡ true)
    -- a `y` on an idle board that is not replied to begins its arc: as many pulses are left as its arc length says
    pub begins : (ports : List ℕ) (l : Lent) (s : m.State) → Typed (ch "y") (m.board s)
        → (hears m (ch "\r") ports l s).refusal ≡ 0 → (hears m (ch "\r") ports l s).len ≡ 0
        → Turns line (arc_of (m.board s)) (board_then m (ch "\r") ports l s) × (arc_left (arc_of (m.board s)) ≡ get_or (line_of (m.board s)).words 0 0)
    -- `e` sets the plane, and `f` the direction
    pub plane : (ports : List ℕ) (l : Lent) (s : m.State) → Typed (ch "e") (m.board s)
        → (hears m (ch "\r") ports l s).refusal ≡ 0 → replied (hears m (ch "\r") ports l s) ≡ ch "0" ∷ []
        → circling_of (board_then m (ch "\r") ports l s) ≡ circling (plane_of (get_or (line_of (m.board s)).words 0 0)) (circling_of (m.board s)).direction
    pub direction : (ports : List ℕ) (l : Lent) (s : m.State) → Typed (ch "f") (m.board s)
        → (hears m (ch "\r") ports l s).refusal ≡ 0 → replied (hears m (ch "\r") ports l s) ≡ ch "0" ∷ []
        → circling_of (board_then m (ch "\r") ports l s) ≡ circling (circling_of (m.board s)).plane (direction_of (get_or (line_of (m.board s)).words 0 0))
    -- setting axes 1, 3 or 7, or reset, gives plane 0, clockwise; 8 keeps them (see `Turntable.antt`)
    pub axes : (ports : List ℕ) (l : Lent) (s : m.State) → Typed (ch "0") (m.board s) → (get_or (line_of (m.board s)).words 0 0 ≡ 8 → ⊥)
        → (hears m (ch "\r") ports l s).refusal ≡ 0 → replied (hears m (ch "\r") ports l s) ≡ ch "0" ∷ []
        → circling_of (board_then m (ch "\r") ports l s) ≡ at_first
    pub reset : (ports : List ℕ) (l : Lent) (s : m.State) → (hears m reset_code ports l s).refusal ≡ 0
        → circling_of (board_then m reset_code ports l s) ≡ at_first
    -- what a program has set stays after it: neither the call that ends a run, nor a break, nor any other byte but a return and reset changes it
    pub ended : (mem : Memory) (s : m.State) → idles (m.board (m.tick mem s).0) ≡ true
        → circling_of (m.board (m.tick mem s).0) ≡ circling_of (m.board s)
    pub stays : (v : ℕ) (ports : List ℕ) (l : Lent) (s : m.State) → (v ≡ ch "\r" → ⊥) → (v ≡ reset_code → ⊥)
        → circling_of (board_then m v ports l s) ≡ circling_of (m.board s)
    -- from (2,0) counter-clockwise, four pulses are Y+, X-, Y+, X-; then 0
    pub direct-example : answers_of 5 (from (codes "@03\r@0f-1\r@0y4,600,0,2,0,-1,1\r"))
        ≡ shows (pos 0) (pos 1) (pos 0) ∷ shows (negsuc 0) (pos 0) (pos 0) ∷ shows (pos 0) (pos 1) (pos 0) ∷ shows (negsuc 0) (pos 0) (pos 0) ∷ send0 ∷ []
    -- as a program in plane 1, x and z: Z+, X-, Z+, X-; then 0
    pub stored-example : answers_of 7 (from (codes "@07\r@0i\re1\rf-1\ry4,600,0,2,0,-1,1\r9\r@0S\r"))
        ≡ done ∷ done ∷ shows (pos 0) (pos 0) (pos 1) ∷ shows (negsuc 0) (pos 0) (pos 0) ∷ shows (pos 0) (pos 0) (pos 1) ∷ shows (negsuc 0) (pos 0) (pos 0)
        ∷ send0 ∷ []
