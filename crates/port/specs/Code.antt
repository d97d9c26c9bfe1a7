-- A state of plain numbers and the board that it stands for. Reading and writing keep each other's word: `read-written`, `written_read`
-- and `stays-known` in proofs/laws/Code.
use Rattle.std.specs.Prelude.{ℕ, ◌/◌, ◌%◌, Bool, true, false, ◌&&◌, List, [], ◌∷◌, leb, eqb, replicate}
use Rattle.count.specs.Sizes.{line_bytes}
use Rattle.count.specs.Pick.{pick}
use Rattle.motion.specs.declared.Counters.{Counters}
use Rattle.motion.specs.declared.Move.{Move}
use Rattle.circle.specs.declared.Arc.{Arc}
use Rattle.circle.specs.declared.Circling.{Circling}
use Rattle.circle.specs.declared.Direction.{Direction}
use Rattle.circle.specs.declared.Direction.TheVariants.{Clockwise, Counter}
use Rattle.circle.specs.declared.Pair.{Pair}
use Rattle.circle.specs.Plan.{plane_of, direction_of}
use Rattle.circle.specs.Rule.{plane_number}
use Rattle.program.specs.declared.Loops.{Loops}
use Rattle.travel.specs.declared.Travel.{Travel}
use Rattle.travel.specs.declared.Travel.TheVariants as travel
use Rattle.engine.specs.declared.Engine.{Engine}
use Rattle.engine.specs.declared.Job.{Job}
use Rattle.engine.specs.declared.Job.TheVariants as job
use Rattle.board.specs.declared.Board.{Board}
use Rattle.port.specs.declared.Round.{Round}
use Rattle.port.specs.declared.State.{State}

-- ---- codes

abbrev pub flag : Bool → ℕ
flag true = 1
flag false = 0

-- a plane is its number on the line that sets it; a direction, which is 0 or -1 there, is 0 or 1
abbrev pub direction_code : Direction → ℕ
direction_code Clockwise = 0
direction_code Counter = 1

-- input ports: the first is the lowest byte of a word
abbrev pub ports_of : ℕ → List ℕ
ports_of w = w % 256 ∷ w / 256 % 256 ∷ w / 65536 % 256 ∷ w / 16777216 % 256 ∷ []

-- ---- what moves: `kind` 0 is the straight movement, 1 the arc

abbrev pub circling_of : ℕ → ℕ → Circling
circling_of plane direction = record { plane = plane_of plane; direction = direction_of direction }

abbrev pub arc_of : Round → Arc
arc_of r =
    record {
      circling = circling_of r.plane r.direction;
      centre = r.centre;
      start = r.start;
      speed = r.speed;
      length = r.length;
      made = r.made;
    }

abbrev pub round_of : Arc → Round
round_of a =
    record {
      centre = a.centre;
      start = a.start;
      length = a.length;
      made = a.made;
      speed = a.speed;
      plane = plane_number a.circling.plane;
      direction = direction_code a.circling.direction;
    }

unfoldable pub travel_of : ℕ → Move → Round → Travel
travel_of kind straight round = pick (eqb kind 0) (travel.Straight straight) (travel.Round (arc_of round))

-- written over what stood there
abbrev pub straight_in : Travel → Move → Move
straight_in (travel.Straight m) old = m
straight_in (travel.Round a) old = old

abbrev pub round_in : Travel → Round → Round
round_in (travel.Straight m) old = old
round_in (travel.Round a) old = round_of a

abbrev pub kind_in : Travel → ℕ
kind_in (travel.Straight m) = 0
kind_in (travel.Round a) = 1

-- ---- the job

abbrev pub code_of : Job → ℕ
code_of job.Idle = 0
code_of job.Storing = 1
code_of (job.Direct t) = 2
code_of job.Ready = 3
code_of (job.Moving t) = 4
code_of (job.Delay n) = 5
code_of (job.Wait c t) = 6

unfoldable pub job_of : ℕ → Travel → ℕ → ℕ → Job
job_of code t number byte =
    pick (eqb code 0) job.Idle
    (pick (eqb code 1) job.Storing
    (pick (eqb code 2) (job.Direct t)
    (pick (eqb code 3) job.Ready
    (pick (eqb code 4) (job.Moving t)
    (pick (eqb code 5) (job.Delay number) (job.Wait byte number))))))

-- what a job moves, written over what stood there
abbrev pub moved_by : {A : Type 0} → (Travel → A) → A → Job → A
moved_by f old job.Idle = old
moved_by f old job.Storing = old
moved_by f old (job.Direct t) = f t
moved_by f old job.Ready = old
moved_by f old (job.Moving t) = f t
moved_by f old (job.Delay n) = old
moved_by f old (job.Wait c t) = old

abbrev pub straight_over : Job → Move → Move
straight_over j old = moved_by (λ t. straight_in t old) old j

abbrev pub round_over : Job → Round → Round
round_over j old = moved_by (λ t. round_in t old) old j

abbrev pub kind_over : Job → ℕ → ℕ
kind_over j old = moved_by kind_in old j

abbrev pub byte_over : Job → ℕ → ℕ
byte_over job.Idle old = old
byte_over job.Storing old = old
byte_over (job.Direct t) old = old
byte_over job.Ready old = old
byte_over (job.Moving t) old = old
byte_over (job.Delay n) old = old
byte_over (job.Wait c t) old = c

abbrev pub number_over : Job → ℕ → ℕ
number_over job.Idle old = old
number_over job.Storing old = old
number_over (job.Direct t) old = old
number_over job.Ready old = old
number_over (job.Moving t) old = old
number_over (job.Delay n) old = n
number_over (job.Wait c t) old = t

-- ---- the board

-- a state that a board has: each code and flag is one of those above
unfoldable pub known : State → Bool
known s =
    leb s.job 6 && leb s.kind 1
    && (leb s.over 1 && leb s.standing 1 && leb s.three 1)
    && (leb s.plane 2 && leb s.direction 1 && leb s.round.plane 2 && leb s.round.direction 1)

abbrev pub engine_of : State → Engine
engine_of s =
    record {
      axes = s.axes;
      at = s.at;
      origin = s.origin;
      three = eqb s.three 1;
      circling = circling_of s.plane s.direction;
      output = s.output;
      held = s.held;
      run =
          record {
            job = job_of s.job (travel_of s.kind s.straight s.round) s.number s.byte;
            place = s.place;
            loops = s.loops;
          };
    }

-- the board of a state
abbrev pub board_of : State → Board
board_of s =
    record {
      engine = engine_of s;
      standing = eqb s.standing 1;
      line = record { bytes = s.line; len = s.len; over = eqb s.over 1 };
    }

-- an engine, a line and whether it stands stopped, written over a state: what the job has no use for stays
abbrev pub coded_over : State → Engine → List ℕ → ℕ → ℕ → ℕ → State
coded_over s e line len over standing =
    let j : Job = e.run.job in
    record {
      at = e.at;
      origin = e.origin;
      straight = straight_over j s.straight;
      round = round_over j s.round;
      held = e.held;
      place = e.run.place;
      number = number_over j s.number;
      loops = e.run.loops;
      line = line;
      len = len;
      over = over;
      standing = standing;
      axes = e.axes;
      three = flag e.three;
      plane = plane_number e.circling.plane;
      direction = direction_code e.circling.direction;
      output = e.output;
      job = code_of j;
      kind = kind_over j s.kind;
      byte = byte_over j s.byte;
    }

-- a board written over a state
abbrev pub over : State → Board → State
over s b = coded_over s b.engine b.line.bytes b.line.len (flag b.line.over) (flag b.standing)

-- every number 0
abbrev pub no_point : Counters
no_point = record { x = 0; y = 0; z = 0; a = 0 }

abbrev pub no_move : Counters → Move
no_move none = record { start = none; first = none; second = none; third = none; speed1 = 0; speed2 = 0; speed3 = 0; phase = 0; made = 0 }

abbrev pub no_round : Round
no_round =
    let none : Pair = record { first = 0; second = 0 } in
    record { centre = none; start = none; length = 0; made = 0; speed = 0; plane = 0; direction = 0 }

abbrev pub no_loops : Loops
no_loops = record { at = replicate 7 (record { place = 0; left = 0 }); depth = 0 }

abbrev pub blank : State
blank =
    record {
      at = no_point;
      origin = no_point;
      straight = no_move no_point;
      round = no_round;
      held = record { used = 0; records = 0; axes = 0 };
      place = 0;
      number = 0;
      loops = no_loops;
      line = replicate line_bytes 0;
      len = 0;
      over = 0;
      standing = 0;
      axes = 0;
      three = 0;
      plane = 0;
      direction = 0;
      output = 0;
      job = 0;
      kind = 0;
      byte = 0;
    }
