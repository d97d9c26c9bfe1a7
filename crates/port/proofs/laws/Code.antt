-- A state and its board keep each other's word: a board written over a state is read back, a state's own board written over it changes
-- nothing, and what is written has codes that are known. Assumes nothing.
use Prim.Native.Nat.{ℕ}
use mathlib.Core.Path.{◌≡◌, refl, sym, ◌∙◌}
use mathlib.Core.Bool.{true, ◌&&◌}
use lib.Dec.{leb}
use Rattle.count.proofs.laws.Truth.{and_left, and_right, both}
use Rattle.motion.specs.declared.Counters.{Counters}
use Rattle.motion.specs.declared.Move.{Move}
use Rattle.travel.specs.declared.Travel.{Travel}
use Rattle.travel.specs.declared.Travel.TheVariants as travel
use Rattle.engine.specs.declared.Job.{Job}
use Rattle.engine.specs.declared.Job.TheVariants as job
use Rattle.engine.specs.State.{with_at, with_run, running}
use Rattle.board.specs.declared.Board.{Board}
use Rattle.board.specs.State.{board}
use Rattle.port.specs.declared.Round.{Round}
use Rattle.port.specs.declared.State.{State}
use Rattle.port.specs.Code.{travel_of, straight_in, round_in, kind_in, straight_over, round_over, kind_over, code_of, job_of, byte_over, number_over, known, engine_of, board_of, over, blank}
use Rattle.port.specs.work.Work.{moved}
use Rattle.port.proofs.laws.Codes.{Each, up_to, flag-read, flag-written, flag-known, plane-written, plane-known, direction-written, direction-known, circling-read, arc-read, arc-written}

-- ---- what known codes are

pub record Known (s : State) : Type 0 where
  pub job : leb s.job 6 ≡ true
  pub kind : leb s.kind 1 ≡ true
  pub over : leb s.over 1 ≡ true
  pub standing : leb s.standing 1 ≡ true
  pub three : leb s.three 1 ≡ true
  pub plane : leb s.plane 2 ≡ true
  pub direction : leb s.direction 1 ≡ true
  pub round-plane : leb s.round.plane 2 ≡ true
  pub round-direction : leb s.round.direction 1 ≡ true

pub codes : (s : State) → known s ≡ true → Known s
unfolding known
codes s h =
    let j = leb s.job 6 in
    let k = leb s.kind 1 in
    let o = leb s.over 1 in
    let t = leb s.standing 1 in
    let n = leb s.three 1 in
    let p = leb s.plane 2 in
    let d = leb s.direction 1 in
    let q = leb s.round.plane 2 in
    let r = leb s.round.direction 1 in
    let f = and_left (j && k && (o && t && n)) (p && d && q && r) h in
    let c = and_right (j && k && (o && t && n)) (p && d && q && r) h in
    let jk = and_left (j && k) (o && t && n) f in
    let otn = and_right (j && k) (o && t && n) f in
    let ot = and_left (o && t) n otn in
    let pdq = and_left (p && d && q) r c in
    let pd = and_left (p && d) q pdq in
    record {
      job = and_left j k jk;
      kind = and_right j k jk;
      over = and_left o t ot;
      standing = and_right o t ot;
      three = and_right (o && t) n otn;
      plane = and_left p d pd;
      direction = and_right p d pd;
      round-plane = and_right (p && d) q pdq;
      round-direction = and_right (p && d && q) r c;
    }

pub coded : (s : State) → Known s → known s ≡ true
unfolding known
coded s k =
    both (both (both k.job k.kind) (both (both k.over k.standing) k.three))
    (both (both (both k.plane k.direction) k.round-plane) k.round-direction)

-- ---- a board written over a state is read back

travel-read : (t : Travel) (m : Move) (r : Round) → travel_of (kind_in t) (straight_in t m) (round_in t r) ≡ t
unfolding travel_of
travel-read (travel.Straight n) m r = refl
travel-read (travel.Round a) m r = rw (arc-read a) refl

job_read : (j : Job) (k : ℕ) (m : Move) (r : Round) (n c : ℕ)
    → job_of (code_of j) (travel_of (kind_over j k) (straight_over j m) (round_over j r)) (number_over j n) (byte_over j c) ≡ j
unfolding job_of
job_read job.Idle k m r n c = refl
job_read job.Storing k m r n c = refl
job_read (job.Direct t) k m r n c = rw (travel-read t m r) refl
job_read job.Ready k m r n c = refl
job_read (job.Moving t) k m r n c = rw (travel-read t m r) refl
job_read (job.Delay q) k m r n c = refl
job_read (job.Wait b q) k m r n c = refl

pub read-written : (s : State) (b : Board) → board_of (over s b) ≡ b
read-written s b =
    rw (job_read b.engine.run.job s.kind s.straight s.round s.number s.byte, circling-read b.engine.circling, flag-read b.engine.three, flag-read b.standing, flag-read b.line.over)
    refl

-- ---- a state's own board written over it changes nothing

-- what a job writes over a state: its own code, a movement and an arc, and the rest as it stood
pub record Writes (s : State) (m : Move) (r : Round) (x : Job) : Type 0 where
  pub code : code_of x ≡ s.job
  pub straight : straight_over x s.straight ≡ m
  pub round : round_over x s.round ≡ r
  pub kind : kind_over x s.kind ≡ s.kind
  pub number : number_over x s.number ≡ s.number
  pub byte : byte_over x s.byte ≡ s.byte

pub written-by : (s : State) (m : Move) (r : Round) (x : Job) (at : Counters) → known s ≡ true → Writes s m r x
    → over s (board (with_run (with_at (engine_of s) at) (running x s.place s.loops)) (board_of s).standing (board_of s).line) ≡ moved s at m r
written-by s m r x at h w =
    let k = codes s h in
    rw (w.code, w.straight, w.round, w.kind, w.number, w.byte, flag-written s.three k.three, flag-written s.standing k.standing, flag-written s.over k.over, plane-written s.plane k.plane, direction-written s.direction k.direction)
    refl

pub job-writes : (s : State) (m : Move) (r : Round) (x : Job) (n : ℕ) → code_of x ≡ n → straight_over x s.straight ≡ m → round_over x s.round ≡ r
    → kind_over x s.kind ≡ s.kind → number_over x s.number ≡ s.number → byte_over x s.byte ≡ s.byte → s.job ≡ n → Writes s m r x
job-writes s m r x n c i o k u y e = record { code = c ∙ sym e; straight = i; round = o; kind = k; number = u; byte = y }

abbrev pub travel_in : State → Travel
travel_in s = travel_of s.kind s.straight s.round

module _ (s : State) (h : known s ≡ true) where
  k : Known s
  k = codes s h

  abbrev Same : Job → Type 0
  Same x = Writes s s.straight s.round x

  -- each of the seven jobs of a state writes it again
  each_again : straight_in (travel_in s) s.straight ≡ s.straight → round_in (travel_in s) s.round ≡ s.round → kind_in (travel_in s) ≡ s.kind
      → Each 6 (λ j. s.job ≡ j → Same (job_of j (travel_in s) s.number s.byte))
  unfolding job_of
  each_again i o t =
      let w = job-writes s s.straight s.round in (
        (
          (
            (
              ((w job.Idle 0 refl refl refl refl refl refl, w job.Storing 1 refl refl refl refl refl refl), w (job.Direct (travel_in s)) 2 refl i o t refl refl),
              w job.Ready 3 refl refl refl refl refl refl,
            ),
            w (job.Moving (travel_in s)) 4 refl i o t refl refl,
          ),
          w (job.Delay s.number) 5 refl refl refl refl refl refl,
        ),
        w (job.Wait s.byte s.number) 6 refl refl refl refl refl refl,
      )

  -- what moves is written again
  abbrev Moves : ℕ → Type 0
  Moves n =
      (straight_in (travel_of n s.straight s.round) s.straight ≡ s.straight)
      × (round_in (travel_of n s.straight s.round) s.round ≡ s.round)
      × (kind_in (travel_of n s.straight s.round) ≡ n)

  moves-again : Moves s.kind
  unfolding travel_of
  moves-again = up_to Moves 1 ((refl, refl, refl), (refl, arc-written s.round k.round-plane k.round-direction, refl)) s.kind k.kind

  again : Same (job_of s.job (travel_in s) s.number s.byte)
  again =
      let w = moves-again in
      up_to (λ j. s.job ≡ j → Same (job_of j (travel_in s) s.number s.byte)) 6 (each_again w.0 w.1 w.2) s.job k.job refl

  pub written_read : over s (board_of s) ≡ s
  written_read = written-by s s.straight s.round (job_of s.job (travel_in s) s.number s.byte) s.at h again

-- ---- what is written has known codes

job-known : (j : Job) → leb (code_of j) 6 ≡ true
job-known job.Idle = refl
job-known job.Storing = refl
job-known (job.Direct t) = refl
job-known job.Ready = refl
job-known (job.Moving t) = refl
job-known (job.Delay n) = refl
job-known (job.Wait c t) = refl

-- of what moves, or of what stood there
abbrev GoingKnown : ℕ → Round → Type 0
GoingKnown k r = (leb k 1 ≡ true) × (leb r.plane 2 ≡ true) × (leb r.direction 1 ≡ true)

travel-known : (t : Travel) (k : ℕ) (r : Round) → GoingKnown k r → GoingKnown (kind_in t) (round_in t r)
travel-known (travel.Straight m) k r g = (refl, g.1, g.2)
travel-known (travel.Round a) k r g = (refl, plane-known a.circling.plane, direction-known a.circling.direction)

going-known : (j : Job) (k : ℕ) (r : Round) → GoingKnown k r → GoingKnown (kind_over j k) (round_over j r)
going-known job.Idle k r g = g
going-known job.Storing k r g = g
going-known (job.Direct t) k r g = travel-known t k r g
going-known job.Ready k r g = g
going-known (job.Moving t) k r g = travel-known t k r g
going-known (job.Delay n) k r g = g
going-known (job.Wait c t) k r g = g

pub stays-known : (s : State) (b : Board) → known s ≡ true → known (over s b) ≡ true
stays-known s b h =
    let k = codes s h in
    let e = b.engine in
    let g = going-known e.run.job s.kind s.round (k.kind, k.round-plane, k.round-direction) in
    coded (over s b)
    (record {
      job = job-known e.run.job;
      kind = g.0;
      over = flag-known b.line.over;
      standing = flag-known b.standing;
      three = flag-known e.three;
      plane = plane-known e.circling.plane;
      direction = direction-known e.circling.direction;
      round-plane = g.1;
      round-direction = g.2;
    })

pub blank-known : known blank ≡ true
unfolding known
blank-known = refl
