-- Lines of circles on our machine: `y` begins its arc, `e` and `f` set plane and direction, setting axes and reset give the first ones, and
-- nothing else changes them but a program's own `e` and `f`, after which they stay (02 §3). Assumes nothing.
use Rattle.std.specs.Prelude.{Result, Ok, Err}
use Rattle.count.specs.Refusals.{letter_of}
use Rattle.count.specs.declared.Fault.{Fault}
use Prim.Native.Nat.{ℕ}
use mathlib.Core.Path.{◌≡◌, refl, sym, ap, ◌∙◌}
use mathlib.Core.Bool.{Bool, true, false, not, ◌&&◌, ◌||◌}
use mathlib.Core.List.{List, [], ◌∷◌}
use native.Mathlib.Omega.{arith}
use borrow.Author.Tests.{eqb-true, eqb-false, ne_eqb}
use lib.Dec.{eqb}
use lib.ListN.{length, get_or, take}
use Rattle.count.specs.Pick.{pick}
use Rattle.count.proofs.laws.Truth.{never, and_left}
use Rattle.circle.specs.declared.Arc.{Arc}
use Rattle.circle.specs.Arc.{arc_left}
use Rattle.circle.specs.Plan.{plane_of, direction_of, circling, at_first, bend_of}
use Rattle.circle.proofs.laws.Bends.{bends}
use Rattle.travel.specs.declared.Travel.TheVariants as travel
use Rattle.travel.specs.Next.{pulse_of}
use Rattle.travel.specs.Plan.{roundly, circle_of, refusal}
use Rattle.line.specs.Letter.{Letter}
use Rattle.line.specs.Letter as letter
use Rattle.line.specs.Lines.{letter_paper}
use Rattle.record.specs.Memory.{Memory}
use Rattle.record.specs.Table.{fetch_of}
use Rattle.engine.specs.declared.Engine.{Engine}
use Rattle.engine.specs.declared.Job.{Job}
use Rattle.engine.specs.declared.Job.TheVariants as job
use Rattle.engine.specs.declared.Told.{Told}
use Rattle.engine.specs.Kinds.{Ear}
use Rattle.engine.specs.Kinds.Ear.{gathers, drops, waits}
use Rattle.engine.specs.State.{with_run, with_job, running, begun, no_pulse, begun_by, circle_begun, heard, heard_by, reset_of, turntable_of, anew_of}
use Rattle.engine.specs.Tick.{Rule, Fetching, ticked}
use Rattle.engine.proofs.laws.Cases.{record-cases, cases}
use Rattle.board.specs.declared.Board.{Board}
use Rattle.board.specs.Calls.{Ticked}
use Rattle.board.specs.State.{sound, Said}
use Rattle.board.specs.Direct.{Effect, plan_reply, effect_of, accepted_said, started_with}
use Rattle.board.specs.Receive.{ear_of, gathering, ordinary, hearing, holds_by, stopped, ends_by, broken, reset_said}
use Rattle.board.specs.Calls.{Lent, Outcome, receiving, clocking}
use Rattle.board.proofs.laws.Laws.{hearing-sound}
use Rattle.promise.specs.Demands.{is_idle, idles}
use Rattle.promise.specs.Circles.{line, Turns, line_of, Typed, circling_of, arc_of}
use Rattle.promise.proofs.laws.KeepsCalls.{calm-sound, kept, by_call}
use Rattle.promise.proofs.laws.KeepsLines.{row-facts}
use Rattle.promise.proofs.laws.KeepsReturn.{out-board, out-len}
use Rattle.promise.proofs.laws.Letters.{is-letter}
use Rattle.promise.proofs.laws.Obeyed.{line-heard}

-- ---- an accepted line of some letter on an idle board

module _ (ports : List ℕ) (b : Board) (l : Lent) (f : (receiving 13 ports b l).result.refusal ≡ 0) where
  abbrev got : Outcome
  got = receiving 13 ports b l

  abbrev does : Letter → Effect
  does k = effect_of k (line_of b).words ports b.engine false

  -- no reply, or one that begins with 0
  abbrev Good : Type 0
  Good = get_or (take got.result.len got.after.reply) 0 48 ≡ 48

  -- what is said, and that nothing refuses its plan
  effect-said : (k : Letter) → Typed (letter_paper k).number b → Good
      → (plan_reply k b.engine (line_of b).words ≡ 48) × (hearing 13 ports b l.memory ≡ accepted_said (does k) l.memory)
  effect-said k t n =
      let h = line-heard ports b l t.idle f n in
      let q = is-letter (line_of b).letter k t.letter in (
        ap (λ (x : Letter). plan_reply x b.engine (line_of b).words) (sym q) ∙ (row-facts b.engine false (line_of b) h.0).2,
        h.1 ∙ ap (λ (x : Letter). accepted_said (does x) l.memory) q,
      )

  set-by : (k : Letter) → Typed (letter_paper k).number b → take got.result.len got.after.reply ≡ 48 ∷ []
      → circling_of got.result.board ≡ (does k).engine.circling
  set-by k t n =
      ap (λ (x : Board). circling_of x) (out-board 13 ports l b f)
      ∙ ap (λ (x : Said). circling_of x.board) (effect-said k t (ap (λ (z : List ℕ). get_or z 0 48) n)).1

  pub plane-set : Typed 101 b → take got.result.len got.after.reply ≡ 48 ∷ []
      → circling_of got.result.board ≡ circling (plane_of (get_or (line_of b).words 0 0)) (circling_of b).direction
  plane-set = set-by letter.Plane

  pub direction-set : Typed 102 b → take got.result.len got.after.reply ≡ 48 ∷ []
      → circling_of got.result.board ≡ circling (circling_of b).plane (direction_of (get_or (line_of b).words 0 0))
  direction-set = set-by letter.Direction

  pub axes-set : Typed 48 b → (get_or (line_of b).words 0 0 ≡ 8 → ⊥) → take got.result.len got.after.reply ≡ 48 ∷ [] → circling_of got.result.board ≡ at_first
  axes-set t other n =
      set-by letter.Axes t n
      ∙ ap (λ (z : Bool). (pick z (turntable_of b.engine) (anew_of (get_or (line_of b).words 0 0) b.engine)).circling) (ne_eqb (get_or (line_of b).words 0 0) 8 other)

  -- ---- a circle's line that is not replied to

  abbrev bending : Result Arc Fault
  bending = bend_of b.engine.axes (circling_of b) b.engine.at (line_of b).words

  module _ (t : Typed 121 b) (n : got.result.len ≡ 0) where
    heard-as : (plan_reply letter.Circle b.engine (line_of b).words ≡ 48) × (hearing 13 ports b l.memory ≡ accepted_said (does letter.Circle) l.memory)
    heard-as = effect-said letter.Circle t (ap (λ (z : ℕ). get_or (take z got.after.reply) 0 48) n)

    silent : length (does letter.Circle).reply ≡ 0
    silent = ap (λ (x : Said). length x.reply) (sym heard-as.1) ∙ sym (out-len 13 ports l b f) ∙ n

    going-by : (z : Bool) (a : Arc) → a ≡ arc_of b
        → length (started_with (pick z (begun 48 b.engine) (begun 0 (with_job b.engine (job.Direct (travel.Round a))))) false).reply ≡ 0
        → (started_with (pick z (begun 48 b.engine) (begun 0 (with_job b.engine (job.Direct (travel.Round a))))) false).engine.run.job ≡ job.Direct (travel.Round (arc_of b))
    going-by true a q h = absurd (omega arith)
    going-by false a q h = ap (λ (x : Arc). job.Direct (travel.Round x)) q

    runs : (x : Result Arc Fault) → bending ≡ x → refusal (roundly x) ≡ 48 → length (started_with (begun_by (roundly x) b.engine) false).reply ≡ 0
        → (started_with (begun_by (roundly x) b.engine) false).engine.run.job ≡ job.Direct (travel.Round (arc_of b))
    runs (Ok a) q p h =
        going-by (no_pulse (travel.Round a)) a (bends b.engine.axes (circling_of b) b.engine.at (line_of b).words q).is h
    runs (Err c) q p h = let z : letter_of c ≡ 48 = p in absurd (omega (arith, rw z at h))

    pub circle-begins : Turns line (arc_of b) got.result.board × (arc_left (arc_of b) ≡ get_or (line_of b).words 0 0)
    unfolding circle_begun circle_of arc_left
    circle-begins =
        let a = out-board 13 ports l b f in
        let g = a ∙ ap (λ (x : Said). x.board) heard-as.1 in (
          record {
            sound = ap (λ (x : Board). sound x) a ∙ hearing-sound 13 ports b l.memory (calm-sound 13 ports b l f);
            standing = ap (λ (x : Board). x.standing) g;
            job = ap (λ (x : Board). x.engine.run.job) g ∙ runs bending refl heard-as.0 silent;
          },
          omega arith,
        )

-- ---- reset

pub reset-first : (ports : List ℕ) (b : Board) (l : Lent) → (receiving 254 ports b l).result.refusal ≡ 0 → circling_of (receiving 254 ports b l).result.board ≡ at_first
unfolding hearing reset_said reset_of
reset-first ports b l f = ap (λ (x : Board). circling_of x) (out-board 254 ports l b f)

-- ---- the call that ends a run

module _ (rule : Rule) (fetch : Fetching) (e : Engine) where
  abbrev Kept : Told → Type 0
  Kept t = is_idle t.engine.run.job ≡ true → t.engine.circling ≡ e.circling

  tick-kept : Kept (ticked rule fetch e)
  tick-kept =
      cases rule fetch e Kept (record {
        nothing = λ q z. refl;
        direct = λ m s p q z. refl;
        arrived = λ m p q z. refl;
        on = λ m s p q z. refl;
        pause = λ q p z. refl;
        end = λ p q z. refl;
        wrong = λ p q z. refl;
        got = λ p r q. record-cases rule r e Kept (record {
          pulse = λ l m s p q z. refl;
          still = λ l z. refl;
          refused = λ b k p z. refl;
          origin = λ l p z. refl;
          three = λ l b z. refl;
          turned = λ l k c z. never z;
          pause = λ l t z. refl;
          send = λ l p z. refl;
          to = λ p z. refl;
          waits = λ p z. refl;
          lost = λ p z. refl;
        });
      })

pub ended-keeps : (b : Board) (mem : Memory) → idles (clocking b mem).board ≡ true → circling_of (clocking b mem).board ≡ circling_of b
ended-keeps b mem =
    by_call b mem (λ (t : Ticked). idles t.board ≡ true → circling_of t.board ≡ circling_of b) (λ n z. refl)
    (λ p s z. tick-kept pulse_of (fetch_of b.engine.held mem) b.engine (and_left _ (not b.standing) z))

-- ---- any byte but a return and reset

module _ (v : ℕ) (ports : List ℕ) (b : Board) (mem : Memory) (no_return : v ≡ 13 → ⊥) (no-reset : v ≡ 254 → ⊥) where
  abbrev Same : Said → Type 0
  Same x = circling_of x.board ≡ circling_of b

  pick-on : (t : Bool) (x y : Said) → (t ≡ true → Same x) → (t ≡ false → Same y) → Same (pick t x y)
  pick-on true x y p q = p refl
  pick-on false x y p q = q refl

  heard-by : (j : Job) → (heard_by j v b.engine).circling ≡ circling_of b
  heard-by (job.Wait c t) = by (eqb v c)
    where
      by : (z : Bool) → (pick z (with_run b.engine (running job.Ready t b.engine.run.loops)) (with_job b.engine job.Ready)).circling ≡ circling_of b
      by true = refl
      by false = refl
  heard-by job.Idle = refl
  heard-by job.Storing = refl
  heard-by (job.Direct m) = refl
  heard-by job.Ready = refl
  heard-by (job.Moving m) = refl
  heard-by (job.Delay q) = refl

  ear-on : (e : Ear) → Same (ordinary e v ports b mem)
  unfolding gathering heard
  ear-on gathers = pick-on (eqb v 13) _ _ (λ q. absurd (no_return (eqb-true v 13 q))) (λ q. refl)
  ear-on drops = refl
  ear-on waits = heard-by b.engine.run.job

  byte-same : Same (hearing v ports b mem)
  unfolding hearing stopped broken
  byte-same =
      pick-on (eqb v 253) _ _ (λ p. pick-on (holds_by b.engine.run.job && not b.standing) _ _ (λ q. refl) (λ q. refl))
      (λ p. pick-on (eqb v 254) _ _ (λ q. absurd (no-reset (eqb-true v 254 q)))
      (λ p. pick-on (eqb v 255) _ _ (λ q. pick-on (ends_by b.engine.run.job || b.standing) _ _ (λ r. refl) (λ r. refl))
      (λ p. ear-on (ear_of b))))

pub byte-keeps : (v : ℕ) (ports : List ℕ) (b : Board) (l : Lent) → (v ≡ 13 → ⊥) → (v ≡ 254 → ⊥) → circling_of (receiving v ports b l).result.board ≡ circling_of b
byte-keeps v ports b l h g = by (eqb (receiving v ports b l).result.refusal 0) refl
  where
    by : (x : Bool) → eqb (receiving v ports b l).result.refusal 0 ≡ x → circling_of (receiving v ports b l).result.board ≡ circling_of b
    by true q = ap (λ (x : Board). circling_of x) (out-board v ports l b (eqb-true _ 0 q)) ∙ byte-same v ports b l.memory h g
    by false q = ap (λ (x : Board). circling_of x) (kept v ports b l (eqb-false _ 0 q)).0
