-- While ours stores, the store's axes are those that lines set: `i` needs axes, a stored record keeps the store's, and nothing else writes them before
-- storing ends. Assumes nothing.
use Rattle.std.specs.Prelude.{Result, Ok, Err}
use Rattle.count.specs.declared.Fault.{Fault}
use Rattle.travel.specs.declared.Travel.{Travel}
use Prim.Native.Nat.{ℕ, zero, suc}
use mathlib.Core.Path.{◌≡◌, refl, sym, ap, ◌∙◌}
use mathlib.Core.Bool.{Bool, true, false, not, ◌&&◌, ◌||◌}
use mathlib.Core.List.{List, []}
use borrow.Author.Tests.{eqb-true}
use lib.Dec.{eqb}
use lib.ListN.{length, get_or}
use Rattle.count.specs.Pick.{pick}
use Rattle.count.proofs.laws.Truth.{never, and-true}
use Rattle.motion.specs.Plan.{asked}
use Rattle.travel.specs.Next.{pulse_of}
use Rattle.travel.specs.Plan.{plan_of, circle_of}
use Rattle.record.specs.declared.Record.{Record}
use Rattle.record.specs.Bytes.{encode}
use Rattle.record.specs.Memory.{Memory}
use Rattle.record.specs.Keep.{Storing, has_room, store_of}
use Rattle.record.specs.Table.{fetch_of}
use Rattle.count.specs.Axes.{axes_set}
use Rattle.program.specs.Program.{verdict_of, is_sound}
use Rattle.line.specs.Letter.{Letter}
use Rattle.line.specs.Letter as letter
use Rattle.line.specs.Said.{Direct}
use Rattle.line.specs.Code.{Code}
use Rattle.line.specs.Code as code
use Rattle.line.specs.Said.{Stored}
use Rattle.line.specs.Lines.{direct_of, stored_of}
use Rattle.engine.specs.declared.Engine.{Engine}
use Rattle.engine.specs.declared.Job.{Job}
use Rattle.engine.specs.declared.Job.TheVariants as job
use Rattle.engine.specs.declared.Told.{Told}
use Rattle.engine.specs.State.{with_job, begun, no_pulse, begun_by, begin_of, circle_begun, heard, heard_by, reset_of}
use Rattle.engine.specs.Tick.{Rule, Fetching, after_pause, performed, ticked}
use Rattle.engine.proofs.laws.Facts.{facts}
use Rattle.engine.proofs.laws.Cases.{record-cases, cases}
use Rattle.board.specs.declared.Board.{Board}
use Rattle.board.specs.Calls.{Ticked}
use Rattle.board.specs.State.{text_of, Said, sound}
use Rattle.board.specs.Direct.{heard_standing, needs_axes, reply_of, effect_of, accepted_said, direct_said}
use Rattle.board.specs.Storing.{record_of, record_reply, stored_by, stored_said}
use Rattle.engine.specs.Kinds.Ear.{gathers, drops, waits}
use Rattle.engine.specs.Kinds.{Ear}
use Rattle.board.specs.Receive.{ear_of, is_storing, returned, gathering, ordinary, hearing, holds_by, stopped, ends_by, broken, reset_said}
use Rattle.board.specs.Calls.{clocking, fresh}
use Rattle.board.proofs.laws.Hears.{sound-engine}
use Rattle.board.proofs.laws.Laws.{fresh-sound, hearing-sound, clocking-sound}
use Rattle.engine.specs.declared.Run.{Run}
use Rattle.record.specs.declared.Held.{Held}
use Rattle.promise.proofs.laws.Axed.{axes-run, axes-held}
use Rattle.promise.specs.Machine.{ours, Event, after_all}
use Rattle.promise.proofs.laws.KeepsCalls.{by_call}
use Rattle.promise.proofs.laws.KeepsLines.{row-facts}
use Rattle.promise.proofs.laws.KeepsOn.{all-kept}

-- while an engine stores, its store's axes are set
pub record Written (e : Engine) : Type 0 where
  pub axes : is_storing e.run.job ≡ true → axes_set e.held.axes ≡ true

other : (e : Engine) → is_storing e.run.job ≡ false → Written e
other e f = record { axes = λ h. never (sym f ∙ h) }

-- ---- a clock call begins no storing

pause-other : (q : ℕ) → is_storing (after_pause q) ≡ false
pause-other zero = refl
pause-other (suc q) = refl

module _ (rule : Rule) (fetch : Fetching) (e : Engine) (w : Written e) where
  abbrev Kept : Told → Type 0
  Kept t = Written t.engine

  record-kept : (r : Record) → Kept (performed rule r e)
  record-kept r =
      record-cases rule r e Kept (record {
        pulse = λ l m s p q. other _ refl;
        still = λ l. other _ refl;
        refused = λ b k p. other _ refl;
        origin = λ l p. other _ refl;
        three = λ l b. other _ refl;
        turned = λ l k c. other _ refl;
        pause = λ l t. other _ (pause-other t);
        send = λ l p. other _ refl;
        to = λ p. other _ refl;
        waits = λ p. other _ refl;
        lost = λ p. other _ refl;
      })

  tick-kept : Kept (ticked rule fetch e)
  tick-kept =
      cases rule fetch e Kept (record {
        nothing = λ p. w;
        direct = λ m s p q. other _ refl;
        arrived = λ m p q. other _ refl;
        on = λ m s p q. other _ refl;
        pause = λ q p. other _ (pause-other q);
        end = λ l p. other _ refl;
        wrong = λ l p. other _ refl;
        got = λ l r p. record-kept r;
      })

clock-written : (b : Board) (mem : Memory) → Written b.engine → Written (clocking b mem).board.engine
clock-written b mem w =
    by_call b mem (λ (t : Ticked). Written t.board.engine) (λ n. w) (λ p q. tick-kept pulse_of (fetch_of b.engine.held mem) b.engine w)

-- ---- a byte: `i` on a board with axes, and no other byte, begins storing

-- known and not 0
known-set : (z a : Bool) → z || a ≡ true → true && z ≡ false → a ≡ true
known-set true a p q = never (sym q)
known-set false a p q = p

-- nothing stands, and the line was none for the store: so nothing is being stored
still : (s x : Bool) → x && not s ≡ false → s && true ≡ false → x ≡ false
still true x p q = never (sym q)
still false x p q = sym (and-true x) ∙ p

kept-axes : (t : Bool) (x y : Storing) (a : ℕ) → x.kept.held.axes ≡ a → y.kept.held.axes ≡ a → (pick t x y).kept.held.axes ≡ a
kept-axes true x y a p q = p
kept-axes false x y a p q = q

module _ (v : ℕ) (ports : List ℕ) (b : Board) (mem : Memory) (h : sound b ≡ true) (w : Written b.engine) where
  abbrev On : Said → Type 0
  On x = Written x.board.engine

  pick-on : (t : Bool) (x y : Said) → (t ≡ true → On x) → (t ≡ false → On y) → On (pick t x y)
  pick-on true x y p q = p refl
  pick-on false x y p q = q refl

  -- a line while storing

  stored-axes : (r : Record) → (store_of b.engine.held r mem).kept.held.axes ≡ b.engine.held.axes
  unfolding store_of
  stored-axes r = kept-axes (has_room b.engine.held (length (encode r)) (length mem.store) (length mem.table)) _ _ b.engine.held.axes refl refl

  code-on : (k : Code) (d : Stored) → On (stored_by k d b mem)
  code-on code.Wrong d = w
  code-on (code.Record c) d =
      pick-on (eqb (record_reply b.engine.held (record_of c d) mem) 48) _ _
      (λ p. record { axes = λ z. ap axes_set (stored-axes (record_of c d)) ∙ w.axes z }) (λ p. w)
  code-on code.End d = pick-on (is_sound (verdict_of b.engine.held mem.store)) _ _ (λ p. other _ refl) (λ p. other _ refl)

  -- a line outside storing

  begun-on : (p : Result Travel Fault) → Written (begun_by p b.engine).engine
  begun-on (Ok m) = by (no_pulse m)
    where
      by : (t : Bool) → Written (pick t (begun 48 b.engine) (begun 0 (with_job b.engine (job.Direct m)))).engine
      by true = w
      by false = other _ refl
  begun-on (Err c) = w

  start-on : (s : Bool) → On (accepted_said (effect_of letter.Start [] ports b.engine s) mem)
  start-on true = w
  start-on false = other _ refl

  module _ (k : is_storing b.engine.run.job && not b.standing ≡ false) where
    effect-on : (x : Letter) (l : List ℕ) → b.standing && not (heard_standing x) ≡ false → needs_axes x && eqb b.engine.axes 0 ≡ false
        → On (accepted_said (effect_of x l ports b.engine b.standing) mem)
    unfolding begin_of circle_begun
    effect-on letter.Wrong l p q = w
    effect-on letter.Axes l p q = record {
      axes = λ z. ap (λ (h : Held). axes_set h.axes) (axes-held (get_or l 0 0) b.engine) ∙ w.axes (ap (λ (r : Run). is_storing r.job) (sym (axes-run (get_or l 0 0) b.engine)) ∙ z);
    }
    effect-on letter.Relative l p q = begun-on (plan_of (asked b.engine.axes b.engine.three b.engine.at b.engine.origin false l))
    effect-on letter.Absolute l p q = begun-on (plan_of (asked b.engine.axes b.engine.three b.engine.at b.engine.origin true l))
    effect-on letter.Origin l p q = record { axes = w.axes }
    effect-on letter.Zero l p q = record { axes = w.axes }
    effect-on letter.Three l p q = record { axes = w.axes }
    effect-on letter.Position l p q = w
    effect-on letter.Input l p q = w
    effect-on letter.Output l p q = record { axes = w.axes }
    effect-on letter.Store l p q =
        let a = b.engine.axes in
        record { axes = λ z. known-set (eqb a 0) (axes_set a) (facts b.engine (sound-engine b h)).axes q }
    effect-on letter.Empty l p q = other _ (still b.standing (is_storing b.engine.run.job) k p)
    effect-on letter.Start l p q = start-on b.standing
    effect-on letter.Plane l p q = record { axes = w.axes }
    effect-on letter.Direction l p q = record { axes = w.axes }
    effect-on letter.Circle l p q = begun-on (circle_of b.engine.axes b.engine.circling b.engine.at l)

    direct-on : (d : Direct) → On (direct_said d ports b mem)
    unfolding direct_said
    direct-on d =
        pick-on (eqb (reply_of b.engine b.standing d) 48) _ _
        (λ p. let f = row-facts b.engine b.standing d (eqb-true _ 48 p) in effect-on d.letter d.words f.1 f.3) (λ p. w)

  returned-on : On (returned ports b mem)
  unfolding returned stored_said
  returned-on =
      pick-on b.line.over _ _ (λ p. w)
      (λ p. pick-on (is_storing b.engine.run.job && not b.standing) _ _
      (λ k. code-on (stored_of (text_of b.line)).code (stored_of (text_of b.line))) (λ k. direct-on k (direct_of (text_of b.line))))

  -- any byte

  heard-on : (j : Job) → Written (heard_by j v b.engine)
  heard-on (job.Wait c t) = by (eqb v c) _ _ (other _ refl) (other _ refl)
    where
      by : (z : Bool) (x y : Engine) → Written x → Written y → Written (pick z x y)
      by true x y p q = p
      by false x y p q = q
  heard-on job.Idle = w
  heard-on job.Storing = w
  heard-on (job.Direct m) = w
  heard-on job.Ready = w
  heard-on (job.Moving m) = w
  heard-on (job.Delay q) = w

  ear-on : (e : Ear) → On (ordinary e v ports b mem)
  unfolding gathering heard
  ear-on gathers = pick-on (eqb v 13) _ _ (λ q. returned-on) (λ q. w)
  ear-on drops = w
  ear-on waits = heard-on b.engine.run.job

  byte-written : On (hearing v ports b mem)
  unfolding hearing stopped broken reset_said reset_of
  byte-written =
      pick-on (eqb v 253) _ _ (λ p. pick-on (holds_by b.engine.run.job && not b.standing) _ _ (λ q. w) (λ q. w))
      (λ p. pick-on (eqb v 254) _ _ (λ q. other _ refl)
      (λ p. pick-on (eqb v 255) _ _ (λ q. pick-on (ends_by b.engine.run.job || b.standing) _ _ (λ r. other _ refl) (λ r. w))
      (λ p. ear-on (ear_of b))))

-- ---- any events from a fresh board on

abbrev Right : Board → Type 0
Right b = (sound b ≡ true) × Written b.engine

pub always-written : (es : List Event) → Right (after_all ours es fresh)
always-written es =
    all-kept Right (λ v ports b mem r. (hearing-sound v ports b mem r.0, byte-written v ports b mem r.0 r.1))
    (λ b mem r. (clocking-sound b mem r.0, clock-written b mem r.1)) es fresh (fresh-sound, other _ refl)
