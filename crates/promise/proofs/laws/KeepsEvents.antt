-- Ours has `SumOfPulses`. Assumes nothing.
use Prim.Native.Nat.{ℕ}
use mathlib.Core.Path.{◌≡◌, refl, sym, ap, ◌∙◌}
use mathlib.Core.Bool.{Bool, true, false, not, ◌&&◌, ◌||◌}
use mathlib.Core.List.{List, [], ◌∷◌}
use borrow.Author.Tests.{eqb-true, eqb-false}
use lib.Dec.{eqb}
use lib.IntN.{pos}
use lib.ListN.{get_or, take}
use Rattle.count.specs.Pick.{pick}
use Rattle.count.specs.Numbers.{value}
use Rattle.count.proofs.laws.Truth.{never, and-not}
use Rattle.motion.specs.declared.Counters.{Counters}
use Rattle.record.specs.declared.Record.{Record}
use Rattle.record.specs.Memory.{Memory}
use Rattle.record.specs.Keep.{store_of}
use Rattle.program.specs.Program.{verdict_of, is_sound}
use Rattle.line.specs.Code.{Code}
use Rattle.line.specs.Code as code
use Rattle.line.specs.Said.{Stored}
use Rattle.line.specs.Lines.{direct_of, stored_of}
use Rattle.engine.specs.declared.Job.{Job}
use Rattle.engine.specs.declared.Job.TheVariants as job
use Rattle.engine.specs.declared.Engine.{Engine}
use Rattle.engine.specs.State.{with_held, with_job, ceased, emptied, heard, heard_by, reset_of}
use Rattle.board.specs.declared.Board.{Board}
use Rattle.board.specs.State.{board, no_line, text_of, line_done, Said, said}
use Rattle.board.specs.Direct.{direct_said}
use Rattle.board.specs.Storing.{record_of, record_reply, record_said, named_fault, end_said, stored_by, stored_said}
use Rattle.engine.specs.Kinds.Ear.{gathers, drops, waits}
use Rattle.engine.specs.Kinds.{Ear}
use Rattle.board.specs.Receive.{ear_by, ear_of, is_storing, returned, gathering, ordinary, hearing, holds_by, stopped, ends_by, broken, reset_said}
use Rattle.board.specs.Calls.{Lent, Outcome, receiving, fresh}
use Rattle.promise.specs.Machine.{heard_by as heard_from, ours, Event, byte, clock, next, after_all}
use Rattle.count.specs.declared.Axis.{Axis}
use Rattle.count.specs.declared.Axis.TheVariants.{X, Y, Z, A}
use Rattle.motion.specs.Axes.{on}
use Rattle.promise.specs.Demands.{is_idle, idles, stores, position, zero_line, zeroes, sum_after, pulse_sum, SumOfPulses}
use Rattle.promise.proofs.laws.KeepsCalls.{kept}
use Rattle.promise.proofs.laws.KeepsLines.{stored_in}
use Rattle.promise.proofs.laws.KeepsReturn.{out-reply, out-board}
use Rattle.promise.proofs.laws.KeepsPulses.{clock-adds}
use Rattle.promise.proofs.laws.KeepsSum.{off-1, off-2, off-3, Right, same, stands-right, idle-right}

-- ---- the counters stay where a byte is no reset and no return

abbrev At : Counters → Said → Type 0
At c x = x.board.engine.at ≡ c

pick_at : (t : Bool) (c : Counters) (x y : Said) → At c x → At c y → At c (pick t x y)
pick_at true c x y p q = p
pick_at false c x y p q = q

pick-engine : (t : Bool) (c : Counters) (x y : Engine) → x.at ≡ c → y.at ≡ c → (pick t x y).at ≡ c
pick-engine true c x y p q = p
pick-engine false c x y p q = q

heard-at : (v : ℕ) (e : Engine) (j : Job) → (heard_by j v e).at ≡ e.at
heard-at v e (job.Wait c t) = pick-engine (eqb v c) e.at _ (with_job e job.Ready) refl refl
heard-at v e job.Idle = refl
heard-at v e job.Storing = refl
heard-at v e (job.Direct m) = refl
heard-at v e job.Ready = refl
heard-at v e (job.Moving m) = refl
heard-at v e (job.Delay q) = refl

module _ (v : ℕ) (ports : List ℕ) (b : Board) (mem : Memory) (h : eqb v 13 ≡ false) where
  ear-at : (e : Ear) → At b.engine.at (ordinary e v ports b mem)
  unfolding gathering heard
  ear-at gathers = rw h
  ear-at drops = refl
  ear-at waits = heard-at v b.engine b.engine.run.job

  other_at : eqb v 254 ≡ false → At b.engine.at (hearing v ports b mem)
  unfolding hearing stopped broken
  other_at z =
      let c = b.engine.at in
      let held = pick_at (holds_by b.engine.run.job && not b.standing) c (said (board b.engine true b.line) (70 ∷ []) mem) (said b [] mem) refl refl in
      let ended = pick_at (ends_by b.engine.run.job || b.standing) c (said (board (ceased b.engine) false b.line) (70 ∷ []) mem) (said b [] mem) refl refl in
      let rest = pick_at (eqb v 255) c (broken b mem) (ordinary (ear_of b) v ports b mem) ended (ear-at (ear_of b)) in
      pick_at (eqb v 253) c (stopped b mem) _ held (rw z rest)

-- ---- a return

module _ (a : Axis) (b : Board) (ports : List ℕ) (mem : Memory) where
  -- a board that stores is not idle
  stores-idle : (j : Job) (x : Bool) → is_storing j && not x ≡ true → is_idle j && not x ≡ false
  stores-idle job.Idle x h = never h
  stores-idle job.Storing x h = refl
  stores-idle (job.Direct m) x h = refl
  stores-idle job.Ready x h = refl
  stores-idle (job.Moving m) x h = refl
  stores-idle (job.Delay q) x h = refl
  stores-idle (job.Wait c t) x h = refl

  record-at : (r : Record) → At b.engine.at (record_said r b mem)
  record-at r =
      pick_at (eqb (record_reply b.engine.held r mem) 48) b.engine.at
      (said (board (with_held b.engine (store_of b.engine.held r mem).kept.held) b.standing no_line) (48 ∷ []) (stored_in b.engine.held r mem))
      (said (line_done b) (record_reply b.engine.held r mem ∷ []) mem) refl refl

  end-at : At b.engine.at (end_said b mem)
  end-at =
      pick_at (is_sound (verdict_of b.engine.held mem.store)) b.engine.at (said (board (ceased b.engine) b.standing no_line) (48 ∷ []) mem)
      (said (board (ceased (emptied b.engine)) b.standing no_line) (71 ∷ named_fault (verdict_of b.engine.held mem.store)) mem) refl refl

  stored_at : (k : Code) (d : Stored) → At b.engine.at (stored_by k d b mem)
  stored_at code.Wrong d = refl
  stored_at (code.Record c) d = record-at (record_of c d)
  stored_at code.End d = end-at

  -- no reply sets nothing to zero
  unheard : (x : Said) → At b.engine.at x → x.reply ≡ [] → Right a b x
  unheard x p q =
      same a b x p (off-3 (idles b) (not b.line.over) (eqb (get_or x.reply 0 0) 48) (zero_line a (direct_of (text_of b.line)))
      (ap (λ (l : List ℕ). eqb (get_or l 0 0) 48) q))

  returned-right : (b.standing ≡ false → stores b ≡ false → idles b ≡ true) → Right a b (returned ports b mem)
  unfolding returned stored_said
  returned-right idle = by b.line.over (stores b) refl refl
    where
      direct : (s : Bool) → b.standing ≡ s → stores b ≡ false → b.line.over ≡ false → Right a b (direct_said (direct_of (text_of b.line)) ports b mem)
      direct true p q o = stands-right a b ports mem p
      direct false p q o = idle-right a b ports mem (idle p q) o

      by : (o s : Bool) → b.line.over ≡ o → stores b ≡ s
          → Right a b (pick o (said (line_done b) (53 ∷ []) mem) (pick s (stored_said (stored_of (text_of b.line)) b mem)
          (direct_said (direct_of (text_of b.line)) ports b mem)))
      by true s p q =
          same a b (said (line_done b) (53 ∷ []) mem) refl
          (off-2 (idles b) (not b.line.over) (eqb 53 48) (zero_line a (direct_of (text_of b.line))) (ap not p))
      by false true p q =
          let x = stored_said (stored_of (text_of b.line)) b mem in
          same a b x (stored_at (stored_of (text_of b.line)).code (stored_of (text_of b.line)))
          (off-1 (idles b) (not b.line.over) (eqb (get_or x.reply 0 0) 48) (zero_line a (direct_of (text_of b.line)))
          (stores-idle b.engine.run.job b.standing q))
      by false false p q = direct b.standing refl q p

  return-right : Right a b (hearing 13 ports b mem)
  unfolding hearing ear_of gathering heard
  return-right = by b.standing b.engine.run.job refl refl
    where
      by : (s : Bool) (j : Job) → b.standing ≡ s → b.engine.run.job ≡ j → Right a b (ordinary (pick s gathers (ear_by j)) 13 ports b mem)
      by true j p q = returned-right (λ h. never (sym h ∙ p))
      by false job.Idle p q = returned-right (λ h z. and-not (is_idle b.engine.run.job) b.standing (ap is_idle q) p)
      by false job.Storing p q = returned-right (λ h z. never (sym z ∙ and-not (is_storing b.engine.run.job) b.standing (ap is_storing q) p))
      by false (job.Direct m) p q = unheard (said b [] mem) refl refl
      by false job.Ready p q = unheard (said b [] mem) refl refl
      by false (job.Moving m) p q = unheard (said b [] mem) refl refl
      by false (job.Delay t) p q = unheard (said b [] mem) refl refl
      by false (job.Wait c t) p q =
          unheard (said (board (heard 13 b.engine) b.standing b.line) [] mem) (heard-at 13 b.engine b.engine.run.job) refl

-- ---- any byte

module _ (a : Axis) (v : ℕ) (b : Board) where
  -- a byte sets the axis to zero, by its reply
  abbrev sets_by : List ℕ → Bool
  sets_by r = eqb v 254 || (eqb v 13 && idles b && not b.line.over && eqb (get_or r 0 0) 48 && zero_line a (direct_of (text_of b.line)))

reset-right : (a : Axis) (ports : List ℕ) (b : Board) (mem : Memory) → position a (hearing 254 ports b mem).board ≡ pos 0
unfolding hearing reset_said reset_of
reset-right X ports b mem = refl
reset-right Y ports b mem = refl
reset-right Z ports b mem = refl
reset-right A ports b mem = refl

byte-right : (a : Axis) (v : ℕ) (ports : List ℕ) (b : Board) (mem : Memory)
    → position a (hearing v ports b mem).board ≡ pick (sets_by a v b (hearing v ports b mem).reply) (pos 0) (position a b)
byte-right a v ports b mem = by (eqb v 13) (eqb v 254) refl refl
  where
    by : (x y : Bool) → eqb v 13 ≡ x → eqb v 254 ≡ y
        → position a (hearing v ports b mem).board ≡ pick (sets_by a v b (hearing v ports b mem).reply) (pos 0) (position a b)
    by true y p q = rw (eqb-true v 13 p) (return-right a b ports mem)
    by false true p q = rw (eqb-true v 254 q) (reset-right a ports b mem)
    by false false p q = rw (p, q) (ap (λ (c : Counters). value (on a c)) (other_at v ports b mem p q))

-- ---- any event

byte-sum : (a : Axis) (v : ℕ) (ports : List ℕ) (l : Lent) (s : Board)
    → position a (receiving v ports s l).result.board
    ≡ pick (zeroes a v s (heard_from (receiving v ports s l))) (pos 0) (position a s)
unfolding zeroes
byte-sum a v ports l s = by (eqb (receiving v ports s l).result.refusal 0) refl
  where
    o : Outcome
    o = receiving v ports s l

    by : (x : Bool) → eqb (receiving v ports s l).result.refusal 0 ≡ x
        → position a (receiving v ports s l).result.board
        ≡ pick (x && sets_by a v s (take (receiving v ports s l).result.len (receiving v ports s l).after.reply)) (pos 0) (position a s)
    by true q =
        let h = eqb-true (receiving v ports s l).result.refusal 0 q in
        ap (λ (b : Board). position a b) (out-board v ports l s h) ∙ byte-right a v ports s l.memory
        ∙ ap (λ (r : List ℕ). pick (sets_by a v s r) (pos 0) (position a s)) (sym (out-reply v ports l s h))
    by false q =
        ap (λ (b : Board). position a b) (kept v ports s l (eqb-false (receiving v ports s l).result.refusal 0 q)).0

event-sum : (a : Axis) (e : Event) (s : Board) → position a (next ours e s) ≡ sum_after ours a e s (position a s)
event-sum a (byte v ports l) s = byte-sum a v ports l s
event-sum a (clock mem) s = clock-adds a s mem

from : (a : Axis) (es : List Event) (s : Board) → position a (after_all ours es s) ≡ pulse_sum ours a es s (position a s)
unfolding after_all pulse_sum
from a [] s = refl
from a (e ∷ es) s = from a es (next ours e s) ∙ ap (pulse_sum ours a es (next ours e s)) (event-sum a e s)

at_zero : (a : Axis) → position a fresh ≡ pos 0
at_zero X = refl
at_zero Y = refl
at_zero Z = refl
at_zero A = refl

pub keeps-sum-of-pulses : SumOfPulses ours
keeps-sum-of-pulses a es = from a es fresh ∙ ap (pulse_sum ours a es fresh) (at_zero a)
