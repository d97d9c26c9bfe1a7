-- One step of a schedule on our machine, beside the board that never stopped: the step is made by it too, or leaves it as it is.
use Prim.Native.Nat.{ℕ, ◌≤◌}
use mathlib.Core.Bool.{Bool, true, false, not, ◌&&◌, ◌||◌, true≢false}
use mathlib.Core.List.{List, [], ◌∷◌}
use mathlib.Core.Path.{◌≡◌, refl, sym, ◌∙◌, ap, subst}
use borrow.Author.Tests.{le-ltb, lt-ltb, leb-false}
use lib.Dec.{leb}
use lib.ListN.{length}
use Rattle.count.specs.Pick.{pick}
use Rattle.count.specs.Paper.{Paper}
use Rattle.count.proofs.laws.Truth.{and-true}
use Rattle.travel.specs.Next.{pulse_of}
use Rattle.record.specs.Memory.{Memory, store_fits, table_fits}
use Rattle.record.specs.Table.{fetch_of}
use Rattle.engine.specs.declared.Answer.TheVariants as answer
use Rattle.engine.specs.declared.Engine.{Engine}
use Rattle.engine.specs.declared.Told.{Told}
use Rattle.engine.specs.declared.Job.{Job}
use Rattle.engine.specs.declared.Job.TheVariants as job
use Rattle.engine.specs.State.{paper, heard}
use Rattle.engine.specs.Tick.{ticked, ticked_by}
use Rattle.engine.specs.Sound.{sound_of}
use Rattle.board.specs.declared.Line.{Line}
use Rattle.board.specs.declared.Board.{Board}
use Rattle.board.specs.Calls.{Ticked}
use Rattle.board.specs.State.{board, no_line, sound, said}
use Rattle.board.specs.Receive.{ear_by, ear_of, holds_by, stopped, ordinary, hearing, gathering}
use Rattle.board.specs.Calls.{lent, Outcome, refused, answered, receiving, clocking}
use Rattle.promise.specs.Machine.{ours}
use Rattle.promise.specs.Demands.{is_waiting}
use Rattle.promise.specs.Stop.{Step, receive, call, Lending, own, other, Elsewhere, rightly, rests_by, counts, takes, spoken, ahead, answer_of}
use Rattle.promise.proofs.laws.KeepsCalls.{is_right, tried_by, elsewhere-byte, elsewhere-call}
use Rattle.promise.proofs.laws.StopBoard.{twin_board, Clear, Fit, clear_of, left, held-byte}
use Rattle.promise.proofs.laws.StopQuiet.{twin-of, quiet-byte}

-- ---- what acts on a board that never stops: a byte that is taken, and a clock call that counts

pub data Act : Type 0 where
  byte : ℕ → Act
  tick : Act

abbrev pub At : Type 0
At = Board × Memory

abbrev pub twin : At → At
twin p = (twin_board p.0, p.1)

abbrev pub act_of : Step → Act
act_of (receive v ports reply d) = byte v
act_of (call d) = tick

-- a call is refused or not by the engine and the memory alone, where no line is over 80 bytes
abbrev pub right : Engine → Memory → Bool
right e mem = is_right mem && sound_of e

abbrev pub told_of : Board → Memory → Told
told_of b mem = ticked pulse_of (fetch_of b.engine.held mem) b.engine

abbrev pub ticks : At → At
ticks p = (pick p.0.standing p.0 (board (told_of p.0 p.1).engine p.0.standing p.0.line), p.1)

abbrev pub tells : At → List Paper
tells p = spoken (paper (pick p.0.standing answer.Nothing (told_of p.0 p.1).answer))

abbrev pub acted : At → Act → At
acted p (byte v) = pick (right p.0.engine p.1) (left (hearing v [] p.0 p.1)) p
acted p tick = pick (right p.0.engine p.1) (ticks p) p

abbrev pub act_answer : At → Act → List Paper
act_answer p (byte v) = []
act_answer p tick = pick (right p.0.engine p.1) (tells p) []

-- ---- our machine's steps in these words

abbrev after : Outcome → At
after o = (o.result.board, o.after.memory)

pub our-byte : (v : ℕ) (ports reply : List ℕ) (p : At) → leb p.0.line.len 80 ≡ true → 32 ≤ length reply →
    ahead ours p (receive v ports reply own) ≡ pick (right p.0.engine p.1) (left (hearing v ports p.0 p.1)) p
unfolding receiving sound
our-byte v ports reply (b, mem) h n = rw (le-ltb (length reply) 32 n, h) (by (store_fits mem) (table_fits mem) (sound_of b.engine))
  where
    by : (g w s : Bool) → after (pick (not g) (refused 102 b (lent reply mem)) (pick (not (s && true)) (refused 103 b (lent reply mem))
        (pick (not w) (refused 104 b (lent reply mem)) (answered (hearing v ports b mem) reply))))
        ≡ pick (g && w && s) (left (hearing v ports b mem)) (b, mem)
    by true true true = refl
    by true false true = refl
    by true true false = refl
    by true false false = refl
    by false w s = refl

pub our-tick : (p : At) → leb p.0.line.len 80 ≡ true →
    ahead ours p (call own) ≡ pick (right p.0.engine p.1) (ticks p) p
unfolding clocking sound
our-tick (b, mem) h = rw h (by (store_fits mem) (table_fits mem) (sound_of b.engine) b.standing)
  where
    by : (g w s t : Bool) → ◌≡◌ {A = At} ((tried_by b mem g (s && true) w t).board, mem)
        (pick (g && w && s) (pick t b (board (told_of b mem).engine b.standing b.line), mem) (b, mem))
    by true true true true = refl
    by true true true false = refl
    by true false true t = refl
    by true true false t = refl
    by true false false t = refl
    by false w s t = refl

pub our-answer : (p : At) → leb p.0.line.len 80 ≡ true →
    answer_of ours p (call own) ≡ pick (right p.0.engine p.1) (tells p) []
unfolding clocking sound
our-answer (b, mem) h = rw h (by (store_fits mem) (table_fits mem) (sound_of b.engine) b.standing)
  where
    by : (g w s t : Bool) → spoken (paper (tried_by b mem g (s && true) w t).answer) ≡ pick (g && w && s) (spoken (paper (pick t answer.Nothing (told_of b mem).answer))) []
    by true true true true = refl
    by true true true false = refl
    by true false true t = refl
    by true true false t = refl
    by true false false t = refl
    by false w s t = refl

-- ---- a call that is refused for what is lent changes nothing

-- with a reply buffer that is too short
short-byte : (v : ℕ) (ports reply : List ℕ) (d : Lending) (p : At) → leb 32 (length reply) ≡ false → ahead ours p (receive v ports reply d) ≡ p
unfolding receiving
short-byte v ports reply own (b, mem) h = rw (lt-ltb (length reply) 32 (leb-false 32 (length reply) h))
short-byte v ports reply (other t) (b, mem) h = rw (lt-ltb (length reply) 32 (leb-false 32 (length reply) h))

-- with another than the one memory
other_byte : (v : ℕ) (ports reply : List ℕ) (t : Memory) (p : At) → Elsewhere (other t) → ahead ours p (receive v ports reply (other t)) ≡ p
other_byte v ports reply t (b, mem) n = λ i. (elsewhere-byte v ports b (lent reply t) n i, mem)

pub refused-byte : (v : ℕ) (ports reply : List ℕ) (d : Lending) (p : At) → Elsewhere d → rightly (receive v ports reply d) ≡ false →
    ahead ours p (receive v ports reply d) ≡ p
refused-byte v ports reply own p n h = short-byte v ports reply own p (sym (and-true (leb 32 (length reply))) ∙ h)
refused-byte v ports reply (other t) p n h = other_byte v ports reply t p n

pub refused-tick : (t : Memory) (p : At) → Elsewhere (other t) → (ahead ours p (call (other t)) ≡ p) × (answer_of ours p (call (other t)) ≡ [])
refused-tick t (b, mem) n =
    let k = (elsewhere-call b t n).1 in
    (ap (λ (x : Ticked). (x.board, mem)) k, ap (λ (x : Ticked). spoken (paper x.answer)) k)

-- ---- one step: kept, the twin makes it too; left out, the twin stays

abbrev pub Result : Bool → At → At → At → Type 0
Result true p u q = (u ≡ twin q) × Fit q.0 × (q.0.standing ≡ false)
Result false p u q = (twin p ≡ twin q) × Fit q.0

-- refused, both stay as they are
pub guarded : (g k : Bool) (p u q : At) → Fit p.0 → (k ≡ true → p.0.standing ≡ false) → Result k p u q → Result k p (pick g u (twin p)) (pick g q p)
guarded true k p u q f s h = h
guarded false true p u q f s h = (refl, f, s refl)
guarded false false p u q f s h = (refl, f)

module _ (e : Engine) (l : Line) (mem : Memory) where
  abbrev at : Bool → At
  at s = (board e s l, mem)

  -- a stop
  stop-standing : (c : Bool) (u : At) → Fit (board e true l) →
      Result false (at true) u (left (pick (c && false) (said (board e true l) (70 ∷ []) mem) (said (board e true l) [] mem)))
  stop-standing true u f = (refl, f)
  stop-standing false u f = (refl, f)

  holds : (u : At) → Fit (board e false l) → l ≡ no_line → Result false (at false) u (board e true l, mem)
  holds u f h = (ap (λ (k : Line). (board e false k, mem)) h, record { short = f.short; clear = tt })

  stop-running : (j : Job) (u : At) → Fit (board e false l) → Clear j l →
      Result false (at false) u (left (pick (holds_by j && true) (said (board e true l) (70 ∷ []) mem) (said (board e false l) [] mem)))
  stop-running job.Idle u f c = (refl, f)
  stop-running job.Storing u f c = (refl, f)
  stop-running (job.Direct m) u f c = holds u f c
  stop-running job.Ready u f c = holds u f c
  stop-running (job.Moving m) u f c = holds u f c
  stop-running (job.Delay q) u f c = (refl, f)
  stop-running (job.Wait v t) u f c = (refl, f)

  pub one-stop : (s : Bool) (u : At) → Fit (board e s l) → Result false (at s) u (left (stopped (board e s l) mem))
  unfolding stopped
  one-stop true u f = stop-standing (holds_by e.run.job) u f
  one-stop false u f = stop-running e.run.job u f f.clear

  -- an ordinary byte
  module _ (v : ℕ) (ports : List ℕ) where
    ordinary-quiet : Fit (board e false l) → ((k : Line) → Clear e.run.job k) →
        Result true (at false) (left (gathering v [] (board e false l) mem)) (left (gathering v ports (board e false l) mem))
    ordinary-quiet f free =
        let h = quiet-byte ports e l mem v f.short free in
        (h.deaf ∙ (λ i. (sym (twin-of (gathering v ports (board e false l) mem).board h.standing) i, (gathering v ports (board e false l) mem).memory)), h.fit, h.standing)

    ordinary-at : (j : Job) → e.run.job ≡ j → Fit (board e false l) → Clear j l →
        Result (is_waiting j || rests_by j) (at false) (left (ordinary (ear_by j) v [] (board e false l) mem))
        (left (ordinary (ear_by j) v ports (board e false l) mem))
    ordinary-at job.Idle q f c = ordinary-quiet f (λ k. subst (λ (i : Job). Clear i k) (sym q) tt)
    ordinary-at job.Storing q f c = ordinary-quiet f (λ k. subst (λ (i : Job). Clear i k) (sym q) tt)
    ordinary-at (job.Direct m) q f c = (refl, f)
    ordinary-at job.Ready q f c = (refl, f)
    ordinary-at (job.Moving m) q f c = (refl, f)
    ordinary-at (job.Delay n) q f c = (refl, f)
    ordinary-at (job.Wait w t) q f c = (refl, record { short = f.short; clear = clear_of (heard v e).run.job c }, refl)

    pub one-ordinary : (s : Bool) → Fit (board e s l) →
        Result (takes (board e s l)) (at s) (left (ordinary (ear_of (twin_board (board e s l))) v [] (twin_board (board e s l)) mem))
        (left (ordinary (ear_of (board e s l)) v ports (board e s l) mem))
    unfolding ear_of
    one-ordinary true f = let h = held-byte e mem ports l v f.short in ((λ i. (sym h.twin i, sym h.memory i)), h.fit)
    one-ordinary false f = ordinary-at e.run.job refl f f.clear

  -- a clock call
  goes : (t : Told) → Fit (board e false l) → l ≡ no_line → Result true (at false) (board t.engine false l, mem) (board t.engine false l, mem)
  goes t f c = (refl, record { short = f.short; clear = clear_of t.engine.run.job c }, refl)

  tick-at : (j : Job) → Fit (board e false l) → Clear j l →
      Result (not (is_waiting j || rests_by j)) (at false)
      (board (ticked_by pulse_of (fetch_of e.held mem) j e).engine false l, mem)
      (board (ticked_by pulse_of (fetch_of e.held mem) j e).engine false l, mem)
  tick-at job.Idle f c = (refl, f)
  tick-at job.Storing f c = (refl, f)
  tick-at (job.Direct m) f c = goes (ticked_by pulse_of (fetch_of e.held mem) (job.Direct m) e) f c
  tick-at job.Ready f c = goes (ticked_by pulse_of (fetch_of e.held mem) job.Ready e) f c
  tick-at (job.Moving m) f c = goes (ticked_by pulse_of (fetch_of e.held mem) (job.Moving m) e) f c
  tick-at (job.Delay q) f c = goes (ticked_by pulse_of (fetch_of e.held mem) (job.Delay q) e) f c
  tick-at (job.Wait v t) f c = (refl, f)

  pub one-tick : (s : Bool) → Fit (board e s l) → Result (counts (board e s l)) (at s) (ticks (twin (at s))) (ticks (at s))
  unfolding ticked
  one-tick true f = (refl, f)
  one-tick false f = tick-at e.run.job f f.clear

  quiet-answer : (j : Job) → not (is_waiting j || rests_by j) ≡ false → spoken (paper (ticked_by pulse_of (fetch_of e.held mem) j e).answer) ≡ []
  quiet-answer job.Idle h = refl
  quiet-answer job.Storing h = refl
  quiet-answer (job.Direct m) h = absurd (true≢false h)
  quiet-answer job.Ready h = absurd (true≢false h)
  quiet-answer (job.Moving m) h = absurd (true≢false h)
  quiet-answer (job.Delay q) h = absurd (true≢false h)
  quiet-answer (job.Wait v t) h = refl

  -- a clock call that does not count answers nothing
  pub one_answer : (s : Bool) → counts (board e s l) ≡ false → tells (at s) ≡ []
  unfolding ticked
  one_answer true h = refl
  one_answer false h = quiet-answer e.run.job h
