-- Demand 3 is not empty on our machine: a stop really stands and sends F wherever 01 allows it, does nothing elsewhere, and an accepted S
-- really goes on (see the end of `Stop.antt`).
use Prim.Native.Nat.{ℕ, ◌≤◌}
use mathlib.Core.Bool.{Bool, true, false, not, ◌&&◌, ◌||◌, true≢false}
use mathlib.Core.List.{List, [], ◌∷◌}
use mathlib.Core.Path.{◌≡◌, refl, sym, ◌∙◌, ap}
use lib.Dec.{leb, eqb}
use lib.ListN.{length}
use Rattle.count.specs.Pick.{pick}
use Rattle.line.specs.Letter as letter
use Rattle.line.specs.Said.{Direct}
use Rattle.line.specs.Lines.{direct_of, after_address, letter_of, behind, stored_of}
use Rattle.record.specs.Memory.{Memory, RightMemory}
use Rattle.engine.specs.declared.Job.{Job}
use Rattle.engine.specs.declared.Job.TheVariants as job
use Rattle.engine.specs.declared.Engine.{Engine}
use Rattle.engine.specs.Sound.{sound_of}
use Rattle.board.specs.declared.Line.{Line}
use Rattle.board.specs.declared.Board.{Board}
use Rattle.board.specs.State.{board, no_line, text_of, gathered, sound, Said, said}
use Rattle.board.specs.Direct.{reply_of, first, direct_said}
use Rattle.board.specs.Storing.{stored_said}
use Rattle.board.specs.Receive.{holds_by, ear_of, is_storing, stopped, hearing, returned, gathering}
use Rattle.board.specs.Calls.{lent, Outcome, answered, receiving}
use Rattle.promise.specs.Machine.{ours}
use Rattle.promise.specs.Steps.{reached}
use Rattle.promise.specs.Demands.{is_waiting}
use Rattle.promise.specs.Stop.{receive, own, rests_by, delays_by, stoppable, ahead, last, Called, Comes, heard_at, StopHolds, StopElseDoesNothing, StartGoesOn, start_line}
use Rattle.promise.proofs.laws.Gathering.{hear-so}
use Rattle.promise.proofs.laws.Letters.{is-letter}
use Rattle.promise.proofs.laws.StopBoard.{left}
use Rattle.promise.proofs.laws.StopSteps.{At}

comes : (v : ℕ) (ports reply : List ℕ) (p : At) (q : Said) → 32 ≤ length reply → Called ours p → hearing v ports p.0 p.1 ≡ q →
    Comes ours (heard_at ours v ports reply p) q.board q.reply reply q.memory
comes v ports reply (b, mem) q r c h =
    let e : receiving v ports b (lent reply mem) ≡ answered q reply = hear-so v ports b (lent reply mem) c.sound c.memory r ∙ ap (λ (d : Said). answered d reply) h in
    record {
      board = ap (λ (o : Outcome). o.result.board) e;
      len = ap (λ (o : Outcome). o.result.len) e;
      refusal = ap (λ (o : Outcome). o.result.refusal) e;
      reply = ap (λ (o : Outcome). o.after.reply) e;
      memory = ap (λ (o : Outcome). o.after.memory) e;
    }

-- ---- where a stop holds

holds_by-still : (s : Bool) (j : Job) → not s && not (is_waiting j || rests_by j) && not (delays_by j) ≡ holds_by j && not s
holds_by-still true job.Idle = refl
holds_by-still true job.Storing = refl
holds_by-still true (job.Direct m) = refl
holds_by-still true job.Ready = refl
holds_by-still true (job.Moving m) = refl
holds_by-still true (job.Delay q) = refl
holds_by-still true (job.Wait c t) = refl
holds_by-still false job.Idle = refl
holds_by-still false job.Storing = refl
holds_by-still false (job.Direct m) = refl
holds_by-still false job.Ready = refl
holds_by-still false (job.Moving m) = refl
holds_by-still false (job.Delay q) = refl
holds_by-still false (job.Wait c t) = refl

stop-by : (ports : List ℕ) (b : Board) (mem : Memory) (k : Bool) → stoppable b ≡ k →
    hearing 253 ports b mem ≡ pick k (said (board b.engine true b.line) (70 ∷ []) mem) (said b [] mem)
unfolding hearing stopped
stop-by ports b mem k h =
    ap (λ (t : Bool). pick t (said (board b.engine true b.line) (70 ∷ []) mem) (said b [] mem))
    (sym (holds_by-still b.standing b.engine.run.job) ∙ h)

pub ours-holds : StopHolds ours
ours-holds p ports reply c r h = comes 253 ports reply p (said (board p.0.engine true p.0.line) (70 ∷ []) p.1) r c (stop-by ports p.0 p.1 true h)

pub ours-else : StopElseDoesNothing ours
ours-else p ports reply c r h = comes 253 ports reply p (said p.0 [] p.1) r c (stop-by ports p.0 p.1 false h)

-- ---- an accepted S

start-said : (d : Direct) (ports : List ℕ) (e : Engine) (l : Line) (mem : Memory) → d.letter ≡ letter.Start → reply_of e true d ≡ 48 →
    direct_said d ports (board e true l) mem ≡ said (board e false no_line) [] mem
unfolding direct_said
start-said d ports e l mem h r = rw (r, h)

start-return : (ports : List ℕ) (e : Engine) (l : Line) (mem : Memory) → l.over ≡ false → (direct_of (text_of l)).letter ≡ letter.Start →
    reply_of e true (direct_of (text_of l)) ≡ 48 → returned ports (board e true l) mem ≡ said (board e false no_line) [] mem
unfolding returned
start-return ports e l mem o h r = by l.over (is_storing e.run.job) o
  where
    by : (t c : Bool) → t ≡ false → pick t (said (board e true no_line) (53 ∷ []) mem)
        (pick (c && false) (stored_said (stored_of (text_of l)) (board e true l) mem) (direct_said (direct_of (text_of l)) ports (board e true l) mem)) ≡ said (board e false no_line) [] mem
    by true c q = absurd (true≢false q)
    by false true q = start-said (direct_of (text_of l)) ports e l mem h r
    by false false q = start-said (direct_of (text_of l)) ports e l mem h r

start-heard : (ports : List ℕ) (e : Engine) (l : Line) (mem : Memory) → l.over ≡ false → (direct_of (text_of l)).letter ≡ letter.Start →
    reply_of e true (direct_of (text_of l)) ≡ 48 → hearing 13 ports (board e true l) mem ≡ said (board e false no_line) [] mem
unfolding hearing ear_of gathering
start-heard ports e l mem o h r = start-return ports e l mem o h r

pub ours-goes-on : StartGoesOn ours
ours-goes-on p ports reply c r s o h k =
    let d : Direct = direct_of (text_of p.0.line) in
    comes 13 ports reply p (said (board p.0.engine false no_line) [] p.1) r c
    (ap (λ (t : Bool). hearing 13 ports (board p.0.engine t p.0.line) p.1) s ∙ start-heard ports p.0.engine p.0.line p.1 o (is-letter d.letter letter.Start h) k)

-- ---- a stop and `@0S`

abbrev pub Stood : Board → List ℕ → List ℕ → Memory → Type 0
Stood b ports reply mem =
    ((ahead ours (b, mem) (receive 253 ports reply own)).0.standing ≡ true)
    × ((last ours (b, mem) (receive 253 ports reply own ∷ start_line ours ports reply)).0 ≡ b)
    × ((last ours (b, mem) (receive 253 ports reply own ∷ start_line ours ports reply)).1 ≡ mem)

module _ (ports reply : List ℕ) (e : Engine) (mem : Memory) (r : 32 ≤ length reply) (n : RightMemory mem) (s : sound_of e ≡ true) where
  next : (v : ℕ) (t : Bool) (l : Line) (q : At) → leb l.len 80 ≡ true → left (hearing v ports (board e t l) mem) ≡ q →
      ahead ours (board e t l, mem) (receive v ports reply own) ≡ q
  unfolding sound
  next v t l q h g = ap (λ (o : Outcome). (o.result.board, o.after.memory)) (hear-so v ports (board e t l) (lent reply mem) (rw (s, h)) n r) ∙ g

  line1 : Line
  line1 = gathered 64 no_line

  line2 : Line
  line2 = gathered 48 (gathered 64 no_line)

  line3 : Line
  line3 = gathered 83 (gathered 48 (gathered 64 no_line))

  at_sign : ahead ours (board e true no_line, mem) (receive 64 ports reply own) ≡ (board e true line1, mem)
  unfolding hearing ear_of gathering line1
  at_sign = next 64 true no_line (board e true line1, mem) refl refl

  zero-sign : ahead ours (board e true line1, mem) (receive 48 ports reply own) ≡ (board e true line2, mem)
  unfolding hearing ear_of gathering gathered line1 line2
  zero-sign = next 48 true line1 (board e true line2, mem) refl refl

  letter-sign : ahead ours (board e true line2, mem) (receive 83 ports reply own) ≡ (board e true line3, mem)
  unfolding hearing ear_of gathering gathered line2 line3
  letter-sign = next 83 true line2 (board e true line3, mem) refl refl

  is-start : (direct_of (text_of line3)).letter ≡ letter.Start
  unfolding gathered line3 direct_of after_address letter_of behind
  is-start = refl

  is-accepted : eqb e.axes 0 ≡ false → reply_of e true (direct_of (text_of line3)) ≡ 48
  unfolding gathered line3 direct_of after_address letter_of behind reply_of first
  is-accepted a = rw a

  return-sign : eqb e.axes 0 ≡ false → ahead ours (board e true line3, mem) (receive 13 ports reply own) ≡ (board e false no_line, mem)
  unfolding gathered line3
  return-sign a = next 13 true line3 (board e false no_line, mem) refl (ap left (start-heard ports e line3 mem refl is-start (is-accepted a)))

  goes_on : eqb e.axes 0 ≡ false → last ours (board e true no_line, mem) (start_line ours ports reply) ≡ (board e false no_line, mem)
  unfolding reached
  goes_on a =
      ap (λ (q : At). ahead ours (ahead ours (ahead ours q (receive 48 ports reply own)) (receive 83 ports reply own)) (receive 13 ports reply own)) at_sign
      ∙ ap (λ (q : At). ahead ours (ahead ours q (receive 83 ports reply own)) (receive 13 ports reply own)) zero-sign
      ∙ ap (λ (q : At). ahead ours q (receive 13 ports reply own)) letter-sign
      ∙ return-sign a

  stops : stoppable (board e false no_line) ≡ true → ahead ours (board e false no_line, mem) (receive 253 ports reply own) ≡ (board e true no_line, mem)
  stops h = next 253 false no_line (board e true no_line, mem) refl (ap left (stop-by ports (board e false no_line) mem true h))

  whole : stoppable (board e false no_line) ≡ true → eqb e.axes 0 ≡ false →
      last ours (board e false no_line, mem) (receive 253 ports reply own ∷ start_line ours ports reply) ≡ (board e false no_line, mem)
  unfolding reached
  whole h a = ap (λ (q : At). last ours q (start_line ours ports reply)) (stops h) ∙ goes_on a

  pub both : stoppable (board e false no_line) ≡ true → eqb e.axes 0 ≡ false → Stood (board e false no_line) ports reply mem
  both h a = (ap (λ (q : At). q.0.standing) (stops h), ap (λ (q : At). q.0) (whole h a), ap (λ (q : At). q.1) (whole h a))
