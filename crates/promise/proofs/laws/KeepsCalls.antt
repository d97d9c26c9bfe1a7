-- Ours has `RefusedCall`, `Quiet` and `Counted`. Assumes nothing.
use Prim.Native.Nat.{ℕ, zero, suc, ◌+◌, ◌<◌}
use mathlib.Core.Path.{◌≡◌, refl, sym, ap, ◌∙◌}
use mathlib.Core.Bool.{Bool, true, false, not, ◌&&◌, ◌||◌}
use mathlib.Core.List.{List, []}
use native.Mathlib.Omega.{arith}
use borrow.Author.Tests.{eq-eqb, eqb-true, eqb-false}
use lib.Dec.{ltb, eqb}
use lib.ListN.{length}
use Rattle.count.specs.Pick.{pick}
use Rattle.count.specs.Paper.{says}
use Rattle.count.proofs.laws.Truth.{never, and_parts, both}
use Rattle.travel.specs.Next.{pulse_of}
use Rattle.record.specs.Memory.{Memory, RightMemory, store_fits, table_fits}
use Rattle.record.specs.Places.{Records, records_of}
use Rattle.record.specs.Places.Records.{are, none-are}
use Rattle.record.specs.Table.{fetch_of}
use Rattle.record.specs.Listing.{Telling, telling, tell, list_of}
use Rattle.engine.specs.declared.Job.{Job}
use Rattle.engine.specs.declared.Job.TheVariants as job
use Rattle.engine.specs.declared.Answer.TheVariants as answer
use Rattle.engine.specs.declared.Engine.{Engine}
use Rattle.engine.specs.declared.Told.{Told}
use Rattle.engine.specs.State.{paper}
use Rattle.engine.specs.Tick.{Rule, Fetching, told, ticked_by, ticked}
use Rattle.board.specs.declared.Board.{Board}
use Rattle.board.specs.Calls.{Ticked}
use Rattle.board.specs.State.{board, sound}
use Rattle.board.specs.Receive.{hearing, is_storing}
use Rattle.board.specs.Calls.{Lent, Outcome, refused, answered, receiving, clocked, went_on, clocking, listing}
use Rattle.course.specs.Text.{turning, answer_text}
use Rattle.course.specs.Run.{runs_now, Course, no_calls, then, course}
use Rattle.promise.specs.Machine.{ours}
use Rattle.promise.specs.Demands.{is_idle, is_waiting, RefusedCall, Quiet, ticks, CountedRun, Counted}

-- ---- a memory as every call asks for it, as the calls test it

abbrev pub is_right : Memory → Bool
is_right mem = store_fits mem && table_fits mem

pub right-store : (mem : Memory) → RightMemory mem → store_fits mem ≡ true
right-store mem h = eq-eqb (length mem.store) 16384 h.0

pub right-table : (mem : Memory) → RightMemory mem → table_fits mem ≡ true
right-table mem h = eq-eqb (length mem.table) 1000 h.1

pub fits-right : (mem : Memory) → store_fits mem ≡ true → table_fits mem ≡ true → RightMemory mem
fits-right mem g h = (eqb-true (length mem.store) 16384 g, eqb-true (length mem.table) 1000 h)

pub is_right-both : (mem : Memory) → is_right mem ≡ true → RightMemory mem
is_right-both mem h = let d = and_parts (store_fits mem) (table_fits mem) h in fits-right mem d.0 d.1

pub right_is : (mem : Memory) → RightMemory mem → is_right mem ≡ true
right_is mem h = both (right-store mem h) (right-table mem h)

-- ---- a received byte: refused, or heard

module _ (v : ℕ) (ports : List ℕ) (b : Board) (l : Lent) where
  abbrev tested : Bool → Bool → Bool → Bool → Outcome → Outcome
  tested x y z w o = pick x (refused 101 b l) (pick (not y) (refused 102 b l) (pick (not z) (refused 103 b l) (pick (not w) (refused 104 b l) o)))

  abbrev hears : Outcome
  hears = answered (hearing v ports b l.memory) l.reply

  calm-by : (x y z w : Bool) (o : Outcome) → (tested x y z w o).result.refusal ≡ 0
      → (y ≡ true) × (z ≡ true) × (w ≡ true) × (tested x y z w o ≡ o)
  calm-by true y z w o h = absurd (omega arith)
  calm-by false false z w o h = absurd (omega arith)
  calm-by false true false w o h = absurd (omega arith)
  calm-by false true true false o h = absurd (omega arith)
  calm-by false true true true o h = (refl, refl, refl, refl)

  calm-all : (receiving v ports b l).result.refusal ≡ 0
      → (store_fits l.memory ≡ true) × (sound b ≡ true) × (table_fits l.memory ≡ true) × (receiving v ports b l ≡ hears)
  unfolding receiving
  calm-all h = calm-by (ltb (length l.reply) 32) (store_fits l.memory) (sound b) (table_fits l.memory) hears h

  -- a call that is not refused hears the byte
  pub calm : (receiving v ports b l).result.refusal ≡ 0 → receiving v ports b l ≡ answered (hearing v ports b l.memory) l.reply
  calm h = (calm-all h).3

  -- and was lent a memory as every call asks for it
  pub calm-memory : (receiving v ports b l).result.refusal ≡ 0 → RightMemory l.memory
  calm-memory h = fits-right l.memory (calm-all h).0 (calm-all h).2

  -- in a state that 103 does not refuse
  pub calm-sound : (receiving v ports b l).result.refusal ≡ 0 → sound b ≡ true
  calm-sound h = (calm-all h).1

  kept_by : (x y z w : Bool) (o : Outcome) → o.result.refusal ≡ 0 → ((tested x y z w o).result.refusal ≡ 0 → ⊥)
      → ((tested x y z w o).result.board ≡ b) × ((tested x y z w o).after ≡ l) × ((tested x y z w o).result.len ≡ 0)
  kept_by true y z w o e h = (refl, refl, refl)
  kept_by false false z w o e h = (refl, refl, refl)
  kept_by false true false w o e h = (refl, refl, refl)
  kept_by false true true false o e h = (refl, refl, refl)
  kept_by false true true true o e h = absurd (h e)

  pub kept : ((receiving v ports b l).result.refusal ≡ 0 → ⊥)
      → ((receiving v ports b l).result.board ≡ b) × ((receiving v ports b l).after ≡ l) × ((receiving v ports b l).result.len ≡ 0)
  unfolding receiving
  kept h = kept_by (ltb (length l.reply) 32) (store_fits l.memory) (sound b) (table_fits l.memory) hears refl h

-- ---- a clock call: refused, standing, or the engine's

module _ (b : Board) (mem : Memory) where
  abbrev pub engine_call : Ticked
  engine_call = went_on b (ticked pulse_of (fetch_of b.engine.held mem) b.engine)

  abbrev nothing : ℕ → Ticked
  nothing n = clocked n b answer.Nothing

  abbrev pub tried_by : Bool → Bool → Bool → Bool → Ticked
  tried_by x y w z = pick (not x) (nothing 102) (pick (not y) (nothing 103) (pick (not w) (nothing 104) (pick z (nothing 0) engine_call)))

  -- a property of a clock call: it answers nothing, refused or standing, or the engine makes it
  pub by_call : (P : Ticked → Type 0) → ((n : ℕ) → P (clocked n b answer.Nothing)) → (sound b ≡ true → b.standing ≡ false → P engine_call)
      → P (clocking b mem)
  unfolding clocking
  by_call P n p = by (store_fits mem) (sound b) (table_fits mem) b.standing refl refl
    where
      by : (x y w z : Bool) → sound b ≡ y → b.standing ≡ z → P (tried_by x y w z)
      by false y w z e f = n 102
      by true false w z e f = n 103
      by true true false z e f = n 104
      by true true true true e f = n 0
      by true true true false e f = p e f

-- ---- lent another memory, no call changes anything

pub elsewhere-byte : (v : ℕ) (ports : List ℕ) (b : Board) (l : Lent) → (RightMemory l.memory → ⊥) → (receiving v ports b l).result.board ≡ b
elsewhere-byte v ports b l n = by (eqb (receiving v ports b l).result.refusal 0) refl
  where
    by : (x : Bool) → eqb (receiving v ports b l).result.refusal 0 ≡ x → (receiving v ports b l).result.board ≡ b
    by true q = absurd (n (calm-memory v ports b l (eqb-true (receiving v ports b l).result.refusal 0 q)))
    by false q = (kept v ports b l (eqb-false (receiving v ports b l).result.refusal 0 q)).0

-- it is refused 102, 103 or 104
pub elsewhere-call : (b : Board) (mem : Memory) → (RightMemory mem → ⊥) → (n : ℕ) × (clocking b mem ≡ clocked n b answer.Nothing)
unfolding clocking
elsewhere-call b mem n = by (store_fits mem) (sound b) (table_fits mem) refl refl
  where
    by : (x y w : Bool) → store_fits mem ≡ x → table_fits mem ≡ w → (k : ℕ) × (tried_by b mem x y w b.standing ≡ clocked k b answer.Nothing)
    by false y w p q = (102, refl)
    by true false w p q = (103, refl)
    by true true false p q = (104, refl)
    by true true true p q = absurd (n (fits-right mem p q))

-- ---- RefusedCall

heard-refused : (v : ℕ) (ports : List ℕ) (l : Lent) (s : Board) → ((receiving v ports s l).result.refusal ≡ 0 → ⊥)
    → ((receiving v ports s l).result.board ≡ s) × ((receiving v ports s l).after ≡ l) × ((receiving v ports s l).result.len ≡ 0)
heard-refused v ports l s h = kept v ports s l h

ticked-refused : (mem : Memory) (s : Board) → ((clocking s mem).refusal ≡ 0 → ⊥)
    → ((clocking s mem).board ≡ s) × (paper (clocking s mem).answer ≡ says 5 [])
ticked-refused mem s =
    by_call s mem (λ (t : Ticked). (t.refusal ≡ 0 → ⊥) → (t.board ≡ s) × (paper t.answer ≡ says 5 []))
    (λ n h. (refl, refl)) (λ p q h. absurd (h refl))

module _ (store text : List ℕ) (s : Board) where
  -- where it is refused, no text
  abbrev NoText : Telling → Type 0
  NoText t = (t.listed.refusal ≡ 0 → ⊥) → (t.text ≡ text) × (t.listed.len ≡ 0)

  told-by : (r : Records) → NoText (tell r text)
  told-by (are l) h = absurd (h refl)
  told-by none-are h = (refl, refl)

  listed_by : (a c d e : Bool)
      → NoText (pick a (telling 102 0 text) (pick c (telling 103 0 text) (pick d (telling 103 0 text) (pick e (telling 106 0 text) (tell (records_of s.engine.held store) text)))))
  listed_by true c d e h = (refl, refl)
  listed_by false true d e h = (refl, refl)
  listed_by false false true e h = (refl, refl)
  listed_by false false false true h = (refl, refl)
  listed_by false false false false h = told-by (records_of s.engine.held store) h

  listed-refused : NoText (listing s store text)
  unfolding listing list_of
  listed-refused h = listed_by (not (eqb (length store) 16384)) (not (sound s)) (ltb 16384 s.engine.held.used) (ltb (length text) 32768) h

pub keeps-refused-call : RefusedCall ours
keeps-refused-call = (heard-refused, ticked-refused, listed-refused)

-- ---- Quiet

tick-quiet : (rule : Rule) (fetch : Fetching) (e : Engine) (j : Job) → is_idle j || is_storing j || is_waiting j ≡ true → ticked_by rule fetch j e ≡ told e answer.Nothing
tick-quiet rule fetch e job.Idle h = refl
tick-quiet rule fetch e job.Storing h = refl
tick-quiet rule fetch e (job.Direct m) h = never h
tick-quiet rule fetch e job.Ready h = never h
tick-quiet rule fetch e (job.Moving m) h = never h
tick-quiet rule fetch e (job.Delay q) h = never h
tick-quiet rule fetch e (job.Wait c t) h = refl

rest-job : (s x y z : Bool) → s ≡ false → s || (x && not s) || (y && not s) || (z && not s) ≡ true → x || y || z ≡ true
rest-job true x y z e h = never (sym e)
rest-job false true y z e h = refl
rest-job false false true z e h = refl
rest-job false false false true e h = refl
rest-job false false false false e h = h

pub keeps-quiet : Quiet ours
unfolding ticked
keeps-quiet mem s h =
    by_call s mem (λ (t : Ticked). (t.board ≡ s) × (paper t.answer ≡ says 5 [])) (λ n. (refl, refl))
    (λ p q.
    let j = s.engine.run.job in
    let r = rest-job s.standing (is_idle j) (is_storing j) (is_waiting j) q h in
    let e = tick-quiet pulse_of (fetch_of s.engine.held mem) s.engine j r in
    (ap (λ (t : Told). board t.engine s.standing s.line) e, ap (λ (t : Told). paper t.answer) e))

-- ---- Counted

module _ (mem : Memory) where
  first-each : (s : Board) (n : ℕ) → runs_now s ≡ true
      → ((j : ℕ) → j < n → runs_now (ticks ours j mem (clocking s mem).board) ≡ true)
      → (j : ℕ) → j < suc n → runs_now (ticks ours j mem s) ≡ true
  unfolding ticks
  first-each s n r f zero h = r
  first-each s n r f (suc j) h = f j (omega arith)

  counted-by : (k : ℕ) (s : Board) (x : Bool) → runs_now s ≡ x
      → CountedRun ours k mem (clocking s mem).board (course k mem (clocking s mem).board).board (course k mem (clocking s mem).board).calls
      → CountedRun ours (suc k) mem s
      (elim x as (λ _. Course) [ true ↦ then (answer_text (turning s.engine) (clocking s mem).answer) (course k mem (clocking s mem).board) | false ↦ no_calls s ]).board
      (elim x as (λ _. Course) [ true ↦ then (answer_text (turning s.engine) (clocking s mem).answer) (course k mem (clocking s mem).board) | false ↦ no_calls s ]).calls
  unfolding ticks
  counted-by k s true e c =
      let n = (course k mem (clocking s mem).board).calls in
      let q : 1 + n ≡ suc n = omega arith in
      record {
        made = c.made ∙ ap (λ (i : ℕ). ticks ours i mem s) (sym q);
        most = omega (arith, c.most);
        each = λ j l. first-each s n e c.each j (omega arith);
        over = λ l. c.over (omega arith);
      }
  counted-by k s false e c = record { made = refl; most = omega arith; each = λ j l. absurd (omega arith); over = λ l. e }

  pub keeps-counted-by : (limit : ℕ) (s : Board) → CountedRun ours limit mem s (course limit mem s).board (course limit mem s).calls
  unfolding course ticks
  keeps-counted-by zero s = record { made = refl; most = omega arith; each = λ j l. absurd (omega arith); over = λ l. absurd (omega arith) }
  keeps-counted-by (suc k) s = counted-by k s (runs_now s) refl (keeps-counted-by k (clocking s mem).board)

pub keeps-counted : Counted ours
keeps-counted limit mem s = keeps-counted-by mem limit s
