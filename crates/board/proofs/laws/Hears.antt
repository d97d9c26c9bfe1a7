-- The code's way through one byte, and through a call, is the definition's. Assumes nothing.
use Prim.Native.Nat.{ℕ, ◌≤◌}
use mathlib.Core.Path.{◌≡◌, refl, sym, ap, ◌∙◌}
use mathlib.Core.Bool.{Bool, true, false, not, ◌&&◌, ◌||◌}
use mathlib.Core.List.{List, [], ◌++◌}
use native.Mathlib.Omega.{arith}
use borrow.Author.Tests.{eq-eqb, le-ltb, leb-true, leb-false, ltb-true, ltb-false}
use lib.Dec.{leb, ltb}
use lib.ListN.{length, drop}
use Rattle.count.specs.Pick.{pick}
use Rattle.count.proofs.laws.Truth.{and_left, and_right}
use Rattle.travel.specs.Next.{pulse_of}
use Rattle.travel.specs.work.Beat.{next_of}
use Rattle.record.specs.Memory.{Memory, RightMemory}
use Rattle.record.specs.Table.{fetch_of}
use Rattle.record.specs.Listing.{Telling, list_of}
use Rattle.line.specs.Said.{Direct}
use Rattle.line.specs.Lines.{direct_of, stored_of}
use Rattle.engine.specs.declared.Job.{Job}
use Rattle.engine.specs.declared.Job.TheVariants as job
use Rattle.engine.specs.declared.Told.{Told}
use Rattle.engine.specs.declared.Act.{Act}
use Rattle.engine.specs.State.{heard, ceased}
use Rattle.engine.specs.Sound.{sound_of}
use Rattle.engine.specs.Tick.{ticked}
use Rattle.engine.specs.work.Acts.{seen_of, is_wrong, acted_by}
use Rattle.engine.proofs.laws.Laws.{rules-agree}
use Rattle.engine.proofs.laws.Acts.{seen-wrong, seen-act, acted-is-ticked}
use Rattle.board.specs.declared.Board.{Board}
use Rattle.board.specs.Calls.{Received}
use Rattle.board.specs.declared.Saying.TheVariants as saying
use Rattle.board.specs.declared.Spoke.{Spoke}
use Rattle.board.specs.State.{board, text_of, Said, said, sound}
use Rattle.board.specs.Storing.{stored_said}
use Rattle.engine.specs.Kinds.Ear.{gathers}
use Rattle.board.specs.Receive.{ear_by, ear_of, is_storing, holds_by, ends_by, returned, gathering, ordinary, stopped, broken, hearing}
use Rattle.board.specs.Calls.{lent, did, answered, receiving, went_on, clocking, listing}
use Rattle.board.specs.work.Work as work
use Rattle.board.specs.work.Work.{spoke, spoke_of, replied_with, obeyed, received_of, stop_spoke, break_spoke, gathers_by, waits_by}
use Rattle.board.proofs.laws.Obeys.{obey-so}

pub spoke-as : (m : Memory) {r s : Spoke} → r ≡ s → spoke r m ≡ spoke s m
spoke-as m e = ap (λ (x : Spoke). spoke x m) e

-- ---- the carriage return

module _ (ports : List ℕ) (b : Board) (m : Memory) where
  pub return-over : b.line.over ≡ true → {r : Spoke} → r ≡ replied_with b b.engine 53 → spoke r m ≡ returned ports b m
  unfolding returned
  return-over h p = spoke-as m p ∙ rw h

  module _ (o : b.line.over ≡ false) {g : Bool} (e : g ≡ is_storing b.engine.run.job) where
    pub return-stored : g && not b.standing ≡ true → {x : Said} → x ≡ stored_said (stored_of (text_of b.line)) b m → x ≡ returned ports b m
    unfolding returned
    return-stored h p = p ∙ rw (o, ← e, h)

    pub return-direct : g && not b.standing ≡ false → {d : Direct} → d ≡ direct_of (text_of b.line) → {r : Spoke} → r ≡ obeyed d ports b
        → spoke r m ≡ returned ports b m
    unfolding returned
    return-direct h q p = spoke-as m p ∙ sym (obey-so _ ports b m) ∙ rw (o, ← e, h, ← q)

-- ---- an ordinary byte

module _ (byte : ℕ) (ports : List ℕ) (b : Board) (m : Memory) where
  abbrev waited : Said
  waited = said (board (heard byte b.engine) b.standing b.line) [] m

  ear-by : (s : Bool) (j : Job)
      → ordinary (pick s gathers (ear_by j)) byte ports b m ≡ pick (s || gathers_by j) (gathering byte ports b m) (pick (waits_by j) waited (said b [] m))
  ear-by true j = refl
  ear-by false job.Idle = refl
  ear-by false job.Storing = refl
  ear-by false (job.Direct v) = refl
  ear-by false job.Ready = refl
  ear-by false (job.Moving v) = refl
  ear-by false (job.Delay q) = refl
  ear-by false (job.Wait c t) = refl

  pub ear-so : ordinary (ear_of b) byte ports b m
      ≡ pick (b.standing || gathers_by b.engine.run.job) (gathering byte ports b m) (pick (waits_by b.engine.run.job) waited (said b [] m))
  unfolding ear_of
  ear-so = ear-by b.standing b.engine.run.job

-- ---- the control codes

module _ (b : Board) (m : Memory) where
  by-pick : (t : Bool) (x y : Spoke) → spoke (pick t x y) m ≡ pick t (spoke x m) (spoke y m)
  by-pick true x y = refl
  by-pick false x y = refl

  pub stop-so : {r : Spoke} → r ≡ stop_spoke b → spoke r m ≡ stopped b m
  unfolding stop_spoke stopped
  stop-so p =
      spoke-as m p
      ∙ by-pick (holds_by b.engine.run.job && not b.standing) (spoke_of (board b.engine true b.line) (saying.One 70)) (spoke_of b saying.Silent)

  pub break-so : {r : Spoke} → r ≡ break_spoke b → spoke r m ≡ broken b m
  unfolding break_spoke broken
  break-so p =
      spoke-as m p
      ∙ by-pick (ends_by b.engine.run.job || b.standing) (spoke_of (board (ceased b.engine) false b.line) (saying.One 70)) (spoke_of b saying.Silent)

-- ---- the calls

pub sound-engine : (b : Board) → sound b ≡ true → sound_of b.engine ≡ true
unfolding sound
sound-engine b h = and_left (sound_of b.engine) (leb b.line.len 80) h

pub sound-line : (b : Board) → sound b ≡ true → b.line.len ≤ 80
unfolding sound
sound-line b h = leb-true b.line.len 80 (and_right (sound_of b.engine) (leb b.line.len 80) h)

pub received-so : (byte : ℕ) (ports : List ℕ) (b : Board) (reply : List ℕ) (m : Memory) → 32 ≤ length reply → RightMemory m → sound b ≡ true
    → (s : Spoke) {reply' : List ℕ} {m' : Memory} {r : Received} → spoke s m' ≡ hearing byte ports b m → r ≡ received_of s
    → reply' ≡ work.text_of s ++ drop (length (work.text_of s)) reply → did r (lent reply' m') ≡ receiving byte ports b (lent reply m)
unfolding receiving
received-so byte ports b reply m l k h s {reply'} {m'} {r} e p q =
    let z : did r (lent reply' m') ≡ answered (spoke s m') reply = rw (p, q) in
    z ∙ ap (λ (x : Said). answered x reply) e ∙ rw (le-ltb (length reply) 32 l, eq-eqb (length m.store) 16384 k.0, h, eq-eqb (length m.table) 1000 k.1)

-- the code's test of 103, on what a clock call would do and on the line
long-by : (n : ℕ) → ltb 80 n ≡ not (leb n 80)
long-by n = by (ltb 80 n) (leb n 80) refl refl
  where
    by : (a c : Bool) → ltb 80 n ≡ a → leb n 80 ≡ c → a ≡ not c
    by true true p q = absurd (omega (arith, ltb-true 80 n p, leb-true n 80 q))
    by true false p q = refl
    by false true p q = refl
    by false false p q = absurd (omega (arith, ltb-false 80 n p, leb-false n 80 q))

neither : (a b : Bool) → not a || not b ≡ not (a && b)
neither true b = refl
neither false b = refl

pub refused-so : (b : Board) {a : Act} {r : Bool} → a ≡ seen_of b.engine → r ≡ is_wrong a → r || ltb 80 b.line.len ≡ not (sound b)
unfolding sound
refused-so b e p =
    rw (p, e, seen-wrong b.engine, long-by b.line.len) (neither (sound_of b.engine) (leb b.line.len 80))

-- and what it then does
pub acted-so : (b : Board) (m : Memory) → sound b ≡ true → {a : Act} {t : Told} → a ≡ seen_of b.engine
    → t ≡ acted_by next_of (fetch_of b.engine.held m) a b.engine → t ≡ ticked next_of (fetch_of b.engine.held m) b.engine
acted-so b m h e p =
    rw (p, e, seen-act b.engine (sound-engine b h)) (acted-is-ticked (fetch_of b.engine.held m) b.engine)

pub clocked-so : (b : Board) (m : Memory) → RightMemory m → sound b ≡ true → b.standing ≡ false
    → {t : Told} → t ≡ ticked next_of (fetch_of b.engine.held m) b.engine → went_on b t ≡ clocking b m
unfolding clocking
clocked-so b m l h s {t} e =
    let p : t ≡ ticked pulse_of (fetch_of b.engine.held m) b.engine = e ∙ rules-agree (fetch_of b.engine.held m) b.engine (sound-engine b h) in
    ap (λ (x : Told). went_on b x) p ∙ rw (eq-eqb (length m.store) 16384 l.0, h, eq-eqb (length m.table) 1000 l.1, s)

pub listed-so : (b : Board) (store text : List ℕ) → length store ≡ 16384 → sound b ≡ true → {x : Telling} → x ≡ list_of b.engine.held store text
    → x ≡ listing b store text
unfolding listing
listed-so b store text l h p = p ∙ rw (eq-eqb (length store) 16384 l, h)
