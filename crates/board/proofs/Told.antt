-- What a call is told to come to says which result it was: no two results of the code read alike, and each thing told is one's. Assumes nothing.
use Rattle.std.specs.Prelude.{ℕ, Bool, true, false, not, List, ◌≡◌, Result, Ok, Err, eqb, ltb, length}
use Rattle.std.proofs.Common.{refl, sym, ap}
use Rattle.count.specs.Pick.{pick}
use Rattle.count.specs.declared.Refusal.{Refusal}
use Rattle.record.specs.Memory.{Memory, store_fits, table_fits}
use Rattle.record.specs.Table.{refused as refused_by}
use Rattle.record.proofs.laws.Replies.{number-one, number-some, refusal_at}
use Rattle.engine.specs.declared.Answer.{Answer}
use Rattle.board.specs.declared.Received.{Received as HeardBy}
use Rattle.board.specs.declared.Ticked.{Ticked as TickedBy}
use Rattle.engine.specs.declared.Answer.TheVariants as answer
use Rattle.engine.specs.declared.Told.{Told}
use Rattle.engine.specs.Tick.{ticked}
use Rattle.travel.specs.Next.{pulse_of}
use Rattle.record.specs.Table.{fetch_of}
use Rattle.board.specs.declared.Board.{Board}
use Rattle.board.specs.State.{Said, sound}
use Rattle.board.specs.Receive.{hearing}
use Rattle.board.specs.Calls.{Lent, Outcome, Received, received, len_in, refused, answered, receiving, Ticked, clocked, clocked_by, answer_in, went_on, clocking}

-- a result and what refuses it, told apart
by-refusal : {A : Type 0} (r s : Result A Refusal) → ((x y : A) → r ≡ Ok x → s ≡ Ok y → x ≡ y) → refused_by r ≡ refused_by s → r ≡ s
by-refusal (Ok x) (Ok y) f p = ap Ok (f x y refl refl)
by-refusal (Ok x) (Err t) f p = absurd (number-some t (sym p))
by-refusal (Err r) (Ok y) f p = absurd (number-some r p)
by-refusal (Err r) (Err t) f p = ap (λ (u : Refusal). Err u) (number-one r t p)

pub reply-one : (r s : Result ℕ Refusal) → len_in r ≡ len_in s → refused_by r ≡ refused_by s → r ≡ s
reply-one r s e = by-refusal r s (λ x y p q. rw (p, q) at e)

answer-one : (r s : Result Answer Refusal) → answer_in r ≡ answer_in s → refused_by r ≡ refused_by s → r ≡ s
answer-one r s e = by-refusal r s (λ x y p q. rw (p, q) at e)

pub received-one : (r s : HeardBy) → received r ≡ received s → r ≡ s
received-one r s e =
    let b : r.board ≡ s.board = ap (λ (x : Received). x.board) e in
    let a = reply-one r.reply s.reply (ap (λ (x : Received). x.len) e) (ap (λ (x : Received). x.refusal) e) in
    rw (b, a)

pub clocked-one : (r s : TickedBy) → clocked_by r ≡ clocked_by s → r ≡ s
clocked-one r s e =
    let b : r.board ≡ s.board = ap (λ (x : Ticked). x.board) e in
    let a = answer-one r.answer s.answer (ap (λ (x : Ticked). x.answer) e) (ap (λ (x : Ticked). x.refusal) e) in
    rw (b, a)

-- ---- each thing told is a result's

abbrev pub heard_told : Received → HeardBy
heard_told r = record { board = r.board; reply = pick (eqb r.refusal 0) (Ok r.len) (Err (refusal_at r.refusal)) }

module _ (b : Board) (l : Lent) where
  heard-by : (t u v w : Bool) (s : Said) (o : Outcome)
      → o ≡ pick t (refused 101 b l) (pick u (refused 102 b l) (pick v (refused 103 b l) (pick w (refused 104 b l) (answered s l.reply))))
      → o.result ≡ received (heard_told o.result)
  heard-by true u v w s o e = rw e refl
  heard-by false true v w s o e = rw e refl
  heard-by false false true w s o e = rw e refl
  heard-by false false false true s o e = rw e refl
  heard-by false false false false s o e = rw e refl

pub heard-any : (byte : ℕ) (ports : List ℕ) (b : Board) (l : Lent) → (receiving byte ports b l).result ≡ received (heard_told (receiving byte ports b l).result)
unfolding receiving
heard-any byte ports b l =
    heard-by b l (ltb (length l.reply) 32) (not (store_fits l.memory)) (not (sound b)) (not (table_fits l.memory)) (hearing byte ports b l.memory)
    (receiving byte ports b l) refl

abbrev pub clock_told : Ticked → TickedBy
clock_told t = record { board = t.board; answer = pick (eqb t.refusal 0) (Ok t.answer) (Err (refusal_at t.refusal)) }

clock-by : (b : Board) (t u v w : Bool) (d : Told) (k : Ticked)
    → k ≡ pick t (clocked 102 b answer.Nothing) (pick u (clocked 103 b answer.Nothing) (pick v (clocked 104 b answer.Nothing) (pick w (clocked 0 b answer.Nothing) (went_on b d))))
    → k ≡ clocked_by (clock_told k)
clock-by b true u v w d k e = rw e refl
clock-by b false true v w d k e = rw e refl
clock-by b false false true w d k e = rw e refl
clock-by b false false false true d k e = rw e refl
clock-by b false false false false d k e = rw e refl

pub clock-any : (b : Board) (m : Memory) → clocking b m ≡ clocked_by (clock_told (clocking b m))
unfolding clocking
clock-any b m = clock-by b (not (store_fits m)) (not (sound b)) (not (table_fits m)) b.standing (ticked pulse_of (fetch_of b.engine.held m) b.engine) (clocking b m) refl
