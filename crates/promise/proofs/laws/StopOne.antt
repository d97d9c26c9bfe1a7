-- One step of a schedule on our machine, refused or not, as the lemma about two machines wants it.
use Prim.Native.Nat.{ℕ, ◌<◌, ◌≤◌}
use native.Mathlib.Omega.{arith}
use mathlib.Core.Bool.{Bool, true, false, not, ◌&&◌, ◌||◌, true≢false}
use mathlib.Core.List.{List, []}
use mathlib.Core.Path.{◌≡◌, refl, sym, subst}
use borrow.Author.Tests.{le-ltb, lt-ltb, leb-true, eqb-true, eqb-false}
use lib.Dec.{leb, ltb, eqb}
use lib.ListN.{length}
use Rattle.count.proofs.laws.Truth.{and_right, and-false}
use Rattle.record.specs.Memory.{Memory}
use Rattle.board.specs.declared.Board.{Board}
use Rattle.board.specs.Receive.{stopped, hearing}
use Rattle.promise.specs.Machine.{ours}
use Rattle.promise.proofs.laws.Gathering.{hear-plain}
use Rattle.promise.proofs.laws.Guard as G
use Rattle.promise.specs.Stop.{Step, receive, call, own, other, Elsewhere, is_own, rightly, Mild, in_wait, rests, counts, takes, ahead}
use Rattle.promise.proofs.laws.StopBoard.{twin_board, Fit, left}
use Rattle.promise.proofs.laws.StopSteps.{byte, tick, At, twin, act_of, right, ticks, acted, our-byte, our-tick, refused-byte, refused-tick, Result, guarded, one-stop, one-ordinary, one-tick}

-- ---- one step, refused or not

heard-stop : (v : ℕ) (ports : List ℕ) (b : Board) (mem : Memory) → eqb v 253 ≡ true → hearing v ports b mem ≡ stopped b mem
unfolding hearing
heard-stop v ports b mem h = rw h

below : (v : ℕ) → v < 254 → eqb v 253 ≡ false → v < 253
below v h q = let n = eqb-false v 253 q in omega (arith, n)

byte-free : (v : ℕ) (ports : List ℕ) (p : At) → v < 254 → Fit p.0 →
    Result (ltb v 253 && takes p.0) p (left (hearing v [] (twin_board p.0) p.1)) (left (hearing v ports p.0 p.1))
byte-free v ports (b, mem) m f = by (eqb v 253) refl
  where
    by : (t : Bool) → eqb v 253 ≡ t →
        Result (ltb v 253 && takes b) (b, mem) (left (hearing v [] (twin_board b) mem)) (left (hearing v ports b mem))
    by true q =
        rw (le-ltb v 253 (let e = eqb-true v 253 q in omega arith), heard-stop v ports b mem q)
        (one-stop b.engine b.line mem b.standing (left (hearing v [] (twin_board b) mem)) f)
    by false q =
        let h = below v m q in
        let l : v ≤ 252 = omega arith in
        rw (lt-ltb v 253 h, hear-plain v ports b mem l, hear-plain v [] (twin_board b) mem l)
        (one-ordinary b.engine b.line mem v ports b.standing f)

-- the steps that count: a byte that is taken, a clock call while the board runs, neither refused for what is lent
abbrev pub keeps : At → Step → Bool
keeps p (receive v ports reply d) = rightly (receive v ports reply d) && (ltb v 253 && takes p.0)
keeps p (call d) = is_own d && counts p.0

awake-and : (s k : Bool) → not s && k ≡ true → s ≡ false
awake-and true k h = absurd (true≢false (sym h))
awake-and false k h = refl

-- whatever counts comes while nothing stands
pub awake : (p : At) (e : Step) → keeps p e ≡ true → p.0.standing ≡ false
awake p (receive v ports reply d) h =
    awake-and p.0.standing (in_wait p.0 || rests p.0)
    (and_right (ltb v 253) (takes p.0) (and_right (rightly (receive v ports reply d)) (ltb v 253 && takes p.0) h))
awake p (call d) h = awake-and p.0.standing (not (in_wait p.0 || rests p.0)) (and_right (is_own d) (counts p.0) h)

abbrev pub FitAt : At → Type 0
FitAt p = Fit p.0

-- refused for what is lent, it leaves both as they are
passed : (p u q : At) → Fit p.0 → q ≡ p → Result false p u q
passed p u q f h = subst (λ (r : At). Result false p u r) (sym h) (refl, f)

own-byte : (v : ℕ) (ports reply : List ℕ) (p : At) (r : Bool) → leb 32 (length reply) ≡ r → (r && true ≡ true → v < 254) → Fit p.0 →
    Result (r && true && (ltb v 253 && takes p.0)) p (acted (twin p) (byte v)) (ahead ours p (receive v ports reply own))
own-byte v ports reply p true q m f =
    subst (λ (s : At). Result (ltb v 253 && takes p.0) p (acted (twin p) (byte v)) s) (sym (our-byte v ports reply p f.short (leb-true 32 (length reply) q)))
    (guarded (right p.0.engine p.1) (ltb v 253 && takes p.0) p (left (hearing v [] (twin_board p.0) p.1)) (left (hearing v ports p.0 p.1)) f
    (λ h. awake-and p.0.standing (in_wait p.0 || rests p.0) (and_right (ltb v 253) (takes p.0) h)) (byte-free v ports p (m refl) f))
own-byte v ports reply p false q m f = passed p (acted (twin p) (byte v)) (ahead ours p (receive v ports reply own)) f (refused-byte v ports reply own p tt (rw q))

other_byte : (v : ℕ) (ports reply : List ℕ) (t : Memory) (p : At) (r : Bool) → Elsewhere (other t) → Fit p.0 →
    Result (r && false && (ltb v 253 && takes p.0)) p (acted (twin p) (byte v)) (ahead ours p (receive v ports reply (other t)))
other_byte v ports reply t p r n f = by r
  where
    left_out : Result false p (acted (twin p) (byte v)) (ahead ours p (receive v ports reply (other t)))
    left_out =
        passed p (acted (twin p) (byte v)) (ahead ours p (receive v ports reply (other t))) f
        (refused-byte v ports reply (other t) p n (and-false (leb 32 (length reply))))

    by : (r : Bool) → Result (r && false && (ltb v 253 && takes p.0)) p (acted (twin p) (byte v)) (ahead ours p (receive v ports reply (other t)))
    by true = left_out
    by false = left_out

pub result : (p : At) (e : Step) → Fit p.0 → Mild e → Result (keeps p e) p (acted (twin p) (act_of e)) (ahead ours p e)
result p (receive v ports reply own) f (m, n) = own-byte v ports reply p (leb 32 (length reply)) refl m f
result p (receive v ports reply (other t)) f (m, n) = other_byte v ports reply t p (leb 32 (length reply)) n f
result p (call own) f m =
    subst (λ (q : At). Result (counts p.0) p (acted (twin p) tick) q) (sym (our-tick p f.short))
    (guarded (right p.0.engine p.1) (counts p.0) p (ticks (twin p)) (ticks p) f
    (awake p (call own)) (one-tick p.0.engine p.0.line p.1 p.0.standing f))
result p (call (other t)) f m = passed p (acted (twin p) tick) (ahead ours p (call (other t))) f (refused-tick t p m).0

abbrev pub Moves : Bool → At → Step → Type 0
Moves k p e = G.Moves (ahead ours) acted keeps act_of twin FitAt Mild k p e

pub one : (p : At) (e : Step) → FitAt p → Mild e → Moves (keeps p e) p e × FitAt (ahead ours p e)
one p e f m = by (keeps p e) (result p e f m)
  where
    by : (k : Bool) → Result k p (acted (twin p) (act_of e)) (ahead ours p e) → Moves k p e × FitAt (ahead ours p e)
    by true h = (h.0, h.1)
    by false h = (h.0, h.1)
