-- Ours has `SpacesChangeNothing` (02 §8). Assumes nothing.
use Prim.Native.Nat.{ℕ, suc, ◌+◌, ◌≤◌, ◌<◌}
use mathlib.Core.Path.{◌≡◌, refl, sym, ap, ◌∙◌}
use mathlib.Core.Bool.{Bool, true, false, not, ◌&&◌, ◌||◌}
use mathlib.Core.List.{List, [], ◌∷◌, ◌++◌, append_assoc, append-nil}
use native.Mathlib.Omega.{arith}
use native.Mathlib.Numerals.{add-one}
use borrow.Author.Tests.{lt-ltb}
use lib.Dec.{eqb}
use lib.ListN.{length, length-set, length-append}
use lib.Seq.{take-suc-set}
use Rattle.count.specs.Pick.{pick}
use Rattle.count.proofs.laws.Truth.{and_left, and_right, never}
use Rattle.record.specs.Memory.{Memory, RightMemory}
use Rattle.line.specs.Code.{Code}
use Rattle.line.specs.Code as code
use Rattle.line.specs.Said.{Stored}
use Rattle.line.specs.Lines.{direct_of, stored_of}
use Rattle.line.specs.Spaces.{SameButSpaces}
use Rattle.line.proofs.laws.Spaces.{none_alike, first_alike, direct-alike, stored-alike}
use Rattle.engine.specs.declared.Engine.{Engine}
use Rattle.engine.specs.declared.Job.{Job}
use Rattle.engine.specs.declared.Job.TheVariants as job
use Rattle.engine.specs.Kinds.{Ear}
use Rattle.engine.specs.Kinds.Ear.{gathers, drops, waits}
use Rattle.engine.specs.State.{with_run, with_job, running, heard_by, heard}
use Rattle.board.specs.declared.Line.{Line}
use Rattle.board.specs.declared.Board.{Board}
use Rattle.board.specs.State.{board, text_of, gathered, with_line, Said, said, sound}
use Rattle.board.specs.Direct.{direct_said}
use Rattle.board.specs.Storing.{stored_by, stored_said}
use Rattle.board.specs.Receive.{ear_by, ear_of, is_storing, returned, gathering, hearing}
use Rattle.board.proofs.laws.Hears.{sound-engine}
use Rattle.promise.specs.Machine.{ours}
use Rattle.promise.specs.Demands.{is_idle, idles, stores, ticks, Host, Sent, after, sent}
use Rattle.promise.specs.Steps.{Each}
use Rattle.promise.specs.Spaces.{Gathers, IsLine, NoneBegun, Between, no-calls, at_rest, silence, sending, SameOutcome, SpacesChangeNothing}
use Rattle.promise.proofs.laws.KeepsCalls.{is_right, is_right-both}
use Rattle.promise.proofs.laws.Gathering.{ticks-quiet, step, goes, one-step, hear-plain, gathered_all, unanswered, heard-step, gather-bytes}

-- ---- what a line and its return come to, and that two lines come to the same

abbrev ended : List ℕ → Said → Sent ours
ended t x = record { state = x.board; memory = x.memory; replies = silence t ++ x.reply ∷ [] }

same : (g h : Host) (t u : List ℕ) (b : Board) (mem : Memory) (x : Said)
    → sending ours g t b mem ≡ ended t x → sending ours h u b mem ≡ ended u x → SameOutcome ours t u (sending ours g t b mem) (sending ours h u b mem)
same g h t u b mem x p q = record {
  state = ap (λ (s : Sent ours). s.state) p ∙ sym (ap (λ (s : Sent ours). s.state) q);
  memory = ap (λ (s : Sent ours). s.memory) p ∙ sym (ap (λ (s : Sent ours). s.memory) q);
  reply = x.reply;
  one = ap (λ (s : Sent ours). s.replies) p;
  other = ap (λ (s : Sent ours). s.replies) q;
}

-- ---- clock calls between the bytes

rests-by : (a b c d : Bool) → a || b || c ≡ true → a || b || c || d ≡ true
rests-by true b c d h = refl
rests-by false true c d h = refl
rests-by false false true d h = refl
rests-by false false false d h = let z : ◌≡◌ {A = ℕ} 0 1 = cc in absurd (omega arith)

calm : (h : Host) (b : Board) (mem : Memory) → Between h b → (i : ℕ) (x : Line) → ticks ours (h.calls i) mem (with_line b x) ≡ with_line b x
unfolding ticks
calm h b mem (no-calls z) i x = rw (z i)
calm h b mem (at_rest r) i x = ticks-quiet (h.calls i) mem (with_line b x) (rests-by b.standing (idles b) (stores b) _ r)

-- ---- bytes that change nothing: refused, or dropped

silence-return : (t : List ℕ) → silence (t ++ 13 ∷ []) ≡ silence t ++ [] ∷ []
silence-return [] = refl
silence-return (v ∷ t) = ap (λ (x : List (List ℕ)). [] ∷ x) (silence-return t)

abbrev Low : ℕ → Type 0
Low v = v ≤ 252

low-return : (t : List ℕ) → Each Gathers t → Each Low (t ++ 13 ∷ [])
low-return [] q = (omega arith, tt)
low-return (v ∷ t) q = (q.0.0, low-return t q.1)

module _ (host : Host) (b : Board) (mem : Memory) (still : (i : ℕ) → ticks ours (host.calls i) mem b ≡ b)
    (nothing : (v : ℕ) (ports : List ℕ) → v ≤ 252 → step v ports b mem ≡ said b [] mem) where
  quiet_all : (l : List ℕ) (i : ℕ) → Each Low l → sent ours host i l b mem ≡ record { state = b; memory = mem; replies = silence l }
  unfolding sent
  quiet_all [] i q = refl
  quiet_all (v ∷ l) i q =
      one-step host i v l b mem (still i)
      ∙ ap (goes host i v l b mem) (nothing v (host.ports i) q.0)
      ∙ ap (after ours []) (quiet_all l (suc i) q.1)

  quiet_line : (t : List ℕ) (i : ℕ) → Each Gathers t → sent ours host i (t ++ 13 ∷ []) b mem ≡ ended t (said b [] mem)
  quiet_line t i q =
      quiet_all (t ++ 13 ∷ []) i (low-return t q) ∙ ap (λ (r : List (List ℕ)). record { state = b; memory = mem; replies = r }) (silence-return t)

-- ---- a line that is gathered

-- the bytes gathered so far, in 80 of them
pub record Holds (x : Line) (p : List ℕ) : Type 0 where
  pub room : length x.bytes ≡ 80
  pub len : x.len ≡ length p
  pub fits : x.over ≡ false
  pub text : text_of x ≡ p

holds_more : (v : ℕ) (x : Line) (p : List ℕ) → length p < 80 → Holds x p → Holds (gathered v x) (p ++ v ∷ [])
unfolding gathered
holds_more v x p h k =
    let n : x.len < 80 = rw k.len h in
    let m : x.len < length x.bytes = rw k.room n in
    let e : length (p ++ v ∷ []) ≡ length p + 1 = length-append p (v ∷ []) in
    rw (lt-ltb x.len 80 n) (record {
      room = length-set x.bytes x.len v ∙ k.room;
      len = rw k.len (sym e);
      fits = k.fits;
      text = rw add-one (take-suc-set x.bytes x.len v m ∙ ap (λ (l : List ℕ). l ++ v ∷ []) k.text);
    })

holds-all : (t : List ℕ) (x : Line) (p : List ℕ) → length p + length t ≤ 80 → Holds x p → Holds (gathered_all t x) (p ++ t)
holds-all [] x p h k = rw (append-nil p) k
holds-all (v ∷ t) x p h k =
    let e : length (p ++ v ∷ []) ≡ length p + 1 = length-append p (v ∷ []) in
    rw (← append_assoc p (v ∷ []) t) (holds-all t (gathered v x) (p ++ v ∷ []) (omega arith) (holds_more v x p (omega arith) k))

-- what a return comes to does not depend on the line's bytes but through what it says
stored-lineless : (c : Code) (d : Stored) (b : Board) (x : Line) (mem : Memory) → stored_by c d (with_line b x) mem ≡ stored_by c d b mem
stored-lineless code.Wrong d b x mem = refl
stored-lineless (code.Record c) d b x mem = refl
stored-lineless code.End d b x mem = refl

not_taken : (c : Bool) (x y : Said) → c ≡ false → pick c x y ≡ y
not_taken c x y h = rw h

module _ (b : Board) (mem : Memory) where
  abbrev storing : Bool
  storing = is_storing b.engine.run.job && not b.standing

  abbrev said_by : List ℕ → List ℕ → Said
  said_by ports t = pick storing (stored_said (stored_of t) b mem) (direct_said (direct_of t) ports b mem)

  said-alike : (ports t u : List ℕ) → SameButSpaces t u → said_by ports t ≡ said_by ports u
  said-alike ports t u e = rw (direct-alike t u e, stored-alike t u e)

  return-said : (ports t : List ℕ) (x : Line) → x.over ≡ false → text_of x ≡ t → returned ports (with_line b x) mem ≡ said_by ports t
  unfolding returned stored_said direct_said
  return-said ports t x o e =
      not_taken x.over _ _ o
      ∙ ap (λ (l : List ℕ). pick storing (stored_said (stored_of l) (with_line b x) mem) (direct_said (direct_of l) ports (with_line b x) mem)) e
      ∙ ap (λ (y : Said). pick storing y (direct_said (direct_of t) ports b mem)) (stored-lineless (stored_of t).code (stored_of t) b x mem)

unanswered-so : (t : List ℕ) (x : Sent ours) → unanswered t x ≡ record { state = x.state; memory = x.memory; replies = silence t ++ x.replies }
unanswered-so [] x = refl
unanswered-so (v ∷ t) x = ap (after ours []) (unanswered-so t x)

module _ (host : Host) (b : Board) (mem : Memory) (between : Between host b) (ear : ear_of b ≡ gathers) (right : sound b ≡ true) (n : RightMemory mem) where
  abbrev still : (i : ℕ) (x : Line) → ticks ours (host.calls i) mem (with_line b x) ≡ with_line b x
  still = calm host b mem between

  return-sent : (t : List ℕ) (j : ℕ) (x : Line) → x.len ≤ 80 → x.over ≡ false → text_of x ≡ t
      → sent ours host j (13 ∷ []) (with_line b x) mem ≡ ended [] (said_by b mem (host.ports j) t)
  unfolding sent gathering
  return-sent t j x k o e =
      one-step host j 13 [] (with_line b x) mem (still j x)
      ∙ ap (goes host j 13 [] (with_line b x) mem)
      (heard-step host b mem ear (sound-engine b right) n still 13 (host.ports j) x (omega arith) k ∙ return-said b mem (host.ports j) t x o e)

  gathered-line : (t : List ℕ) → IsLine t → NoneBegun b → sending ours host t b mem ≡ ended t (said_by b mem (host.ports (length t)) t)
  gathered-line t q z =
      let k : Holds b.line [] = record { room = z.room; len = z.none; fits = z.fits; text = rw z.none } in
      let m : length t ≤ 80 = q.short in
      let e : 0 + length t ≡ length t = omega arith in
      let f = holds-all t b.line [] (omega arith) k in
      let l : (gathered_all t b.line).len ≤ 80 = rw f.len q.short in
      gather-bytes host b mem ear (sound-engine b right) n still t 0 (13 ∷ []) b.line q.bytes (rw z.none (omega arith))
      ∙ unanswered-so t _
      ∙ ap (λ (x : Sent ours). record { state = x.state; memory = x.memory; replies = silence t ++ x.replies })
      (return-sent t (0 + length t) (gathered_all t b.line) l f.fits f.text)
      ∙ ap (λ (j : ℕ). ended t (said_by b mem (host.ports j) t)) e

-- ---- a wait takes the first byte, and the others are dropped

ready_by : (c : Bool) (t : ℕ) (e : Engine) → ear_by (pick c (with_run e (running job.Ready t e.run.loops)) (with_job e job.Ready)).run.job ≡ drops
ready_by true t e = refl
ready_by false t e = refl

-- where a byte meets a wait, the board is not at rest, and once it has heard the byte it drops the next
waits-by : (s : Bool) (j : Job) (v : ℕ) (e : Engine) → pick s gathers (ear_by j) ≡ waits
    → (s || is_idle j && not s || is_storing j && not s ≡ false) × (pick s gathers (ear_by (heard_by j v e).run.job) ≡ drops)
waits-by true j v e h = let z : ◌≡◌ {A = ℕ} 0 1 = cc in absurd (omega arith)
waits-by false job.Idle v e h = let z : ◌≡◌ {A = ℕ} 0 1 = cc in absurd (omega arith)
waits-by false job.Storing v e h = let z : ◌≡◌ {A = ℕ} 0 1 = cc in absurd (omega arith)
waits-by false (job.Direct m) v e h = let z : ◌≡◌ {A = ℕ} 0 1 = cc in absurd (omega arith)
waits-by false job.Ready v e h = let z : ◌≡◌ {A = ℕ} 0 1 = cc in absurd (omega arith)
waits-by false (job.Moving m) v e h = let z : ◌≡◌ {A = ℕ} 0 1 = cc in absurd (omega arith)
waits-by false (job.Delay q) v e h = let z : ◌≡◌ {A = ℕ} 0 1 = cc in absurd (omega arith)
waits-by false (job.Wait c t) v e h = (refl, ready_by (eqb v c) t e)

abbrev first_byte : List ℕ → ℕ
first_byte [] = 13
first_byte (v ∷ t) = v

first-same : (t u : List ℕ) → SameButSpaces t u → first_byte t ≡ first_byte u
first-same [] [] e = refl
first-same [] (b ∷ u) e = none_alike b u e
first-same (a ∷ t) [] e = none_alike a t (sym e)
first-same (a ∷ t) (b ∷ u) e = first_alike a b t u e

-- bytes that are dropped, or refused
dropped : (b : Board) (mem : Memory) → ear_of b ≡ drops → (v : ℕ) (ports : List ℕ) → v ≤ 252 → step v ports b mem ≡ said b [] mem
dropped b mem e v ports h = by (is_right mem && sound b)
  where
    by : (c : Bool) → pick c (hearing v ports b mem) (said b [] mem) ≡ said b [] mem
    by true = hear-plain v ports b mem h ∙ rw e
    by false = refl

module _ (host : Host) (b : Board) (mem : Memory) (between : Between host b) (ear : ear_of b ≡ waits) (right : is_right mem && sound b ≡ true) where
  abbrev woken : ℕ → Board
  woken v = board (heard v b.engine) b.standing b.line

  woken-drops : (v : ℕ) → ear_of (woken v) ≡ drops
  unfolding ear_of heard
  woken-drops v = (waits-by b.standing b.engine.run.job v b.engine ear).1

  none_between : Between host b → (i : ℕ) → host.calls i ≡ 0
  unfolding ear_of
  none_between (no-calls z) i = z i
  none_between (at_rest r) i = never (sym (waits-by b.standing b.engine.run.job 0 b.engine ear).0 ∙ r)

  no-ticks : (c : Board) (i : ℕ) → ticks ours (host.calls i) mem c ≡ c
  unfolding ticks
  no-ticks c i = rw (none_between between i)

  waking : (v i : ℕ) (l : List ℕ) → v ≤ 252 → sent ours host i (v ∷ l) b mem ≡ after ours [] (sent ours host (suc i) l (woken v) mem)
  waking v i l h =
      one-step host i v l b mem (no-ticks b i) ∙ ap (goes host i v l b mem) (rw (right, hear-plain v (host.ports i) b mem h, ear))

  woken-line : (t : List ℕ) → Each Gathers t → sending ours host t b mem ≡ ended t (said (woken (first_byte t)) [] mem)
  unfolding sent
  woken-line [] q = waking 13 0 [] (omega arith)
  woken-line (v ∷ t) q =
      waking v 0 (t ++ 13 ∷ []) q.0.0
      ∙ ap (after ours []) (quiet_line host (woken v) mem (no-ticks (woken v)) (dropped (woken v) mem (woken-drops v)) t 1 q.1)

-- ---- THE THEOREM OF 02 §8

pub keeps-spaces : SpacesChangeNothing ours
keeps-spaces g h t u b mem lt lu alike begun bg bh ports = by (is_right mem && sound b) refl (ear_of b) refl
  where
    quiet : ((v : ℕ) (ports : List ℕ) → v ≤ 252 → step v ports b mem ≡ said b [] mem)
        → SameOutcome ours t u (sending ours g t b mem) (sending ours h u b mem)
    quiet n =
        same g h t u b mem (said b [] mem)
        (quiet_line g b mem (λ i. calm g b mem bg i b.line) n t 0 lt.bytes)
        (quiet_line h b mem (λ i. calm h b mem bh i b.line) n u 0 lu.bytes)

    by : (c : Bool) → is_right mem && sound b ≡ c → (k : Ear) → ear_of b ≡ k
        → SameOutcome ours t u (sending ours g t b mem) (sending ours h u b mem)
    by false e k f = quiet (λ v ports q. rw e)
    by true e drops f = quiet (dropped b mem f)
    by true e gathers f =
        let n = is_right-both mem (and_left (is_right mem) (sound b) e) in
        let s = and_right (is_right mem) (sound b) e in
        let x = said_by b mem (g.ports (length t)) t in
        same g h t u b mem x (gathered-line g b mem bg f s n t lt begun)
        (gathered-line h b mem bh f s n u lu begun ∙ ap (ended u) (rw (← ports) (sym (said-alike b mem (g.ports (length t)) t u alike))))
    by true e waits f =
        let x = said (woken g b mem bg f e (first_byte t)) [] mem in
        same g h t u b mem x (woken-line g b mem bg f e t lt.bytes)
        (woken-line h b mem bh f e u lu.bytes ∙ ap (λ (v : ℕ). ended u (said (board (heard v b.engine) b.standing b.line) [] mem)) (sym (first-same t u alike)))
