-- Bytes sent to ours one by one, refused or heard, and bytes that gather. Assumes nothing.
use Prim.Native.Nat.{ℕ, zero, suc, ◌+◌, ◌≤◌, ◌<◌}
use mathlib.Core.Path.{◌≡◌, refl, ap, ◌∙◌}
use mathlib.Core.Bool.{Bool, true, false, not, ◌&&◌, ◌||◌}
use mathlib.Core.List.{List, [], ◌∷◌, ◌++◌}
use native.Mathlib.Omega.{arith}
use borrow.Author.Tests.{lt-ltb, le-ltb, ne_eqb}
use lib.ListN.{length, take, drop}
use lib.Seq.{take-append_seam}
use Rattle.count.specs.Pick.{pick}
use Rattle.record.specs.Memory.{Memory, RightMemory, store_fits, table_fits}
use Rattle.engine.specs.Sound.{sound_of}
use Rattle.engine.specs.Kinds.Ear.{gathers}
use Rattle.board.specs.declared.Line.{Line}
use Rattle.board.specs.declared.Board.{Board}
use Rattle.board.specs.State.{gathered, with_line, Said, said, sound}
use Rattle.board.specs.Receive.{ear_of, gathering, ordinary, hearing}
use Rattle.board.specs.Calls.{Lent, lent, Outcome, refused, answered, receiving}
use Rattle.board.proofs.laws.Fair.{line-sound}
use Rattle.promise.specs.Machine.{ours}
use Rattle.promise.specs.Demands.{idles, stores, waits, ticks, Host, Sent, after, sent}
use Rattle.promise.specs.Steps.{Each}
use Rattle.promise.specs.Spaces.{Gathers}
use Rattle.promise.proofs.laws.KeepsCalls.{is_right, right-store, right-table, right_is, keeps-quiet}

-- ---- one byte

-- idle, storing, standing or waiting: clock calls change nothing
abbrev pub Resting : Board → Type 0
Resting b = b.standing || idles b || stores b || waits b ≡ true

pub ticks-quiet : (k : ℕ) (mem : Memory) (b : Board) → Resting b → ticks ours k mem b ≡ b
unfolding ticks
ticks-quiet zero mem b h = refl
ticks-quiet (suc k) mem b h = ap (λ (c : Board). ticks ours k mem c) (keeps-quiet mem b h).0 ∙ ticks-quiet k mem b h

pub hear-so : (v : ℕ) (ports : List ℕ) (b : Board) (l : Lent) → sound b ≡ true → RightMemory l.memory → 32 ≤ length l.reply
    → receiving v ports b l ≡ answered (hearing v ports b l.memory) l.reply
unfolding receiving
hear-so v ports b l s n r = rw (le-ltb (length l.reply) 32 r, right-store l.memory n, s, right-table l.memory n)

-- what a byte comes to, refused or heard
abbrev pub step : ℕ → List ℕ → Board → Memory → Said
step v ports b mem = pick (is_right mem && sound b) (hearing v ports b mem) (said b [] mem)

module _ (host : Host) (i v : ℕ) (l : List ℕ) (b : Board) (mem : Memory) where
  abbrev went : Outcome → Sent ours
  went o = after ours (take o.result.len o.after.reply) (sent ours host (suc i) l o.result.board o.after.memory)

  abbrev pub goes : Said → Sent ours
  goes x = after ours x.reply (sent ours host (suc i) l x.board x.memory)

  abbrev lends : Lent
  lends = lent (host.reply i) mem

  step_by : (c e d : Bool) (x : Said)
      → went (pick (not c) (refused 102 b lends) (pick (not d) (refused 103 b lends) (pick (not e) (refused 104 b lends) (answered x (host.reply i)))))
      ≡ goes (pick (c && e && d) x (said b [] mem))
  step_by true true true x =
      ap (λ (t : List ℕ). after ours t (sent ours host (suc i) l x.board x.memory)) (take-append_seam x.reply (drop (length x.reply) (host.reply i)))
  step_by true false true x = refl
  step_by true true false x = refl
  step_by true false false x = refl
  step_by false e d x = refl

  pub one-step : ticks ours (host.calls i) mem b ≡ b → sent ours host i (v ∷ l) b mem ≡ goes (step v (host.ports i) b mem)
  unfolding sent receiving
  one-step r =
      ap (λ (c : Board). went (receiving v (host.ports i) c (lent (host.reply i) mem))) r
      ∙ rw (le-ltb (length (host.reply i)) 32 (host.room i)) (step_by (store_fits mem) (table_fits mem) (sound b) (hearing v (host.ports i) b mem))

-- ---- a byte that is no control code

pub hear-plain : (v : ℕ) (ports : List ℕ) (b : Board) (mem : Memory) → v ≤ 252 → hearing v ports b mem ≡ ordinary (ear_of b) v ports b mem
unfolding hearing
hear-plain v ports b mem h = rw (ne_eqb v 253 (λ z. omega arith), ne_eqb v 254 (λ z. omega arith), ne_eqb v 255 (λ z. omega arith))

-- ---- bytes that gather

abbrev pub gathered_all : List ℕ → Line → Line
gathered_all [] x = x
gathered_all (v ∷ t) x = gathered_all t (gathered v x)

-- these bytes unanswered, and then what comes after them
abbrev pub unanswered : List ℕ → Sent ours → Sent ours
unanswered [] x = x
unanswered (v ∷ t) x = after ours [] (unanswered t x)

module _ (host : Host) (b : Board) (mem : Memory) (ear : ear_of b ≡ gathers) (right : sound_of b.engine ≡ true) (n : RightMemory mem)
    (calm : (i : ℕ) (x : Line) → ticks ours (host.calls i) mem (with_line b x) ≡ with_line b x) where
  -- one byte that is heard
  pub heard-step : (v : ℕ) (ports : List ℕ) (x : Line) → v ≤ 252 → x.len ≤ 80 → step v ports (with_line b x) mem ≡ gathering v ports (with_line b x) mem
  unfolding ear_of
  heard-step v ports x h k = rw (right_is mem n, line-sound b.engine b.standing x right k, hear-plain v ports (with_line b x) mem h, ear)

  gather-one : (v : ℕ) (ports : List ℕ) (x : Line) → Gathers v → x.len ≤ 80 → step v ports (with_line b x) mem ≡ said (with_line b (gathered v x)) [] mem
  unfolding gathering
  gather-one v ports x q k = heard-step v ports x q.0 k ∙ rw (ne_eqb v 13 q.1)

  longer : (v : ℕ) (x : Line) → x.len < 80 → (gathered v x).len ≡ x.len + 1
  unfolding gathered
  longer v x h = rw (lt-ltb x.len 80 h)

  pub gather-bytes : (t : List ℕ) (i : ℕ) (l : List ℕ) (x : Line) → Each Gathers t → x.len + length t ≤ 80
      → sent ours host i (t ++ l) (with_line b x) mem ≡ unanswered t (sent ours host (i + length t) l (with_line b (gathered_all t x)) mem)
  gather-bytes [] i l x q h = let k : i ≡ i + 0 = omega arith in ap (λ (j : ℕ). sent ours host j l (with_line b x) mem) k
  gather-bytes (v ∷ t) i l x q h =
      let k : suc i + length t ≡ i + suc (length t) = omega arith in
      let w : (gathered v x).len + length t ≤ 80 = rw (longer v x (omega arith)) (omega arith) in
      one-step host i v (t ++ l) (with_line b x) mem (calm i x)
      ∙ ap (goes host i v (t ++ l) (with_line b x) mem) (gather-one v (host.ports i) x q.0 (omega arith))
      ∙ ap (after ours []) (gather-bytes t (suc i) l (gathered v x) q.1 w)
      ∙ ap (λ (j : ℕ). after ours [] (unanswered t (sent ours host j l (with_line b (gathered_all (v ∷ t) x)) mem))) k
