-- Lines sent byte by byte to ours: each byte is heard, plain bytes gather, and a return ends the line. Assumes nothing.
use Prim.Native.Nat.{ℕ, suc, ◌+◌, ◌≤◌}
use mathlib.Core.Path.{◌≡◌, ap, sym}
use mathlib.Core.Bool.{true, false}
use mathlib.Core.List.{List, [], ◌∷◌, ◌++◌, append_assoc, append-nil}
use native.Mathlib.Omega.{arith}
use borrow.Author.Tests.{lt-ltb, ne_eqb}
use lib.ListN.{length, length-append}
use Rattle.count.proofs.laws.Words.{pad-put}
use Rattle.count.specs.Words.{pad}
use Rattle.record.specs.Memory.{Memory, RightMemory}
use Rattle.engine.specs.declared.Engine.{Engine}
use Rattle.engine.specs.Sound.{sound_of}
use Rattle.engine.specs.Kinds.Ear.{gathers}
use Rattle.board.specs.declared.Line.{Line}
use Rattle.board.specs.declared.Board.{Board}
use Rattle.board.specs.State.{board, no_line, gathered, said, sound}
use Rattle.board.specs.Receive.{ear_by, ear_of, hearing}
use Rattle.board.proofs.laws.Fair.{line-sound}
use Rattle.promise.specs.Machine.{ours}
use Rattle.promise.specs.Demands.{ticks, Host, zero_at_returns, Sent, sent}
use Rattle.promise.specs.Steps.{Each}
use Rattle.promise.specs.Spaces.{Gathers}
use Rattle.promise.proofs.laws.KeepsCalls.{right_is}
use Rattle.promise.proofs.laws.Gathering.{Resting, ticks-quiet, one-step, gathered_all, unanswered, gather-bytes}

-- a board on which nothing stands, with a line
abbrev pub with-line : Engine → Line → Board
with-line e x = board e false x

-- the bytes gathered so far
abbrev pub line_of : List ℕ → Line
line_of p = record { bytes = pad 80 p; len = length p; over = false }

-- a byte that is no return and no control code
abbrev pub Plain : ℕ → Type 0
Plain v = (14 ≤ v) × (v ≤ 252)

abbrev pub AllPlain : List ℕ → Type 0
AllPlain [] = Unit {0}
AllPlain (v ∷ t) = Plain v × AllPlain t

pub plain-append : (s t : List ℕ) → AllPlain s → AllPlain t → AllPlain (s ++ t)
plain-append [] t p q = q
plain-append (v ∷ s) t p q = (p.0, plain-append s t p.1 q)

pub plain-gathers : (t : List ℕ) → AllPlain t → Each Gathers t
plain-gathers [] q = tt
plain-gathers (v ∷ t) q = ((q.0.1, λ z. omega (arith, q.0.0)), plain-gathers t q.1)

-- plain bytes gather to their line
gathered-line : (t p : List ℕ) → length p + length t ≤ 80 → gathered_all t (line_of p) ≡ line_of (p ++ t)
unfolding gathered
gathered-line [] p h = ap line_of (sym (append-nil p))
gathered-line (v ∷ t) p h =
    let k : length (p ++ v ∷ []) ≡ length p + 1 = length-append p (v ∷ []) in
    rw (lt-ltb (length p) 80 (omega arith), pad-put 80 p v, ← k, ← append_assoc p (v ∷ []) t) (gathered-line t (p ++ v ∷ []) (omega arith))

-- ---- a line, byte by byte: what holds of all that is sent afterwards holds of the whole

module _ (host : Host) (Q : Board → Memory → Type 0) where
  -- each return of t was answered 0 and no other byte was answered, and Q holds at the end
  abbrev pub Ends : List ℕ → Sent ours → Type 0
  Ends t x = (x.replies ≡ zero_at_returns t) × Q x.state x.memory

  pub return-one : (i : ℕ) (l : List ℕ) (b b' : Board) (mem mem' : Memory) → Resting b → sound b ≡ true → RightMemory mem
      → hearing 13 (host.ports i) b mem ≡ said b' (48 ∷ []) mem'
      → ((j : ℕ) → Ends l (sent ours host j l b' mem')) → Ends (13 ∷ l) (sent ours host i (13 ∷ l) b mem)
  return-one i l b b' mem mem' r s n e f =
      let g = f (suc i) in
      rw (one-step host i 13 l b mem (ticks-quiet (host.calls i) mem b r), right_is mem n, s, e) (ap (λ (x : List (List ℕ)). (48 ∷ []) ∷ x) g.0, g.1)

  ends-behind : (t l : List ℕ) (x : Sent ours) → AllPlain t → Ends l x → Ends (t ++ l) (unanswered t x)
  ends-behind [] l x q g = g
  ends-behind (v ∷ t) l x q g =
      let f = ends-behind t l x q.1 g in
      (rw (ne_eqb v 13 (λ z. omega (arith, q.0.0))) (ap (λ (r : List (List ℕ)). [] ∷ r) f.0), f.1)

  module _ (e : Engine) (mem : Memory) (ear : ear_by e.run.job ≡ gathers) (rest : Resting (with-line e no_line)) (right : sound_of e ≡ true)
      (n : RightMemory mem) where
    hears : ear_of (with-line e no_line) ≡ gathers
    unfolding ear_of
    hears = ear

    calm : (i : ℕ) (x : Line) → ticks ours (host.calls i) mem (with-line e x) ≡ with-line e x
    calm i x = ticks-quiet (host.calls i) mem (with-line e x) rest

    pub gather-all : (t p : List ℕ) (i : ℕ) (l : List ℕ) → AllPlain t → length p + length t ≤ 80
        → ((j : ℕ) → Ends l (sent ours host j l (with-line e (line_of (p ++ t))) mem))
        → Ends (t ++ l) (sent ours host i (t ++ l) (with-line e (line_of p)) mem)
    gather-all t p i l q h f =
        rw (gather-bytes host (with-line e no_line) mem hears right n calm t i l (line_of p) (plain-gathers t q) h, gathered-line t p h)
        (ends-behind t l _ q (f (i + length t)))

    -- A LINE
    pub line-all : (t : List ℕ) (i : ℕ) (l : List ℕ) (b' : Board) (mem' : Memory) → AllPlain t → length t ≤ 80
        → ((ports : List ℕ) → hearing 13 ports (with-line e (line_of t)) mem ≡ said b' (48 ∷ []) mem')
        → ((j : ℕ) → Ends l (sent ours host j l b' mem'))
        → Ends (t ++ 13 ∷ l) (sent ours host i (t ++ 13 ∷ l) (with-line e no_line) mem)
    line-all t i l b' mem' q h g f =
        gather-all t [] i (13 ∷ l) q (omega arith)
        (λ j. return-one j l (with-line e (line_of t)) b' mem mem' rest (line-sound e false (line_of t) right h) n (g (host.ports j)) f)
