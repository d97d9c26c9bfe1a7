-- The bytes that are taken all at once are these bytes received one by one. Assumes nothing.
use Prim.Native.Nat.{ℕ, ◌+◌, ◌≤◌, ◌<◌}
use mathlib.Core.Path.{◌≡◌, refl, sym, ap, ◌∙◌}
use mathlib.Core.Bool.{Bool, true, false, not, ◌&&◌, ◌||◌}
use mathlib.Core.List.{List, [], ◌∷◌}
use native.Mathlib.Nat.{add-zero}
use native.Mathlib.Numerals.{one-add}
use native.Mathlib.Omega.{arith}
use borrow.Author.Tests.{lt-ltb, le-ltb, ltb-true, leb-true, leb-false, ne_eqb, not-true}
use lib.Dec.{ltb, leb, eqb}
use lib.ListN.{length, get_or, take, drop, drop_of_length-le}
use Rattle.count.specs.Pick.{pick}
use Rattle.count.proofs.laws.Lists.{next}
use Rattle.count.proofs.laws.Truth.{and_left, and_right, both}
use Rattle.record.specs.Memory.{Memory, RightMemory}
use Rattle.board.specs.declared.Line.{Line}
use Rattle.board.specs.declared.Lined.{Lined}
use Rattle.board.specs.declared.Board.{Board}
use Rattle.board.specs.declared.Ear.TheVariants as ear
use Rattle.board.specs.State.{gathered, with_line, sound, Said, said}
use Rattle.board.specs.Receive.{hearing}
use Rattle.board.specs.Calls.{Lent, lent, Outcome, did, answered, receiving}
use Rattle.board.specs.work.Work.{gathers_by}
use Rattle.board.specs.work.Ears.{ear_for}
use Rattle.board.specs.work.Take.{is_plain, plain_front, gathered_all, lined_of, taken_of}
use Rattle.board.proofs.laws.Ears.{codes_from, gathered-so}
use Rattle.board.proofs.laws.Fair.{gathered-sound}
use Rattle.board.proofs.laws.Laws.{never-refused}

-- ---- the loop: what is still to be gathered from a place on

abbrev pub lined_from : ℕ → List ℕ → Line → Lined
lined_from i input l = record { line = gathered_all (take (plain_front input) input) l; count = i + plain_front input }

-- the code's test: it stops at a carriage return and from the first control code on
abbrev stops : ℕ → Bool
stops byte = eqb byte 13 || leb codes_from byte

plain-is : (byte : ℕ) → is_plain byte ≡ not (stops byte)
plain-is byte = by (eqb byte 13) (leb codes_from byte) refl
  where
    by : (t u : Bool) → leb codes_from byte ≡ u → not t && ltb byte codes_from ≡ not (t || u)
    by true u e = refl
    by false true e = le-ltb byte codes_from (leb-true codes_from byte e)
    by false false e = lt-ltb byte codes_from (leb-false codes_from byte e)

lined-cons : (i byte : ℕ) (input : List ℕ) (l : Line) → is_plain byte ≡ true → lined_from i (byte ∷ input) l ≡ lined_from (i + 1) input (gathered byte l)
unfolding plain_front gathered_all
lined-cons i byte input l h =
    let e : i + 1 + plain_front input ≡ i + (1 + plain_front input) = omega arith in
    rw (h, e, one-add)

module _ (input : List ℕ) (i : ℕ) (l : Line) where
  pub lined-stop : i < length input → stops (get_or input i 0) ≡ true → lined_from i (drop i input) l ≡ record { line = l; count = i }
  unfolding plain_front gathered_all
  lined-stop h t = rw (next input i h, plain-is (get_or input i 0) ∙ ap not t, add-zero)

  pub lined-next : i < length input → stops (get_or input i 0) ≡ false → {m : Line} → gathered (get_or input i 0) l ≡ m
      → lined_from i (drop i input) l ≡ lined_from (i + 1) (drop (i + 1) input) m
  lined-next h t e =
      ap (λ (s : List ℕ). lined_from i s l) (next input i h)
      ∙ lined-cons i (get_or input i 0) (drop (i + 1) input) l (plain-is (get_or input i 0) ∙ ap not t)
      ∙ ap (λ (m : Line). lined_from (i + 1) (drop (i + 1) input) m) e

  pub lined-end : length input ≤ i → lined_from i (drop i input) l ≡ record { line = l; count = i }
  unfolding plain_front gathered_all
  lined-end h = rw (drop_of_length-le input h, add-zero)

pub plain-few : (input : List ℕ) → plain_front input ≤ length input
unfolding plain_front
plain-few [] = omega arith
plain-few (byte ∷ input) = by (is_plain byte) (plain-few input)
  where
    by : (t : Bool) → plain_front input ≤ length input → pick t (1 + plain_front input) 0 ≤ length (byte ∷ input)
    by true h = omega arith
    by false h = omega arith

-- ---- whether a board takes them

abbrev pub takes : Board → Bool
takes b = (b.standing || gathers_by b.engine.run.job) && sound b

module _ (input : List ℕ) (b : Board) where
  pub taken-all : takes b ≡ true → taken_of input b ≡ record { board = with_line b (lined_of input b.line).line; count = plain_front input }
  unfolding taken_of
  taken-all h = rw h

  pub taken_none : takes b ≡ false → taken_of input b ≡ record { board = b; count = 0 }
  unfolding taken_of
  taken_none h = rw h

module _ (b : Board) (h : takes b ≡ true) where
  pub resting : b.standing || gathers_by b.engine.run.job ≡ true
  resting = and_left (b.standing || gathers_by b.engine.run.job) (sound b) h

  pub steady : sound b ≡ true
  steady = and_right (b.standing || gathers_by b.engine.run.job) (sound b) h

  -- a byte in the line leaves it so
  takes-on : (byte : ℕ) → takes (with_line b (gathered byte b.line)) ≡ true
  takes-on byte = both resting (gathered-sound byte b steady)

  plain-ear : (byte : ℕ) → is_plain byte ≡ true → ear.Gather ≡ ear_for byte b
  unfolding ear_for
  plain-ear byte p =
      let n = and_left (not (eqb byte 13)) (ltb byte codes_from) p in
      let l = ltb-true byte codes_from (and_right (not (eqb byte 13)) (ltb byte codes_from) p) in
      rw (ne_eqb byte 253 (λ e. omega arith), ne_eqb byte 254 (λ e. omega arith), ne_eqb byte 255 (λ e. omega arith), resting, not-true (eqb byte 13) n)

  -- and a plain one comes to no more than that
  pub plain-heard : (byte : ℕ) → is_plain byte ≡ true → (ports : List ℕ) (m : Memory) → hearing byte ports b m ≡ said (with_line b (gathered byte b.line)) [] m
  plain-heard byte p ports m = sym (gathered-so byte ports b m (plain-ear byte p) refl)

-- what holds of no byte, and of a plain byte in front of others, holds of those at the front of an input
pub plain-all : (P : List ℕ → Board → Type 0) → ((b : Board) → P [] b)
    → ((byte : ℕ) (l : List ℕ) (b : Board) → takes b ≡ true → is_plain byte ≡ true → P l (with_line b (gathered byte b.line)) → P (byte ∷ l) b)
    → (input : List ℕ) (b : Board) → takes b ≡ true → P (take (plain_front input) input) b
unfolding plain_front
plain-all P z f [] b h = z b
plain-all P z f (byte ∷ input) b h = by (is_plain byte) refl (plain-all P z f input (with_line b (gathered byte b.line)) (takes-on b h byte))
  where
    by : (t : Bool) → is_plain byte ≡ t → P (take (plain_front input) input) (with_line b (gathered byte b.line))
        → P (take (pick t (1 + plain_front input) 0) (byte ∷ input)) b
    by true p q = rw one-add (f byte (take (plain_front input) input) b h p q)
    by false p q = z b

-- ---- the bytes one by one

-- nothing is replied, nothing refused, and what was lent is as it was
abbrev pub quietly : Board → Lent → Outcome
quietly b l = did (record { board = b; len = 0; refusal = 0 }) l

-- each byte received in turn, what is lent handed on; the lengths of the replies, and the refusals, are added up
unfoldable pub received_all : List ℕ → List ℕ → Board → Lent → Outcome
received_all ports [] b l = quietly b l
received_all ports (byte ∷ input) b l =
    let o = receiving byte ports b l in
    let a = received_all ports input o.result.board o.after in
    did (record { board = a.result.board; len = o.result.len + a.result.len; refusal = o.result.refusal + a.result.refusal }) a.after

module _ (ports reply : List ℕ) (m : Memory) (r : 32 ≤ length reply) (k : RightMemory m) where
  plain-received : (byte : ℕ) (b : Board) → takes b ≡ true → is_plain byte ≡ true
      → receiving byte ports b (lent reply m) ≡ quietly (with_line b (gathered byte b.line)) (lent reply m)
  plain-received byte b h p =
      never-refused byte ports b m (steady b h) reply r k ∙ ap (λ (s : Said). answered s reply) (plain-heard b h byte p ports m)

  -- THE BATCH IS ITS BYTES ONE BY ONE
  pub take-is-received : (input : List ℕ) (b : Board)
      → received_all ports (take (taken_of input b).count input) b (lent reply m) ≡ quietly (taken_of input b).board (lent reply m)
  unfolding received_all gathered_all
  take-is-received input b = by (takes b) refl
    where
      by : (t : Bool) → takes b ≡ t → received_all ports (take (taken_of input b).count input) b (lent reply m) ≡ quietly (taken_of input b).board (lent reply m)
      by true h =
          rw (taken-all input b h)
          (plain-all (λ (l : List ℕ) (c : Board). received_all ports l c (lent reply m) ≡ quietly (with_line c (gathered_all l c.line)) (lent reply m)) (λ c. refl)
          (λ byte l c t p q. rw (plain-received byte c t p, q)) input b h)
      by false h = rw (taken_none input b h)
