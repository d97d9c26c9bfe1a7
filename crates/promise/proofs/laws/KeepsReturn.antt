-- Ours has `RefusedLine`, `AcceptedLine` and `SilentReturn`. Assumes nothing.
use Prim.Native.Nat.{ℕ, suc}
use mathlib.Core.Path.{◌≡◌, refl, sym, ap, ◌∙◌}
use mathlib.Core.Bool.{Bool, true, false, not, ◌&&◌, ◌||◌}
use mathlib.Core.List.{List, [], ◌∷◌, ◌++◌}
use native.Mathlib.Omega.{arith}
use borrow.Author.Tests.{eqb-true}
use lib.Dec.{eqb}
use lib.ListN.{length, get_or, take, drop}
use lib.Seq.{take-append_seam}
use Rattle.count.specs.Pick.{pick}
use Rattle.count.proofs.laws.Truth.{never}
use Rattle.record.specs.Memory.{Memory}
use Rattle.program.specs.Program.{verdict_of}
use Rattle.board.specs.declared.Board.{Board}
use Rattle.engine.specs.State.{ceased}
use Rattle.board.specs.State.{board, gathered, with_line, line_done, Said, said}
use Rattle.board.specs.Storing.{named_fault}
use Rattle.engine.specs.Kinds.Ear.{gathers, drops, waits}
use Rattle.engine.specs.Kinds.{Ear}
use Rattle.board.specs.Receive.{ear_of, gathering, ordinary, hearing, holds_by, stopped, ends_by, broken, reset_said}
use Rattle.board.specs.Calls.{Lent, Outcome, answered, receiving}
use Rattle.promise.specs.Machine.{ours}
use Rattle.promise.specs.Demands.{unstored, Untouched, Silent, RefusedLine, AcceptedLine, SilentReturn}
use Rattle.promise.proofs.laws.KeepsCalls.{calm}
use Rattle.promise.proofs.laws.KeepsLines.{Came, refused, failed, zeroed, still, came}

-- ---- what a host reads of a call that is not refused

module _ (v : ℕ) (ports : List ℕ) (l : Lent) (s : Board) (h : (receiving v ports s l).result.refusal ≡ 0) where
  abbrev out : Outcome
  out = receiving v ports s l

  abbrev heard_said : Said
  heard_said = hearing v ports s l.memory

  pub out-so : out ≡ answered heard_said l.reply
  out-so = calm v ports s l h

  pub out-reply : take out.result.len out.after.reply ≡ heard_said.reply
  out-reply = ap (λ (o : Outcome). take o.result.len o.after.reply) out-so ∙ take-append_seam heard_said.reply _

  pub out-board : out.result.board ≡ heard_said.board
  out-board = ap (λ (o : Outcome). o.result.board) out-so

  pub out-len : out.result.len ≡ length heard_said.reply
  out-len = ap (λ (o : Outcome). o.result.len) out-so

  -- the reply in its buffer, and the memory
  pub out-all : (b' : Board) (t : List ℕ) (mem : Memory) → heard_said ≡ said b' t mem
      → (out.result.board ≡ b') × (out.after.reply ≡ t ++ drop (length t) l.reply) × (out.after.memory ≡ mem)
  out-all b' t mem q =
      let r : out.after.reply ≡ t ++ drop (length t) l.reply =
      ap (λ (o : Outcome). o.after.reply) out-so ∙ ap (λ (x : Said). x.reply ++ drop (length x.reply) l.reply) q in
      (out-board ∙ ap (λ (x : Said). x.board) q, r, ap (λ (o : Outcome). o.after.memory) out-so ∙ ap (λ (x : Said). x.memory) q)

-- ---- RefusedLine

module _ (ports : List ℕ) (l : Lent) (s : Board) (c : ℕ) (t : List ℕ) (h : (receiving 13 ports s l).result.refusal ≡ 0) where
  abbrev outcome : Outcome
  outcome = receiving 13 ports s l

  untouched : Came s l.memory (hearing 13 ports s l.memory) → (hearing 13 ports s l.memory).reply ≡ c ∷ t → (c ≡ 48 → ⊥)
      → Untouched s outcome.result.board l outcome.after c t
  untouched (refused d n f q) e z =
      let r : d ∷ [] ≡ c ∷ t = sym (ap (λ (x : Said). x.reply) q) ∙ e in
      let o = out-all 13 ports l s h (line_done s) (d ∷ []) l.memory q in
      record {
        alone = λ y. sym (ap (λ (x : List ℕ). drop 1 x) r);
        letter = λ y. never (sym f ∙ y);
        named = λ y. never (sym f ∙ y);
        reply = o.1 ∙ ap (λ (x : List ℕ). x ++ drop (length x) l.reply) r;
        memory = o.2;
        board = o.0 ∙ ap (λ (x : Bool). pick x (unstored s) (line_done s)) (sym f);
      }
  untouched (failed f q) e z =
      let r : 71 ∷ named_fault (verdict_of s.engine.held l.memory.store) ≡ c ∷ t = sym (ap (λ (x : Said). x.reply) q) ∙ e in
      let m : t ≡ named_fault (verdict_of s.engine.held l.memory.store) = sym (ap (λ (x : List ℕ). drop 1 x) r) in
      let o = out-all 13 ports l s h (unstored s) (71 ∷ named_fault (verdict_of s.engine.held l.memory.store)) l.memory q in
      record {
        alone = λ y. never (sym y ∙ f);
        letter = λ y. sym (ap (λ (x : List ℕ). get_or x 0 0) r);
        named = λ y. rw m;
        reply = o.1 ∙ ap (λ (x : List ℕ). x ++ drop (length x) l.reply) r;
        memory = o.2;
        board = o.0 ∙ ap (λ (x : Bool). pick x (unstored s) (line_done s)) (sym f);
      }
  untouched (zeroed u p n) e z =
      let r : 48 ∷ u ≡ c ∷ t = sym p ∙ e in
      let g : 48 ≡ c = cc in
      absurd (z (sym g))
  untouched (still p n) e z =
      let r : [] ≡ c ∷ t = sym p ∙ e in
      let w : ◌≡◌ {A = ℕ} 0 1 = cc in
      absurd (omega arith)

pub keeps-refused-line : RefusedLine ours
keeps-refused-line ports l s c t h e z = untouched ports l s c t h (came s ports l.memory) (sym (out-reply 13 ports l s h) ∙ e) z

-- ---- SilentReturn

pub keeps-silent-return : SilentReturn ours
keeps-silent-return ports l s h e = rw (out-board 13 ports l s h) (by (came s ports l.memory))
  where
    n : length (hearing 13 ports s l.memory).reply ≡ 0
    n = sym (out-len 13 ports l s h) ∙ e

    by : Came s l.memory (hearing 13 ports s l.memory) → Silent s (hearing 13 ports s l.memory).board
    by (refused d m f q) = let r : length (hearing 13 ports s l.memory).reply ≡ 1 = ap (λ (x : Said). length x.reply) q in absurd (omega (arith, n))
    by (failed f q) =
        let r : length (hearing 13 ports s l.memory).reply ≡ suc (length (named_fault (verdict_of s.engine.held l.memory.store))) = ap (λ (x : Said). length x.reply) q in
        absurd (omega (arith, n))
    by (zeroed u p m) = let r : length (hearing 13 ports s l.memory).reply ≡ suc (length u) = ap length p in absurd (omega (arith, n))
    by (still p m) = m

-- ---- AcceptedLine

-- no other byte than the return is answered with 0
abbrev NotZero : Said → Type 0
NotZero x = (t : List ℕ) → x.reply ≡ 48 ∷ t → ⊥

none-zero : (x : Said) → x.reply ≡ [] → NotZero x
none-zero x p t e = let w : ◌≡◌ {A = ℕ} 0 1 = cc in omega arith

f-zero : (x : Said) → x.reply ≡ 70 ∷ [] → NotZero x
f-zero x p t e =
    let y : 70 ∷ [] ≡ 48 ∷ t = sym p ∙ e in
    let w : ◌≡◌ {A = ℕ} 70 48 = cc in
    omega arith

pick-zero : (x : Bool) (y z : Said) → NotZero y → NotZero z → NotZero (pick x y z)
pick-zero true y z p q = p
pick-zero false y z p q = q

module _ (v : ℕ) (ports : List ℕ) (b : Board) (mem : Memory) (h : eqb v 13 ≡ false) where
  ear-zero : (e : Ear) → NotZero (ordinary e v ports b mem)
  unfolding gathering
  ear-zero gathers = rw h (none-zero (said (with_line b (gathered v b.line)) [] mem) refl)
  ear-zero drops = none-zero (ordinary drops v ports b mem) refl
  ear-zero waits = none-zero (ordinary waits v ports b mem) refl

  pub other-zero : NotZero (hearing v ports b mem)
  unfolding hearing stopped broken reset_said
  other-zero =
      let ended = pick-zero (ends_by b.engine.run.job || b.standing) (said (board (ceased b.engine) false b.line) (70 ∷ []) mem)
      (said b [] mem) (f-zero (said (board (ceased b.engine) false b.line) (70 ∷ []) mem) refl) (none-zero (said b [] mem) refl) in
      let held = pick-zero (holds_by b.engine.run.job && not b.standing) (said (board b.engine true b.line) (70 ∷ []) mem)
      (said b [] mem) (f-zero (said (board b.engine true b.line) (70 ∷ []) mem) refl) (none-zero (said b [] mem) refl) in
      pick-zero (eqb v 253) (stopped b mem) _ held
      (pick-zero (eqb v 254) (reset_said b mem) _ (none-zero (reset_said b mem) refl)
      (pick-zero (eqb v 255) (broken b mem) (ordinary (ear_of b) v ports b mem) ended (ear-zero (ear_of b))))

pub keeps-accepted-line : AcceptedLine ours
keeps-accepted-line v ports l s t h e = by (eqb v 13) refl
  where
    r : (hearing v ports s l.memory).reply ≡ 48 ∷ t
    r = sym (out-reply v ports l s h) ∙ e

    long : Came s l.memory (hearing v ports s l.memory)
        → eqb (length (hearing v ports s l.memory).reply) 1 || eqb (length (hearing v ports s l.memory).reply) 3 || eqb (length (hearing v ports s l.memory).reply) 19
        || eqb (length (hearing v ports s l.memory).reply) 25 ≡ true
    long (refused d m f q) =
        let y : d ∷ [] ≡ 48 ∷ t = sym (ap (λ (x : Said). x.reply) q) ∙ r in
        let w : d ≡ 48 = cc in
        absurd (m w)
    long (failed f q) =
        let y : 71 ∷ named_fault (verdict_of s.engine.held l.memory.store) ≡ 48 ∷ t = sym (ap (λ (x : Said). x.reply) q) ∙ r in
        let w : ◌≡◌ {A = ℕ} 71 48 = ap (λ (x : List ℕ). get_or x 0 0) y in
        absurd (omega arith)
    long (zeroed u p m) = m
    long (still p m) =
        let y : [] ≡ 48 ∷ t = sym p ∙ r in
        let w : ◌≡◌ {A = ℕ} 0 1 = cc in
        absurd (omega arith)

    by : (x : Bool) → eqb v 13 ≡ x
        → eqb (receiving v ports s l).result.len 1 || eqb (receiving v ports s l).result.len 3
        || eqb (receiving v ports s l).result.len 19 || eqb (receiving v ports s l).result.len 25 ≡ true
    by true q = rw (out-len v ports l s h) (long (rw (eqb-true v 13 q) (came s ports l.memory)))
    by false q = absurd (other-zero v ports s l.memory q t r)
