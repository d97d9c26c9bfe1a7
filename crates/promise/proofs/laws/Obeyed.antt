-- A line on an idle board that is not refused has its letter's effect. Assumes nothing.
use Prim.Native.Nat.{ℕ}
use mathlib.Core.Path.{◌≡◌, refl, sym, subst, ap, ◌∙◌}
use mathlib.Core.Bool.{Bool, true, false, not, ◌&&◌}
use mathlib.Core.List.{List, [], ◌∷◌}
use native.Mathlib.Omega.{arith}
use borrow.Author.Tests.{eqb-true, eqb-false}
use lib.Dec.{eqb}
use lib.ListN.{get_or, take}
use Rattle.count.specs.Pick.{pick}
use Rattle.count.proofs.laws.Truth.{never, and_parts}
use Rattle.line.specs.Lines.{stored_of}
use Rattle.record.specs.Memory.{Memory}
use Rattle.engine.specs.declared.Engine.{Engine}
use Rattle.engine.specs.declared.Job.{Job}
use Rattle.engine.specs.declared.Job.TheVariants as job
use Rattle.engine.specs.Kinds.{Ear}
use Rattle.engine.specs.Kinds.Ear.{gathers}
use Rattle.board.specs.declared.Line.{Line}
use Rattle.board.specs.declared.Board.{Board}
use Rattle.board.specs.State.{board, text_of, line_done, Said, said}
use Rattle.board.specs.Direct.{reply_of, effect_of, accepted_said, direct_said}
use Rattle.board.specs.Storing.{stored_said}
use Rattle.board.specs.Receive.{ear_by, ear_of, is_storing, returned, gathering, ordinary, hearing}
use Rattle.board.specs.Calls.{Lent, receiving}
use Rattle.promise.specs.Demands.{is_idle, idles}
use Rattle.promise.specs.Circles.{line_of}
use Rattle.promise.proofs.laws.KeepsReturn.{out-reply}

-- what a board says once its line is accepted
abbrev pub obeys : List ℕ → Board → Memory → Said
obeys ports b mem = accepted_said (effect_of (line_of b).letter (line_of b).words ports b.engine false) mem

module _ (ports : List ℕ) (e : Engine) (l : Line) (mem : Memory) where
  abbrev b : Board
  b = board e false l

  -- no reply, or one that begins with 0
  abbrev Obeys : Said → Type 0
  Obeys x = get_or x.reply 0 48 ≡ 48 → (reply_of e false (line_of b) ≡ 48) × (x ≡ obeys ports b mem)

  direct-obeys : Obeys (direct_said (line_of b) ports b mem)
  unfolding direct_said
  direct-obeys = by (eqb (reply_of e false (line_of b)) 48) refl
    where
      by : (t : Bool) → eqb (reply_of e false (line_of b)) 48 ≡ t
          → Obeys (pick t (obeys ports b mem) (said (line_done b) (reply_of e false (line_of b) ∷ []) mem))
      by true q n = (eqb-true (reply_of e false (line_of b)) 48 q, refl)
      by false q n = absurd (eqb-false (reply_of e false (line_of b)) 48 q n)

  return-obeys : (j : Job) → is_idle j ≡ true
      → Obeys (pick l.over (said (line_done b) (53 ∷ []) mem) (pick (is_storing j && not false) (stored_said (stored_of (text_of l)) b mem) (direct_said (line_of b) ports b mem)))
  return-obeys job.Idle i = by l.over
    where
      by : (t : Bool) → Obeys (pick t (said (line_done b) (53 ∷ []) mem) (direct_said (line_of b) ports b mem))
      by true n = absurd (omega arith)
      by false n = direct-obeys n
  return-obeys job.Storing i = never i
  return-obeys (job.Direct m) i = never i
  return-obeys job.Ready i = never i
  return-obeys (job.Moving m) i = never i
  return-obeys (job.Delay q) i = never i
  return-obeys (job.Wait c t) i = never i

  pub idle-gathers : (j : Job) → is_idle j ≡ true → ear_by j ≡ gathers
  idle-gathers job.Idle i = refl
  idle-gathers job.Storing i = never i
  idle-gathers (job.Direct m) i = never i
  idle-gathers job.Ready i = never i
  idle-gathers (job.Moving m) i = never i
  idle-gathers (job.Delay q) i = never i
  idle-gathers (job.Wait c t) i = never i

  line-obeys : is_idle e.run.job ≡ true → Obeys (hearing 13 ports b mem)
  unfolding hearing ear_of gathering returned
  line-obeys i = subst (λ (x : Ear). Obeys (ordinary x 13 ports b mem)) (sym (idle-gathers e.run.job i)) (return-obeys e.run.job i)

module _ (ports : List ℕ) (mem : Memory) where
  -- the same of a board that does not stand
  said-by : (e : Engine) (s : Bool) (l : Line) → is_idle e.run.job ≡ true → not s ≡ true → Obeys ports e l mem (hearing 13 ports (board e s l) mem)
  said-by e true l i p = never p
  said-by e false l i p = line-obeys ports e l mem i

  pub line-said : (b : Board) → idles b ≡ true → get_or (hearing 13 ports b mem).reply 0 48 ≡ 48
      → (reply_of b.engine false (line_of b) ≡ 48) × (hearing 13 ports b mem ≡ obeys ports b mem)
  line-said b i =
      let j = and_parts (is_idle b.engine.run.job) (not b.standing) i in
      said-by b.engine b.standing b.line j.0 j.1

-- in a call that is not refused
pub line-heard : (ports : List ℕ) (b : Board) (l : Lent) → idles b ≡ true → (receiving 13 ports b l).result.refusal ≡ 0
    → get_or (take (receiving 13 ports b l).result.len (receiving 13 ports b l).after.reply) 0 48 ≡ 48
    → (reply_of b.engine false (line_of b) ≡ 48) × (hearing 13 ports b l.memory ≡ obeys ports b l.memory)
line-heard ports b l i f n =
    line-said ports l.memory b i (ap (λ (t : List ℕ). get_or t 0 48) (sym (out-reply 13 ports l b f)) ∙ n)
