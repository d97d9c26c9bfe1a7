-- The line `@08` on our machine: it adds A and zeroes A alone, and is 3 after 1 or 3; and the examples of 02 §7, computed. Assumes nothing.
use Prim.Native.Nat.{ℕ}
use mathlib.Core.Path.{◌≡◌, refl, sym, subst, ap, ◌∙◌}
use mathlib.Core.Bool.{Bool, true, false, not, ◌&&◌, ◌||◌}
use mathlib.Core.List.{List, [], ◌∷◌}
use borrow.Author.Tests.{eqb-true}
use lib.Dec.{eqb}
use lib.ListN.{get_or, take}
use Rattle.count.specs.Pick.{pick}
use Rattle.count.proofs.laws.Truth.{never, and_parts}
use Rattle.line.specs.Letter as letter
use Rattle.line.specs.Said.{Direct}
use Rattle.line.specs.Lines.{stored_of}
use Rattle.record.specs.Memory.{Memory}
use Rattle.engine.specs.declared.Engine.{Engine}
use Rattle.engine.specs.declared.Job.{Job}
use Rattle.engine.specs.declared.Job.TheVariants as job
use Rattle.engine.specs.Kinds.{Ear}
use Rattle.engine.specs.State.{mixed, beside_a, turntable_of}
use Rattle.board.specs.declared.Line.{Line}
use Rattle.board.specs.declared.Board.{Board}
use Rattle.board.specs.State.{board, no_line, text_of, line_done, Said, said}
use Rattle.board.specs.Direct.{first, reply_of, effect_of, accepted_said, direct_said}
use Rattle.board.specs.Storing.{stored_said}
use Rattle.board.specs.Receive.{ear_of, is_storing, returned, gathering, ordinary, hearing}
use Rattle.board.specs.Calls.{Lent, receiving}
use Rattle.promise.specs.Machine.{ours}
use Rattle.promise.specs.Demands.{is_idle}
use Rattle.promise.specs.Circles.{line_of}
use Rattle.promise.specs.Turntable.{Adds, Added, with_table, TurntableRequested, TurntablePrinted}
use Rattle.promise.proofs.laws.KeepsReturn.{out-board, out-reply}
use Rattle.promise.proofs.laws.Letters.{is-letter}
use Rattle.promise.proofs.laws.Obeyed.{idle-gathers}
use Rattle.promise.proofs.laws.Turned.{turned-phases, turned-together, turned-alone, turned-stored, turned-printed}

-- ---- the return of a whole line on an idle board

module _ (ports : List ℕ) (e : Engine) (l : Line) (mem : Memory) (o : l.over ≡ false) where
  abbrev b : Board
  b = board e false l

  return-is : (j : Job) → is_idle j ≡ true
      → pick l.over (said (line_done b) (53 ∷ []) mem) (pick (is_storing j && not false) (stored_said (stored_of (text_of l)) b mem) (direct_said (line_of b) ports b mem))
      ≡ direct_said (line_of b) ports b mem
  return-is job.Idle i = ap (λ (t : Bool). pick t (said (line_done b) (53 ∷ []) mem) (direct_said (line_of b) ports b mem)) o
  return-is job.Storing i = never i
  return-is (job.Direct m) i = never i
  return-is job.Ready i = never i
  return-is (job.Moving m) i = never i
  return-is (job.Delay q) i = never i
  return-is (job.Wait c t) i = never i

  direct_is : is_idle e.run.job ≡ true → hearing 13 ports b mem ≡ direct_said (line_of b) ports b mem
  unfolding hearing ear_of gathering returned
  direct_is i =
      subst (λ (x : Ear). ordinary x 13 ports b mem ≡ direct_said (line_of b) ports b mem) (sym (idle-gathers ports e l mem e.run.job i)) (return-is e.run.job i)

heard-by : (ports : List ℕ) (mem : Memory) (e : Engine) (s : Bool) (l : Line) → is_idle e.run.job ≡ true → not s ≡ true → l.over ≡ false
    → hearing 13 ports (board e s l) mem ≡ direct_said (line_of (board e s l)) ports (board e s l) mem
heard-by ports mem e true l i n o = never n
heard-by ports mem e false l i n o = direct_is ports e l mem o i

-- ---- its reply: 0, or 3 after 1 or 3

reply-by : (x : Bool) → ◌≡◌ {A = ℕ} (pick (not (not x)) 51 48) (pick x 51 48)
reply-by true = refl
reply-by false = refl

eight-reply : (e : Engine) (d : Direct) → d.letter ≡ letter.Axes → d.count ≡ 1 → get_or d.words 0 0 ≡ 8
    → reply_of e false d ≡ pick (eqb e.axes 1 || eqb e.axes 3) 51 48
unfolding reply_of first
eight-reply e d p q r = rw (p, q, r) (reply-by (eqb e.axes 1 || eqb e.axes 3))

-- A's own line: its effect
table_is : (e : Engine) → turntable_of e ≡ with_table e (beside_a e.axes)
unfolding mixed
table_is e = refl

said-by : (e : Engine) (s : Bool) (l : Line) (ports : List ℕ) (mem : Memory) (d : Direct) → d.letter ≡ letter.Axes → get_or d.words 0 0 ≡ 8
    → accepted_said (effect_of d.letter d.words ports e s) mem ≡ said (board (with_table e (beside_a e.axes)) s no_line) (48 ∷ []) mem
said-by e s l ports mem d p r = rw (p, r) (ap (λ (x : Engine). said (board x s no_line) (48 ∷ []) mem) (table_is e))

-- the tests on the axes
no-few : (axes : ℕ) → eqb axes 0 || eqb axes 7 || eqb axes 8 || eqb axes 15 ≡ true → eqb axes 1 || eqb axes 3 ≡ false
no-few axes h = by (eqb axes 0) (eqb axes 7) (eqb axes 8) (eqb axes 15) refl refl refl refl h
  where
    by : (a b c d : Bool) → eqb axes 0 ≡ a → eqb axes 7 ≡ b → eqb axes 8 ≡ c → eqb axes 15 ≡ d → a || b || c || d ≡ true → eqb axes 1 || eqb axes 3 ≡ false
    by true b c d p q r s e = rw (eqb-true axes 0 p)
    by false true c d p q r s e = rw (eqb-true axes 7 q)
    by false false true d p q r s e = rw (eqb-true axes 8 r)
    by false false false true p q r s e = rw (eqb-true axes 15 s)
    by false false false false p q r s e = never e

module _ (ports : List ℕ) (l : Lent) (b : Board) (a : Adds b) (f : (receiving 13 ports b l).result.refusal ≡ 0) where
  letter-is : (line_of b).letter ≡ letter.Axes
  letter-is = is-letter (line_of b).letter letter.Axes a.typed.letter

  heard-is : hearing 13 ports b l.memory ≡ direct_said (line_of b) ports b l.memory
  heard-is =
      let j = and_parts (is_idle b.engine.run.job) (not b.standing) a.typed.idle in
      heard-by ports l.memory b.engine b.standing b.line j.0 j.1 a.whole

  stands-not : b.standing ≡ false
  stands-not = by b.standing (and_parts (is_idle b.engine.run.job) (not b.standing) a.typed.idle).1
    where
      by : (s : Bool) → not s ≡ true → s ≡ false
      by true n = never n
      by false n = refl

  reply-is : reply_of b.engine b.standing (line_of b) ≡ pick (eqb b.engine.axes 1 || eqb b.engine.axes 3) 51 48
  reply-is =
      ap (λ (s : Bool). reply_of b.engine s (line_of b)) stands-not ∙ eight-reply b.engine (line_of b) letter-is a.count a.number

  taken : (n : ℕ) → reply_of b.engine b.standing (line_of b) ≡ n
      → hearing 13 ports b l.memory
      ≡ pick (eqb n 48) (accepted_said (effect_of (line_of b).letter (line_of b).words ports b.engine b.standing) l.memory) (said (line_done b) (n ∷ []) l.memory)
  unfolding direct_said
  taken n e =
      heard-is ∙ ap (λ (k : ℕ). pick (eqb k 48) (accepted_said (effect_of (line_of b).letter (line_of b).words ports b.engine b.standing) l.memory) (said (line_done b) (k ∷ []) l.memory)) e

  pub adds : eqb b.engine.axes 0 || eqb b.engine.axes 7 || eqb b.engine.axes 8 || eqb b.engine.axes 15 ≡ true
      → (take (receiving 13 ports b l).result.len (receiving 13 ports b l).after.reply ≡ 48 ∷ []) × Added b (receiving 13 ports b l).result.board
  adds h =
      let r = reply-is ∙ ap (λ (t : Bool). pick t 51 48) (no-few b.engine.axes h) in
      let s : hearing 13 ports b l.memory ≡ said (board (with_table b.engine (beside_a b.engine.axes)) b.standing no_line) (48 ∷ []) l.memory =
      taken 48 r ∙ said-by b.engine b.standing b.line ports l.memory (line_of b) letter-is a.number in
      let g : (receiving 13 ports b l).result.board ≡ board (with_table b.engine (beside_a b.engine.axes)) b.standing no_line =
      out-board 13 ports l b f ∙ ap (λ (x : Said). x.board) s in
      let n : (receiving 13 ports b l).result.board.engine.axes ≡ beside_a b.engine.axes = ap (λ (x : Board). x.engine.axes) g in (
        out-reply 13 ports l b f ∙ ap (λ (x : Said). x.reply) s,
        record {
          axes = (λ p. n ∙ ap beside_a p, λ p. n ∙ ap beside_a p, λ p. n ∙ ap beside_a p, λ p. n ∙ ap beside_a p);
          board = g ∙ ap (λ (k : ℕ). board (with_table b.engine k) b.standing no_line) (sym n);
        },
      )

  pub refuses : eqb b.engine.axes 1 || eqb b.engine.axes 3 ≡ true
      → (take (receiving 13 ports b l).result.len (receiving 13 ports b l).after.reply ≡ 51 ∷ []) × ((receiving 13 ports b l).result.board ≡ line_done b)
  refuses h =
      let s = taken 51 (reply-is ∙ ap (λ (t : Bool). pick t 51 48) h) in
      (out-reply 13 ports l b f ∙ ap (λ (x : Said). x.reply) s, out-board 13 ports l b f ∙ ap (λ (x : Said). x.board) s)

pub ours-turntable : TurntableRequested ours
ours-turntable = record {
  adds = λ ports l s a h f. adds ports l s a f h;
  refuses = λ ports l s a h f. refuses ports l s a f h;
  phases = turned-phases;
  together = turned-together;
  alone = turned-alone;
  stored = turned-stored;
}

pub turntable-printed : TurntablePrinted
turntable-printed = turned-printed
