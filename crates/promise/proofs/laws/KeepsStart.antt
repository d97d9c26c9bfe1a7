-- The axes line and the line `i` on a fresh board. Assumes nothing.
use Prim.Native.Nat.{ℕ}
use mathlib.Core.Path.{◌≡◌, refl, sym, subst}
use mathlib.Core.Bool.{Bool, true, false, ◌||◌}
use mathlib.Core.List.{List, [], ◌∷◌, ◌++◌}
use native.Mathlib.Omega.{arith}
use borrow.Author.Tests.{eqb-true}
use lib.Dec.{eqb}
use Rattle.count.proofs.laws.Truth.{never}
use Rattle.record.specs.declared.Held.{Held}
use Rattle.record.specs.Memory.{Memory, RightMemory}
use Rattle.program.specs.Onward.{no_loops}
use Rattle.count.specs.Axes.{axes_set}
use Rattle.circle.specs.Plan.{at_first}
use Rattle.engine.specs.declared.Engine.{Engine}
use Rattle.engine.specs.declared.Job.TheVariants as job
use Rattle.engine.specs.State.{zeroes, running, idle, nothing_held}
use Rattle.engine.specs.Sound.{axes_known, sound_of}
use Rattle.board.specs.declared.Board.{Board}
use Rattle.board.specs.State.{board, no_line, said}
use Rattle.board.specs.Receive.{hearing}
use Rattle.promise.specs.Machine.{ours}
use Rattle.promise.specs.Demands.{Host, axes_lines, sent}
use Rattle.promise.proofs.laws.KeepsSending.{with-line, line_of, Plain, Ends, line-all}

-- a board that stores, and one that is idle, under axes and with a part in use
abbrev pub storing_with : ℕ → Held → Engine
storing_with axes h = record { axes = axes; at = zeroes; origin = zeroes; three = false; circling = at_first; output = 0; held = h; run = running job.Storing 0 no_loops }

abbrev pub resting_with : ℕ → Held → Engine
resting_with axes h = record { axes = axes; at = zeroes; origin = zeroes; three = false; circling = at_first; output = 0; held = h; run = idle }

-- what holds of each axes number that lines set
of-axes : (P : ℕ → Type 0) (axes : ℕ) → axes_set axes ≡ true → P 1 → P 3 → P 7 → P 8 → P 15 → P axes
of-axes P axes h one three seven eight all = by (eqb axes 1) (eqb axes 3) (eqb axes 7) (eqb axes 8) (eqb axes 15) refl refl refl refl refl h
  where
    by : (a b c d f : Bool) → eqb axes 1 ≡ a → eqb axes 3 ≡ b → eqb axes 7 ≡ c → eqb axes 8 ≡ d → eqb axes 15 ≡ f → a || b || c || d || f ≡ true → P axes
    by true b c d f p q r s t e = subst P (sym (eqb-true axes 1 p)) one
    by false true c d f p q r s t e = subst P (sym (eqb-true axes 3 q)) three
    by false false true d f p q r s t e = subst P (sym (eqb-true axes 7 r)) seven
    by false false false true f p q r s t e = subst P (sym (eqb-true axes 8 s)) eight
    by false false false false true p q r s t e = subst P (sym (eqb-true axes 15 t)) all
    by false false false false false p q r s t e = never e

-- an axes line on a board that rests under some axes
abbrev Sets : ℕ → ℕ → ℕ → Type 0
Sets before digit axes = (ports : List ℕ) (mem : Memory) → hearing 13 ports (with-line (resting_with before nothing_held) (line_of (64 ∷ 48 ∷ digit ∷ []))) mem
    ≡ said (board (resting_with axes nothing_held) false no_line) (48 ∷ []) mem

pub record Stores (axes : ℕ) : Type 0 where
  pub store : (ports : List ℕ) (mem : Memory) → hearing 13 ports (with-line (resting_with axes nothing_held) (line_of (64 ∷ 48 ∷ 105 ∷ []))) mem
      ≡ said (board (storing_with axes (record { used = 0; records = 0; axes = axes })) false no_line) (48 ∷ []) mem
  pub known : axes_known axes ≡ true
  pub sound : sound_of (resting_with axes nothing_held) ≡ true

-- computed for each axes number, and for a fresh board that it is sound
computed-sets : Sets 0 49 1 × Sets 0 51 3 × Sets 0 55 7 × Sets 0 56 8 × Sets 7 56 15
unfolding Rattle.count.specs.Numbers.word Rattle.motion.specs.Sound.counted Rattle.line.specs.Lines.behind Rattle.line.specs.Lines.letter_of Rattle.line.specs.Lines.after_address Rattle.line.specs.Lines.direct_of Rattle.line.specs.Numbers.digits_behind Rattle.line.specs.Numbers.digits_of Rattle.line.specs.Numbers.number_of Rattle.line.specs.Numbers.parted Rattle.line.specs.Numbers.items_of Rattle.line.specs.Numbers.numbers_of Rattle.engine.specs.Sound.sound_of Rattle.board.specs.Direct.first Rattle.board.specs.Direct.reply_of Rattle.board.specs.Direct.direct_said Rattle.board.specs.Receive.ear_of Rattle.board.specs.Receive.returned Rattle.board.specs.Receive.gathering Rattle.board.specs.Receive.hearing Rattle.engine.specs.State.mixed
computed-sets = (λ ports mem. refl, λ ports mem. refl, λ ports mem. refl, λ ports mem. refl, λ ports mem. refl)

computed : Stores 1 × Stores 3 × Stores 7 × Stores 8 × Stores 15 × (sound_of (resting_with 0 nothing_held) ≡ true)
unfolding Rattle.count.specs.Numbers.word Rattle.motion.specs.Sound.counted Rattle.line.specs.Lines.behind Rattle.line.specs.Lines.letter_of Rattle.line.specs.Lines.after_address Rattle.line.specs.Lines.direct_of Rattle.line.specs.Numbers.digits_behind Rattle.line.specs.Numbers.digits_of Rattle.line.specs.Numbers.number_of Rattle.line.specs.Numbers.parted Rattle.line.specs.Numbers.items_of Rattle.line.specs.Numbers.numbers_of Rattle.engine.specs.Sound.sound_of Rattle.board.specs.Direct.first Rattle.board.specs.Direct.reply_of Rattle.board.specs.Direct.direct_said Rattle.board.specs.Receive.ear_of Rattle.board.specs.Receive.returned Rattle.board.specs.Receive.gathering Rattle.board.specs.Receive.hearing
computed = (
  record { store = λ ports mem. refl; known = refl; sound = refl },
  record { store = λ ports mem. refl; known = refl; sound = refl },
  record { store = λ ports mem. refl; known = refl; sound = refl },
  record { store = λ ports mem. refl; known = refl; sound = refl },
  record { store = λ ports mem. refl; known = refl; sound = refl },
  refl,
)

pub fresh-sound : sound_of (resting_with 0 nothing_held) ≡ true
fresh-sound = computed.5

-- ---- the axes lines sent to a fresh board

module _ (host : Host) (Q : Board → Memory → Type 0) (mem : Memory) (n : RightMemory mem) (l : List ℕ) where
  -- what holds of all that is sent after them holds of the whole
  abbrev Leads : ℕ → Type 0
  Leads axes = ((i : ℕ) → Ends host Q l (sent ours host i l (board (resting_with axes nothing_held) false no_line) mem))
      → Ends host Q (axes_lines axes ++ l) (sent ours host 0 (axes_lines axes ++ l) (with-line (resting_with 0 nothing_held) no_line) mem)

  one_line : (before digit axes : ℕ) → Sets before digit axes → sound_of (resting_with before nothing_held) ≡ true → Plain digit → (t : List ℕ) (i : ℕ)
      → ((j : ℕ) → Ends host Q t (sent ours host j t (board (resting_with axes nothing_held) false no_line) mem))
      → Ends host Q (64 ∷ 48 ∷ digit ∷ 13 ∷ t) (sent ours host i (64 ∷ 48 ∷ digit ∷ 13 ∷ t) (with-line (resting_with before nothing_held) no_line) mem)
  one_line before digit axes s k d t i f =
      line-all host Q (resting_with before nothing_held) mem refl refl k n (64 ∷ 48 ∷ digit ∷ []) i t
      (board (resting_with axes nothing_held) false no_line) mem ((omega arith, omega arith), ((omega arith, omega arith), (d, tt))) (omega arith) (λ ports. s ports mem) f

  leads-1 : Leads 1
  leads-1 f = one_line 0 49 1 computed-sets.0 fresh-sound (omega arith, omega arith) l 0 f

  leads-3 : Leads 3
  leads-3 f = one_line 0 51 3 computed-sets.1 fresh-sound (omega arith, omega arith) l 0 f

  leads-7 : Leads 7
  leads-7 f = one_line 0 55 7 computed-sets.2 fresh-sound (omega arith, omega arith) l 0 f

  leads-8 : Leads 8
  leads-8 f = one_line 0 56 8 computed-sets.3 fresh-sound (omega arith, omega arith) l 0 f

  leads-15 : Leads 15
  leads-15 f =
      one_line 0 55 7 computed-sets.2 fresh-sound (omega arith, omega arith) (64 ∷ 48 ∷ 56 ∷ 13 ∷ l) 0
      (λ i. one_line 7 56 15 computed-sets.4 computed.2.sound (omega arith, omega arith) l i f)

  pub leads : (axes : ℕ) → axes_set axes ≡ true → Leads axes
  leads axes h = of-axes Leads axes h leads-1 leads-3 leads-7 leads-8 leads-15

pub stores : (axes : ℕ) → axes_set axes ≡ true → Stores axes
stores axes h = of-axes Stores axes h computed.0 computed.1 computed.2 computed.3 computed.4
