-- 01's fifth fake fails the count: a run has one number of clock calls, and a machine that says another fails whatever the limit, the memory
-- and the state. Assumes nothing.
use Prim.Native.Nat.{ℕ, zero, suc, ◌+◌, ◌<◌, ◌≤◌}
use native.Mathlib.Omega.{arith}
use mathlib.Core.Bool.{Bool, true, false, true≢false}
use mathlib.Core.Path.{◌≡◌, refl, sym, ◌∙◌, ap}
use borrow.Author.Tests.{ltb-true, ltb-false}
use lib.Dec.{ltb}
use Rattle.count.specs.Chars.{codes}
use Rattle.record.specs.Memory.{Memory}
use Rattle.board.specs.declared.Board.{Board}
use Rattle.course.specs.Run.{runs_now, course}
use Rattle.course.specs.Walk.{no_memory}
use Rattle.promise.specs.Machine.{Machine, ours, after_all}
use Rattle.promise.specs.Demands.{ticks, CountedRun}
use Rattle.promise.specs.Demanded.{Demanded}
use Rattle.promise.specs.Fakes.{miscounts, invents}
use Rattle.promise.proofs.laws.FakesTyped.{typed}
use Rattle.promise.proofs.laws.KeepsCalls.{keeps-counted}

-- ---- of any machine: two counted runs of the same limit, memory and state have the same number of calls

module _ (m : Machine) (limit : ℕ) (mem : Memory) (s : m.State) where
  -- the one with fewer is over, where the other still makes a call
  not-fewer : (t u : m.State) (a b : ℕ) → CountedRun m limit mem s t a → CountedRun m limit mem s u b → a < b → ⊥
  not-fewer t u a b c d h =
      let q : b ≤ limit = d.most in
      let o : runs_now (m.board t) ≡ false = c.over (omega arith) in
      true≢false (sym (d.each a h) ∙ ap (λ (x : m.State). runs_now (m.board x)) (sym c.made) ∙ o)

  pub one-count : (t u : m.State) (a b : ℕ) → CountedRun m limit mem s t a → CountedRun m limit mem s u b → a ≡ b
  one-count t u a b c d = by (ltb a b) (ltb b a) refl refl
    where
      by : (x y : Bool) → ltb a b ≡ x → ltb b a ≡ y → a ≡ b
      by true y p q = absurd (not-fewer t u a b c d (ltb-true a b p))
      by false true p q = absurd (not-fewer u t b a d c (ltb-true b a q))
      by false false p q = omega (arith, ltb-false a b p, ltb-false b a q)

-- ---- a machine that makes our clock calls and says a number by some rule

module _ (f : ℕ → ℕ) where
  same-ticks : (k : ℕ) (mem : Memory) (b : Board) → ticks (miscounts f) k mem b ≡ ticks ours k mem b
  unfolding ticks
  same-ticks zero mem b = refl
  same-ticks (suc k) mem b = same-ticks k mem (ours.tick mem b).0

  -- the true number is a count of its run too
  true-count : (limit : ℕ) (mem : Memory) (b : Board)
      → CountedRun (miscounts f) limit mem b (course limit mem b).board (course limit mem b).calls
  true-count limit mem b =
      let c = keeps-counted limit mem b in
      record {
        made = c.made ∙ sym (same-ticks (course limit mem b).calls mem b);
        most = c.most;
        each = λ j h. ap (λ (x : Board). runs_now x) (same-ticks j mem b) ∙ c.each j h;
        over = c.over;
      }

  -- so what it says is the true number
  pub says-the-count : (limit : ℕ) (mem : Memory) (b : Board)
      → CountedRun (miscounts f) limit mem b (course limit mem b).board (f (course limit mem b).calls)
      → f (course limit mem b).calls ≡ (course limit mem b).calls
  says-the-count limit mem b c =
      one-count (miscounts f) limit mem b (course limit mem b).board (course limit mem b).board
      (f (course limit mem b).calls) (course limit mem b).calls c (true-count limit mem b)

-- one more than it made fails at every limit, with every memory, on every board
pub invents-fails-at : (limit : ℕ) (mem : Memory) (b : Board)
    → CountedRun invents limit mem b (course limit mem b).board ((course limit mem b).calls + 1) → ⊥
invents-fails-at limit mem b c = never (course limit mem b).calls (says-the-count (λ n. n + 1) limit mem b c)
  where
    never : (n : ℕ) → n + 1 ≡ n → ⊥
    never n h = omega arith

-- a movement of three steps on x, with a limit far above its four calls
pub invents-fails : Demanded invents → ⊥
invents-fails d =
    let s : Board = after_all invents (typed (codes "@01\r@0A3,600\r")) invents.first in
    invents-fails-at 100 no_memory s (d.demand-2.counted 100 no_memory s)
