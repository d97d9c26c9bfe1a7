-- The check at `9`, place by place (01, "Running a program", paragraph 2, the sentences on a loop's range and on `9`). It speaks of any
-- program of n places that says which places are loops, which are jumps or waits, and where each of these leads to. Such a target may lie
-- below place 0 or above the end place n.
use Rattle.std.specs.Prelude.{ℕ, zero, suc, ◌+◌, Bool, false, cond, not, ◌&&◌, ◌||◌, [], ◌∷◌, ltb, leb, eqb, ℤ, pos}
use Rattle.std.specs.Bool.{beq}
use Rattle.std.specs.Int.Signed.{le_z}
use Rattle.count.specs.Chars.{ch}
use Rattle.count.specs.Pick.{pick}
use Rattle.count.specs.Paper.{Paper, says}
use Rattle.count.specs.Numbers.{within}
use Rattle.program.specs.Verdict.{Verdict, Sound, Fault, Unreadable}

-- at some place below k; at how many places below k
abbrev pub some : ℕ → (ℕ → Bool) → Bool
some zero f = false
some (suc k) f = f k || some k f

abbrev pub tally : ℕ → (ℕ → Bool) → ℕ
tally zero f = 0
tally (suc k) f = cond (f k) 1 0 + tally k f

-- `loop i`: place i is a loop; `target i`: where place i leads to. The range of the loop at i goes from its target to i.
module _ (loop : ℕ → Bool) (target : ℕ → ℤ) where
  -- the range of i holds place q
  unfoldable pub holds : ℕ → ℤ → Bool
  holds i q = loop i && within (target i) (pos i) q

  -- the ranges of the loops i and j have a place in common
  unfoldable pub share : ℕ → ℕ → Bool
  share i j = le_z (target i) (pos j) && le_z (target j) (pos i)

  -- the range of the loop i holds the whole range of the loop j
  unfoldable pub around : ℕ → ℕ → Bool
  around i j = le_z (target i) (target j) && leb j i

  -- two ranges overlap with neither holding the other
  unfoldable pub crosses : ℕ → ℕ → Bool
  crosses i j = share i j && not (around i j) && not (around j i)

  -- b: a range starts below 0
  unfoldable pub early : ℕ → Bool
  early p = loop p && not (le_z (pos 0) (target p))

  -- c: the range of p and that of an earlier loop overlap so; the fault is the later loop's
  unfoldable pub overlaps : ℕ → Bool
  overlaps p = loop p && some p (λ i. loop i && crosses i p)

  -- how many of the ranges of n places hold place p
  unfoldable pub holders : ℕ → ℕ → ℕ
  holders n p = tally n (λ i. holds i (pos p))

-- `turn i`: place i is a jump or a wait
-- a: its target is below 0 or above the end place
unfoldable pub outside : (ℕ → Bool) → (ℕ → ℤ) → ℕ → ℕ → Bool
outside turn target n p = turn p && not (within (pos 0) (pos n) (target p))

-- the smallest place with a fault, among k places from p on; a fault is a letter, and 0 is none
abbrev pub fault_from : (ℕ → ℕ) → ℕ → ℕ → Verdict
fault_from letter zero p = Sound
fault_from letter (suc k) p = pick (eqb (letter p) 0) (fault_from letter k (suc p)) (Fault (letter p) p)

module _ (loop turn : ℕ → Bool) (target : ℕ → ℤ) (n : ℕ) where
  -- e: a jump or wait and its target don't lie in the same ranges
  unfoldable pub strays : ℕ → Bool
  strays p = turn p && some n (λ i. not (beq (holds loop target i (pos p)) (holds loop target i (target p))))

  -- the fault of a place, the earlier letter first, or 0; d: more than seven ranges hold it
  unfoldable pub letter : ℕ → ℕ
  letter p =
      pick (outside turn target n p) (ch "a")
      (pick (early loop target p) (ch "b")
      (pick (overlaps loop target p) (ch "c")
      (pick (ltb 7 (holders loop target n p)) (ch "d")
      (pick (strays p) (ch "e") 0))))

  unfoldable pub checked : Verdict
  checked = fault_from letter n 0

-- reply 0, or G with the letter and the place
abbrev pub verdict_paper : Verdict → Paper
verdict_paper Sound = says (ch "0") []
verdict_paper (Fault l p) = says (ch "G") (pos l ∷ pos p ∷ [])
verdict_paper Unreadable = says (ch "G") []
