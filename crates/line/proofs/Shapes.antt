-- The two kinds of lines, as the code takes them apart. Assumes nothing.
use Prim.Native.Nat.{ℕ, ◌<◌, ◌≤◌}
use mathlib.Core.Path.{◌≡◌, refl, ap, sym, ◌∙◌}
use mathlib.Core.List.{List, [], ◌∷◌}
use mathlib.Core.Bool.{Bool, true, false}
use native.Mathlib.Omega.{arith}
use borrow.Author.Tests.{ne_eqb}
use lib.Dec.{eqb}
use lib.ListN.{length, get_or, drop}
use Rattle.count.specs.Pick.{pick}
use Rattle.count.proofs.laws.Lists.{next}
use Rattle.line.specs.declared.Code.{Code as FoundCode}
use Rattle.line.specs.declared.Code.TheVariants as mark
use Rattle.line.specs.Said.{Direct, code_said}
use Rattle.line.specs.Code.{Code}
use Rattle.line.specs.Code as code
use Rattle.line.specs.Letter.{Letter}
use Rattle.line.specs.Letter as letter
use Rattle.line.specs.Numbers.{Numbers, are, wrong, past_space, numbers_of}
use Rattle.line.specs.Lines.{behind, letter_of, direct, by_letter, after_address, direct_of, code_of, stored, by_code, stored_of}
use Rattle.line.specs.work.Reading.{spaced, items, lettered, with_letter, with_code}
use Rattle.line.proofs.Spaces.{past-spaced}

-- ---- at most one space and then numbers

pub behind-spaced : (s : List ℕ) (at : ℕ) → at < length s → behind (drop at s) ≡ numbers_of (drop (spaced at (drop at s)) s)
unfolding behind
behind-spaced s at h =
    ap behind (next s at h) ∙ ap (λ (l : List ℕ). numbers_of (past_space l)) (sym (next s at h)) ∙ ap numbers_of (past-spaced s at)

-- ---- a letter or a code with the numbers that were read

with-letter-is : (k : Letter) (n : Numbers) → direct k n ≡ with_letter k (items n)
with-letter-is k (are l) = refl
with-letter-is k wrong = refl

with-code-is : (k : Code) (n : Numbers) → stored k n ≡ with_code k (items n)
with-code-is k (are l) = refl
with-code-is k wrong = refl

-- ---- a line outside storing

neither : (a b : Bool) (x : Direct) → pick a (pick b x x) x ≡ x
neither true true x = refl
neither true false x = refl
neither false b x = refl

pub direct-short : (s : List ℕ) → length s < 3 → direct_of s ≡ direct letter.Wrong wrong
unfolding direct_of after_address
direct-short [] h = refl
direct-short (a ∷ []) h = refl
direct-short (a ∷ b ∷ []) h = neither (eqb a 64) (eqb b 48) (direct letter.Wrong wrong)
direct-short (a ∷ b ∷ c ∷ s) h = absurd (omega arith)

pub direct-first : (s : List ℕ) → 3 ≤ length s → (get_or s 0 0 ≡ 64 → ⊥) → direct_of s ≡ direct letter.Wrong wrong
unfolding direct_of
direct-first [] h n = absurd (omega arith)
direct-first (a ∷ []) h n = absurd (omega arith)
direct-first (a ∷ b ∷ s) h n = rw (ne_eqb a 64 n)

pub direct-second : (s : List ℕ) → 3 ≤ length s → get_or s 0 0 ≡ 64 → (get_or s 1 0 ≡ 48 → ⊥) → direct_of s ≡ direct letter.Wrong wrong
unfolding direct_of
direct-second [] h e n = absurd (omega arith)
direct-second (a ∷ []) h e n = absurd (omega arith)
direct-second (a ∷ b ∷ s) h e n = rw (e, ne_eqb b 48 n)

direct-third : (s : List ℕ) → 3 ≤ length s → get_or s 0 0 ≡ 64 → get_or s 1 0 ≡ 48
    → direct_of s ≡ by_letter (letter_of (get_or s 2 0)) (get_or s 2 0) (drop 3 s)
unfolding direct_of after_address
direct-third [] h e f = absurd (omega arith)
direct-third (a ∷ []) h e f = absurd (omega arith)
direct-third (a ∷ b ∷ []) h e f = absurd (omega arith)
direct-third (a ∷ b ∷ c ∷ s) h e f = rw (e, f)

pub by-letter : (k : Letter) (b : ℕ) (s : List ℕ)
    → by_letter k b s ≡ pick (lettered k) (direct k (behind s)) (direct letter.Axes (numbers_of (b ∷ s)))
by-letter letter.Wrong b s = refl
by-letter letter.Axes b s = refl
by-letter letter.Relative b s = refl
by-letter letter.Absolute b s = refl
by-letter letter.Origin b s = refl
by-letter letter.Zero b s = refl
by-letter letter.Three b s = refl
by-letter letter.Position b s = refl
by-letter letter.Input b s = refl
by-letter letter.Output b s = refl
by-letter letter.Store b s = refl
by-letter letter.Empty b s = refl
by-letter letter.Start b s = refl
by-letter letter.Plane b s = refl
by-letter letter.Direction b s = refl
by-letter letter.Circle b s = refl

module _ (s : List ℕ) (h : 3 ≤ length s) (a : get_or s 0 0 ≡ 64) (b : get_or s 1 0 ≡ 48) (k : Letter) (e : letter_of (get_or s 2 0) ≡ k) where
  pub direct-lettered : lettered k ≡ true → direct_of s ≡ with_letter k (items (behind (drop 3 s)))
  direct-lettered f =
      direct-third s h a b ∙ ap (λ (x : Letter). by_letter x (get_or s 2 0) (drop 3 s)) e ∙ by-letter k (get_or s 2 0) (drop 3 s)
      ∙ rw f (with-letter-is k (behind (drop 3 s)))

  pub direct-axes : lettered k ≡ false → direct_of s ≡ with_letter letter.Axes (items (numbers_of (drop 2 s)))
  direct-axes f =
      direct-third s h a b ∙ ap (λ (x : Letter). by_letter x (get_or s 2 0) (drop 3 s)) e ∙ by-letter k (get_or s 2 0) (drop 3 s)
      ∙ rw (f, next s 2 h) (with-letter-is letter.Axes (numbers_of (get_or s 2 0 ∷ drop 3 s)))

-- ---- a line while storing

pub stored-none : (s : List ℕ) → length s ≡ 0 → stored_of s ≡ stored code.Wrong wrong
unfolding stored_of
stored-none [] h = refl
stored-none (b ∷ s) h = absurd (omega arith)

pub stored-first : (s : List ℕ) → (length s ≡ 0 → ⊥) → stored_of s ≡ by_code (code_of (get_or s 0 0)) (drop 1 s)
unfolding stored_of
stored-first [] h = absurd (h refl)
stored-first (b ∷ s) h = refl

ends-alone : (s : List ℕ) → length s ≡ 1 → drop 1 s ≡ []
ends-alone [] h = refl
ends-alone (b ∷ []) h = refl
ends-alone (b ∷ c ∷ s) h = absurd (omega arith)

-- a code and the numbers behind it, where nothing stands behind `9`
by-code : (k : FoundCode) (s : List ℕ) → (k ≡ mark.End → s ≡ []) → by_code (code_said k) s ≡ stored (code_said k) (behind s)
unfolding behind
by-code (mark.Record c) s h = refl
by-code mark.End s h = rw (h refl)

pub stored-coded : (s : List ℕ) (k : FoundCode) → (length s ≡ 0 → ⊥) → code_of (get_or s 0 0) ≡ code_said k → (k ≡ mark.End → length s ≡ 1)
    → stored_of s ≡ with_code (code_said k) (items (behind (drop 1 s)))
stored-coded s k h e f =
    stored-first s h ∙ ap (λ (x : Code). by_code x (drop 1 s)) e ∙ by-code k (drop 1 s) (λ g. ends-alone s (f g)) ∙ with-code-is (code_said k) (behind (drop 1 s))

pub ends_more : (s : List ℕ) → 1 < length s → stored code.Wrong wrong ≡ by_code code.End (drop 1 s)
ends_more [] h = absurd (omega arith)
ends_more (b ∷ []) h = absurd (omega arith)
ends_more (b ∷ c ∷ s) h = refl
