-- What the codes of a storing line say on paper: a record's code is its character, the end line's number is its character, and any other
-- character is the reply 5. Assumes nothing.
use mathlib.Core.Path.{◌≡◌, refl, sym}
use mathlib.Core.Bool.{Bool, true, false}
use mathlib.Core.List.{[], ◌∷◌}
use Prim.Native.Nat.{ℕ}
use lib.Dec.{eqb}
use lib.IntN.{pos}
use borrow.Author.Tests.{eqb-true}
use Rattle.count.specs.Pick.{pick}
use Rattle.line.specs.Code.{Code}
use Rattle.line.specs.Code as code
use Rattle.line.specs.Lines.{code_of, code_paper}

-- what a character's code says of it
abbrev pub Character : ℕ → Code → Type 0
Character b code.Wrong = (code_paper code.Wrong).number ≡ 53
Character b (code.Record c) = (code_paper (code.Record c)).values ≡ pos b ∷ []
Character b code.End = (code_paper code.End).number ≡ b

module _ (b : ℕ) where
  or : (t : Bool) (k : Code) → Character b k → Character b (pick t (code.Record b) k)
  or true k h = refl
  or false k h = h

  end : (t : Bool) → eqb b 57 ≡ t → Character b (pick t code.End code.Wrong)
  end true e = sym (eqb-true b 57 e)
  end false e = refl

  pub code-character : Character b (code_of b)
  unfolding code_of
  code-character =
      or (eqb b 48) _ (or (eqb b 109) _ (or (eqb b 110) _ (or (eqb b 122) _
      (or (eqb b 51) _ (or (eqb b 53) _ (or (eqb b 49) _ (or (eqb b 50) _
      (or (eqb b 101) _ (or (eqb b 102) _ (or (eqb b 121) _ (end (eqb b 57) refl)))))))))))
