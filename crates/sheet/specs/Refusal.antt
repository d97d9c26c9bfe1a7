-- How the sheet's answers read in the paper's own terms: the numbers of its refusals, and an answer as a refusal beside a value. Definitions only.
use Rattle.std.specs.Prelude.{ℕ, [], ℤ, Result, Ok, Err}
use Rattle.count.specs.Paper.{Paper, says}
use Rattle.sheet.specs.declared.Refusal.{Refusal}
use Rattle.sheet.specs.declared.Refusal.TheVariants as why
use Rattle.sheet.specs.Sheet.{Converted, found, refused}

-- 105 is of a chain's lengths, 201 of the axis, 202 of a distance, speed or sum, and 203 of the whole number that it comes to
abbrev pub refusal_paper : Refusal → Paper
refusal_paper why.Length = says 105 []
refusal_paper why.Axis = says 201 []
refusal_paper why.Value = says 202 []
refusal_paper why.Range = says 203 []

-- the number of the refusal, or 0
abbrev pub number_of : Result (Unit {0}) Refusal → ℕ
number_of (Ok _) = 0
number_of (Err e) = (refusal_paper e).number

-- a value, or the number of the refusal
abbrev pub converted : Result ℤ Refusal → Converted
converted (Ok z) = found z
converted (Err e) = refused (refusal_paper e).number
