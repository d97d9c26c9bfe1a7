-- How an answer of the code reads in the paper's own terms (01, "Forms for each place", last paragraph): the paper's number for
-- the case and the case's values as whole numbers. Every enum that an exported function answers has a definition `paper` into this.
use Rattle.std.specs.Prelude.{ℕ, List, ℤ}

pub record Paper : Type 0 where
  pub number : ℕ
  pub values : List ℤ

abbrev pub says : ℕ → List ℤ → Paper
says n l = record { number = n; values = l }
