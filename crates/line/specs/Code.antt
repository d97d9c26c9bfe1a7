-- A line while storing by its code; a wrong shape is no line.
use Rattle.std.specs.Prelude.{ℕ}

pub data Code : Type 0 where
  Wrong : Code
  Record : ℕ → Code
  End : Code
