-- Stands in contracts of functions that are not exported: nothing of it need be believed. Its laws: proofs/laws/Target.antt.
use Rattle.std.specs.Prelude.{ℕ, ℤ, Option, Some, None}
use Rattle.count.specs.Pick.{pick}
use Rattle.program.specs.Onward.{inside, target_of}

-- a place from place 0 to the end place, or outside
unfoldable pub leads : ℕ → ℤ → ℕ → Option ℕ
leads place offset end = pick (inside place offset end) (Some (target_of place offset)) None
