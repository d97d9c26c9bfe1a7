-- Whether a pulse was made. Stands in contracts of functions that are not exported: nothing of it need be believed.
use Rattle.motion.specs.declared.Stepped.{Stepped}
use Rattle.std.specs.Prelude.{Bool, true, false, Option, Some, None}

abbrev pub made : Option Stepped → Bool
made (Some s) = true
made None = false
