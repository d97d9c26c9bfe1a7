-- What the refutations of the fakes share: texts that are typed in, and numbers taken out of ℤ. Assumes nothing.
use Prim.Native.Nat.{ℕ}
use mathlib.Core.List.{List, [], ◌∷◌}
use lib.IntN.{ℤ, pos, negsuc}
use lib.ListN.{replicate}
use Rattle.record.specs.Memory.{Memory, memory}
use Rattle.board.specs.Calls.{Lent, lent}
use Rattle.course.specs.Walk.{no_memory}
use Rattle.promise.specs.Machine.{Event, byte}
use Rattle.promise.specs.Stop.{Step, receive, own}

-- a reply buffer of 32 bytes
abbrev pub reply0 : List ℕ
reply0 = replicate 32 0

-- a memory with these bytes in its store, and every entry of its table 0
abbrev pub with_store : List ℕ → Memory
with_store store = memory store (replicate 1000 0)

abbrev pub lent0 : Lent
lent0 = lent reply0 no_memory

-- bytes one after the other, each lent such a buffer: as events with a memory, and as steps with the one memory
abbrev pub typed_on : Memory → List ℕ → List Event
typed_on mem [] = []
typed_on mem (v ∷ l) = byte v [] (lent reply0 mem) ∷ typed_on mem l

abbrev pub typed : List ℕ → List Event
typed l = typed_on no_memory l

abbrev pub steps_of : List ℕ → List Step
steps_of [] = []
steps_of (v ∷ l) = receive v [] reply0 own ∷ steps_of l

unfoldable pub number : ℤ → ℕ
number (pos n) = n
number (negsuc n) = n
