-- Where a program meets another that is put before it or behind it (02, §4, the refusal G).
use Rattle.std.specs.Prelude.{ℕ, Bool, true, false, ◌&&◌, List, ℤ, pos, length, Option, Some, None}
use Rattle.count.specs.Numbers.{within}
use Rattle.record.specs.declared.Held.{Held}
use Rattle.record.specs.declared.Record.{Record}
use Rattle.record.specs.Places.{Records, records_of}
use Rattle.record.specs.Places.Records.{are, none-are}
use Rattle.program.specs.declared.Edges.{Edges}
use Rattle.program.specs.Check.{some}
use Rattle.program.specs.Program.{loop_at, turn_at, target_at, accepted}

-- a target is this place and no other
abbrev pub is_place : ℕ → ℤ → Bool
is_place p target = within (pos p) (pos p) target

-- a jump or wait leads to the end place
unfoldable pub leads_out : List Record → Bool
leads_out l = some (length l) (λ i. turn_at l i && is_place (length l) (target_at l i))

-- a range starts at place 0
unfoldable pub starts_first : List Record → Bool
starts_first l = some (length l) (λ i. loop_at l i && is_place 0 (target_at l i))

-- of what was read; of an unreadable store nothing is told
abbrev pub of_these : (List Record → Bool) → Records → Bool
of_these f (are l) = f l
of_these f none-are = false

-- ---- whether the program is accepted, and what is told of an accepted one

pub record Acceptance : Type 0 where
  pub accepted : Bool
  pub out : Bool
  pub first : Bool

abbrev pub acceptance : Bool → Bool → Bool → Acceptance
acceptance a out first = record { accepted = a; out = out; first = first }

unfoldable pub acceptance_of : Held → List ℕ → Acceptance
acceptance_of h s =
    acceptance (accepted h s) (accepted h s && of_these leads_out (records_of h s)) (accepted h s && of_these starts_first (records_of h s))

-- as the code answers it: the edges of an accepted one
abbrev pub acceptance_in : Option Edges → Acceptance
acceptance_in (Some e) = acceptance true e.out e.first
acceptance_in None = acceptance false false false
