-- Where a record at a place sends a run (01, "Running a program", paragraph 1 on code `2`, paragraph 2 on loops and on what ends with G).
use Rattle.std.specs.Prelude.{ℕ, ◌+◌, ◌-◌, Bool, ◌&&◌, List, [], ltb, leb, eqb, ℤ, pos, nat_abs, get_or, set, replicate}
use Rattle.count.specs.Chars.{ch}
use Rattle.count.specs.Pick.{pick}
use Rattle.count.specs.Paper.{Paper, says}
use Rattle.count.specs.Numbers.{within}
use Rattle.count.specs.Ranges.{nth}
use Rattle.record.specs.declared.Record.{Record}
use Rattle.program.specs.declared.Loop.{Loop}
use Rattle.program.specs.declared.Loops.{Loops}
use Rattle.program.specs.Going.{Going, To, Waits, Wrong, Way}
use Rattle.program.specs.Program.{leads_to}

-- ---- the open loops: each with its place and the goes back still to make; the entries past the last are 0

abbrev pub counter : ℕ → ℕ → Loop
counter place left = record { place = place; left = left }

abbrev pub opened : List Loop → ℕ → Loops
opened l n = record { at = l; depth = n }

abbrev pub no_loops : Loops
no_loops = opened (replicate 7 (counter 0 0)) 0

-- the counter opened last
abbrev pub last_of : Loops → Loop
last_of o = get_or o.at (o.depth - 1) (counter 0 0)

-- ---- where a run goes

abbrev pub went : Going → ℕ → ℕ → Loops → Way
went g place target o = record { going = g; place = place; target = target; loops = o }

-- on to a place
abbrev pub to : ℕ → Loops → Way
to place o = went To place 0 o

-- ends with G
abbrev pub wrong : Loops → Way
wrong o = went Wrong 0 0 o

-- own place plus offset lies between place 0 and the end place
unfoldable pub inside : ℕ → ℤ → ℕ → Bool
inside place offset end = within (pos 0) (pos end) (leads_to place offset)

abbrev pub target_of : ℕ → ℤ → ℕ
target_of place offset = nat_abs (leads_to place offset)

-- the counter opened last is used: back again while it has goes left, else it closes and the run goes on
unfoldable pub again : ℕ → ℕ → Loops → Way
again place target o =
    pick (eqb (last_of o).left 0)
    (to (place + 1) (opened (set o.at (o.depth - 1) (counter 0 0)) (o.depth - 1)))
    (to target (opened (set o.at (o.depth - 1) (counter place ((last_of o).left - 1))) o.depth))

-- a new one opens and makes the first of its goes back; an eighth does not open
unfoldable pub opens : ℕ → ℕ → ℕ → Loops → Way
opens place target number o =
    pick (leb 7 o.depth) (wrong o)
    (to target (opened (set o.at o.depth (counter place (number - 1))) (o.depth + 1)))

-- at a loop record the counter opened last is used if it belongs to that place, else a new one opens; more than seven open loops is a
-- state that every call refuses (103)
unfoldable pub looped : ℕ → ℕ → ℕ → Loops → Way
looped place target number o =
    pick (ltb 7 o.depth) (wrong o)
    (pick (ltb 0 o.depth && eqb (last_of o).place place) (again place target o) (opens place target number o))

-- a jump, loop or wait about to run with a target outside ends with G; and so does a loop number above 32,767, which no right record has
unfoldable pub aimed : ℕ → ℕ → ℤ → Record → Loops → Way
aimed place end offset r o =
    pick (inside place offset end)
    (pick (eqb r.code (ch "2")) (went Waits (place + 1) (target_of place offset) o)
    (pick (eqb (get_or r.words 0 0) 0) (to (target_of place offset) o)
    (pick (ltb 32767 (get_or r.words 0 0)) (wrong o)
    (looped place (target_of place offset) (get_or r.words 0 0) o))))
    (wrong o)

-- the record at a place below the end place; there is none at the end place or above it
unfoldable pub onward_of : Record → ℕ → ℕ → Loops → Way
onward_of r place end o =
    pick (leb end place) (wrong o)
    (pick (eqb r.code (ch "3")) (aimed place end (nth r.words 1) r o)
    (pick (eqb r.code (ch "2")) (aimed place end (nth r.words 1) r o)
    (to (place + 1) o)))

-- a record done, a wait, or G
abbrev pub going_paper : Going → Paper
going_paper To = says 4 []
going_paper Waits = says (ch "2") []
going_paper Wrong = says (ch "G") []
