-- Stands in contracts of functions that are not exported: nothing of it need be believed. Its laws: proofs/laws/Decode.antt.
use Rattle.std.specs.Prelude.{ℕ, ◌+◌, ◌-◌, List, [], ◌∷◌, eqb, ltb, get_or}
use Rattle.count.specs.Pick.{pick}
use Rattle.count.specs.Words.{pad}
use Rattle.record.specs.declared.Record.{Record}
use Rattle.record.specs.Places.{Records}
use Rattle.record.specs.Places.Records.{are, none-are}
use Rattle.program.specs.work.Aims.{Aim, goes, jumps, waits, loops, aim_of, offset_of}

-- 1 a loop, 2 a jump or wait, 0 neither
abbrev pub kind_of : Aim → ℕ
kind_of goes = 0
kind_of (jumps o) = 2
kind_of (waits o) = 2
kind_of (loops c o) = 1

-- a word's offset, counted from -32,768; 0 where it is none
unfoldable pub clip : ℕ → ℕ
clip w = pick (ltb w 32768) (w + 32768) (pick (ltb w 4294934528) 0 (32767 - (4294967295 - w)))

unfoldable pub kept : Record → ℕ
kept r = pick (eqb r.code 51) (clip (get_or r.words 1 0)) (pick (eqb r.code 50) (clip (get_or r.words 1 0)) 0)

-- ---- the two arrays of a list of records, or that there is none

pub data Arrays : Type 0 where
  noted : List ℕ → List ℕ → Arrays
  unread : Arrays

abbrev pub mapped : (Record → ℕ) → List Record → List ℕ
mapped f [] = []
mapped f (r ∷ l) = f r ∷ mapped f l

abbrev pub kinds_of : List Record → List ℕ
kinds_of l = pad 1000 (mapped (λ r. kind_of (aim_of r)) l)

abbrev pub offsets_of : List Record → List ℕ
offsets_of l = pad 1000 (mapped (λ r. offset_of (aim_of r)) l)

abbrev pub arrays_on : Records → Arrays
arrays_on (are l) = noted (kinds_of l) (offsets_of l)
arrays_on none-are = unread
