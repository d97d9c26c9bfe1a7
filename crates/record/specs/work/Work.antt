-- Stands in contracts of functions that are not exported: nothing of it need be believed. Its laws: proofs/laws/Work.antt.
use Rattle.std.specs.Prelude.{ℕ, ◌+◌, ◌*◌, List, ◌&&◌, Option, Some, None, ltb, leb, eqb, length, get_or}
use Rattle.count.specs.Pick.{pick}

-- ---- the head of a record: its count of numbers, if its mark is right and the whole of it is there

unfoldable pub head_of : List ℕ → Option ℕ
head_of s =
    pick (ltb (length s) 4) None
    (pick (eqb (get_or s 0 0) 0xD7 && eqb (get_or s 1 0) 0x2B)
    (pick (leb (get_or s 3 0) 8 && leb (4 + 4 * get_or s 3 0) (length s)) (Some (get_or s 3 0)) None)
    None)
