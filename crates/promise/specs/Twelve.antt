-- 01, "Prove these": one statement over its list of twelve, about the names that the contracts cite. antt computes each side.
-- Assumes nothing.
use Rattle.std.specs.Prelude.{ℕ, zero, suc, ◌+◌, ◌≡◌, false, List, [], ◌∷◌, ◌++◌, ℤ, pos, negsuc, take, replicate}
use Prim.Native.String as string
use Rattle.count.specs.Sizes.{reply_bytes}
use Rattle.count.specs.Chars.{codes}
use Rattle.count.specs.Numbers.{value, count, half}
use Rattle.count.specs.Paper.{Paper, says}
use Rattle.sheet.specs.declared.Rate.TheVariants.{PerMinute}
use Rattle.sheet.specs.Sheet.{float, minus_float, found, distance_of, speed_of}
use Rattle.sheet.specs.Sheet.{axis}
use Rattle.circle.specs.Plan.{at_first}
use Rattle.engine.specs.State.{paper, zeroes, nothing_held, idle}
use Rattle.record.specs.Memory.{Memory}
use Rattle.board.specs.declared.Board.{Board}
use Rattle.board.specs.State.{board, no_line}
use Rattle.board.specs.Calls.{lent, receiving, clocking, fresh}
use Rattle.course.specs.Run.{course}
use Rattle.course.specs.Walk.{walked, no_ports, no_memory, most}

-- ---- a history: bytes through `receiving`, each with a reply buffer of 32 bytes, and clock calls through `clocking`

pub record History : Type 0 where
  pub board : Board
  pub memory : Memory
  -- the replies end to end, the clock's answers on paper, and the last refusal's number or 0
  pub replies : List ℕ
  pub answers : List Paper
  pub refusal : ℕ

-- from a board with an empty store
abbrev pub from : Board → History
from b = record { board = b; memory = no_memory; replies = []; answers = []; refusal = 0 }

unfoldable pub sends : List ℕ → History → History
sends [] h = h
sends (v ∷ l) h =
    let o = receiving v no_ports h.board (lent (replicate reply_bytes 0) h.memory) in
    sends l (record {
      board = o.result.board;
      memory = o.after.memory;
      replies = h.replies ++ take o.result.len o.after.reply;
      answers = h.answers;
      refusal = h.refusal + o.result.refusal;
    })

unfoldable pub ticks : ℕ → History → History
ticks zero h = h
ticks (suc k) h =
    let t = clocking h.board h.memory in
    ticks k (record {
      board = t.board;
      memory = h.memory;
      replies = h.replies;
      answers = h.answers ++ paper t.answer ∷ [];
      refusal = h.refusal + t.refusal;
    })

-- ---- what the examples speak of

-- a pulse with the signs of x and y, a record done, and a byte sent
abbrev pub pulse : ℤ → ℤ → Paper
pulse x y = says 1 (x ∷ y ∷ pos 0 ∷ pos 0 ∷ pos 600 ∷ [])

abbrev pub done : Paper
done = says 4 []

abbrev pub send0 : Paper
send0 = says 3 (pos 48 ∷ [])

-- so many times two answers
abbrev pub times : ℕ → Paper → Paper → List Paper
times zero p q = []
times (suc n) p q = p ∷ q ∷ times n p q

-- a fresh board, set to axes 1, where x stands at a count, and at a number
abbrev pub stands_on : ℕ → Board
stands_on c = board (record { axes = 1; at = record { x = c; y = half; z = half; a = half }; origin = zeroes; three = false; circling = at_first; output = 0; held = nothing_held; run = idle }) false no_line

abbrev pub stands_at : ℤ → Board
stands_at z = stands_on (count z)

-- what a fresh board comes to by a text
abbrev pub told : string.String → History
told s = sends (codes s) (from fresh)

-- ---- the twelve

-- (1) the pulses of 01, "walk"
abbrev pub One : Type 0
One =
    walked (codes "@03\r@0A3,600,1,900\r") ≡ codes "walk\nR 0\nP +.. 600\nP ++. 600\nP +.. 600\nR 0\nE 3 1 0\n"

-- (2) distances 4,-2: x with y, x, x with y, x; then 0
abbrev pub Two : Type 0
Two =
    (ticks 5 (told "@03\r@0A4,600,-2,600\r")).answers
    ≡ pulse (pos 1) (negsuc 0) ∷ pulse (pos 1) (pos 0) ∷ pulse (pos 1) (negsuc 0) ∷ pulse (pos 1) (pos 0) ∷ send0 ∷ []

-- (3) `3 25,-1` runs its record 26 times: 26 pulses, then 0; x = 26, and 53 clock calls
abbrev pub Three : Type 0
Three =
    let h = told "@01\r@0i\r01,600\r3 25,-1\r9\r@0S\r" in
    (h.replies ≡ codes "00000") × ((ticks 53 h).answers ≡ times 26 (pulse (pos 1) (pos 0)) done ++ send0 ∷ [])
    × (value (course most h.memory h.board).board.engine.at.x ≡ pos 26) × ((course most h.memory h.board).calls ≡ 53)

-- (4) `3 0,5` at place 0 goes to 5 by one clock call
abbrev pub Four : Type 0
Four =
    let h = told "@01\r@0i\r3 0,5\r51\r51\r51\r51\r01,600\r9\r@0S\r" in
    (h.replies ≡ codes "000000000") × (h.board.engine.run.place ≡ 0) × ((ticks 1 h).board.engine.run.place ≡ 5)

-- (5) in a two-record field, target 2 passes and 3 is G; 02 §1 names it: a at place 0
abbrev pub Five : Type 0
Five =
    ((told "@01\r@0i\r3 0,2\r51\r9\r").replies ≡ codes "00000") × ((told "@01\r@0i\r3 0,3\r51\r9\r").replies ≡ codes "0000Ga0000")

-- (6) `3 2,-1` directly after `3 25,-1` is G, which 02 §1 names as c at place 2; `3 2,-2` is not
abbrev pub Six : Type 0
Six =
    ((told "@01\r@0i\r51\r3 25,-1\r3 2,-1\r9\r").replies ≡ codes "00000Gc0002") × ((told "@01\r@0i\r51\r3 25,-1\r3 2,-2\r9\r").replies ≡ codes "000000")

-- (7) -2 reports FFFFFE
abbrev pub Seven : Type 0
Seven =
    (sends (codes "@0P\r") (from (stands_at (negsuc 1)))).replies ≡ codes "0FFFFFE000000000000"

-- (8) 256 reports 000100
abbrev pub Eight : Type 0
Eight =
    (sends (codes "@0P\r") (from (stands_at (pos 256)))).replies ≡ codes "0000100000000000000"

-- (9) lead 5, 400 steps, gear 1, 10 mm is 800
abbrev pub Nine : Type 0
Nine =
    distance_of (axis 5 400 1) (float 10 1) ≡ found (pos 800)

-- (10) lead 4, 2 steps, gear 1, 1 mm is 1 and -1 mm is -1
abbrev pub Ten : Type 0
Ten =
    (distance_of (axis 4 2 1) (float 1 1) ≡ found (pos 1)) × (distance_of (axis 4 2 1) (minus_float 1 1) ≡ found (negsuc 0))

-- (11) lead 4, 400 steps, gear 1, 600 mm per minute is 1,000
abbrev pub Eleven : Type 0
Eleven =
    speed_of (axis 4 400 1) (PerMinute (float 600 1)) ≡ found (pos 1000)

-- (12) 8,388,607 plus 1 is 9, and the board is the same
abbrev pub Twelfth : Type 0
Twelfth =
    let h = sends (codes "@0A1,600\r") (from (stands_at (pos 8388607))) in
    (h.replies ≡ codes "9") × (h.board ≡ stands_at (pos 8388607)) × (h.memory ≡ no_memory) × (h.refusal ≡ 0)

-- the whole list
abbrev pub Twelve : Type 0
Twelve = One × Two × Three × Four × Five × Six × Seven × Eight × Nine × Ten × Eleven × Twelfth
