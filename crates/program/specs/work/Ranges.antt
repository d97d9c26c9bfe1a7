-- Stands in contracts of functions that are not exported: nothing of it need be believed. The ranges of loops as the code finds and counts
-- them, over marks. Its laws: proofs/laws/Ranges.antt.
use Rattle.std.specs.Prelude.{ℕ, ◌+◌, ◌-◌, ◌*◌, ◌/◌, ◌%◌, ◌<◌, ◌≤◌, Bool, true, false, not, ◌&&◌, List, ◌≡◌, ltb, leb, eqb, get_or}
use Rattle.std.specs.Bool.{beq}
use Rattle.count.specs.Pick.{pick}
use Rattle.program.specs.Check.{tally}
use Rattle.program.specs.work.Marks.{mark, holds, outside, early, overlaps, strays}

-- the first place from k on where f holds, or n
pub record Firstly (f : ℕ → Bool) (k n r : ℕ) : Type 0 where
  pub from : k ≤ r
  pub most : r ≤ n
  pub none : (i : ℕ) → k ≤ i → i < r → f i ≡ false
  pub hit : r < n → f r ≡ true

-- the note of a place: how many ranges start there, up to eight, times 1,024; and the first loop behind it whose range starts before its own
abbrev pub starts_of : List ℕ → ℕ → ℕ
starts_of ns i = get_or ns i 0 / 1024

abbrev pub back_of : List ℕ → ℕ → ℕ
back_of ns i = get_or ns i 0 % 1024

-- one range more that starts there
unfoldable pub fuller : ℕ → Bool → ℕ
fuller note more = pick (more && ltb note 8192) (note + 1024) note

-- a number, up to eight
unfoldable pub up_to_8 : ℕ → ℕ
up_to_8 k = pick (ltb k 8) k 8

module _ (loop : ℕ → Bool) (far : ℕ → ℕ) where
  -- a loop that goes back, or stays, has a range
  unfoldable pub ranged : ℕ → Bool
  ranged i = loop i && leb (far i) (mark i)

  -- its place of start, place 0 if it starts before; of a place without a range, that place
  unfoldable pub opening : ℕ → ℕ
  opening i = pick (ranged i) (far i - 32768) i

  -- the mark where it starts; of a place without a range, the one behind it
  unfoldable pub start_of : ℕ → ℕ
  start_of i = pick (ranged i) (far i) (mark i + 1)

  -- the range of place i starts at place q
  unfoldable pub opens : ℕ → ℕ → Bool
  opens q i = ranged i && eqb (far i - 32768) q

  -- the range of place i starts before place p and holds it
  unfoldable pub goes_on : ℕ → ℕ → Bool
  goes_on p i = (ranged i && ltb (far i - 32768) p) && leb p i

  -- nothing is noted but how many ranges start at each place, among those of the first k places
  pub record Counts (ns : List ℕ) (k : ℕ) : Type 0 where
    pub count : (q : ℕ) → q < 1000 → get_or ns q 0 ≡ up_to_8 (tally k (opens q)) * 1024

  -- it is noted how many ranges start at each place
  pub record Starts (ns : List ℕ) (k : ℕ) : Type 0 where
    pub entry : (q : ℕ) → q < 1000 → starts_of ns q ≡ up_to_8 (tally k (opens q))

  -- the range of place i starts before mark s
  unfoldable pub reach : ℕ → ℕ → Bool
  reach s i = loop i && ltb (far i) s

  -- it is noted for each place from q on which loop behind it is the first whose range starts before its own
  pub record Backs (ns : List ℕ) (n q : ℕ) : Type 0 where
    pub entry : (i : ℕ) → q ≤ i → i < n → Firstly (reach (start_of i)) (i + 1) n (back_of ns i)

  -- the range of place i holds one of two marks and not the other
  unfoldable pub differ : ℕ → ℕ → ℕ → Bool
  differ a b i = not (beq (holds loop far i a) (holds loop far i b))

-- the letter of a place that so many ranges hold
unfoldable pub letter_by : (loop turn : ℕ → Bool) (far : ℕ → ℕ) (n held p : ℕ) → ℕ
letter_by loop turn far n held p =
    pick (outside turn far n p) 97
    (pick (early loop far p) 98
    (pick (overlaps loop far p) 99
    (pick (ltb 7 held) 100
    (pick (strays loop turn far n p) 101 0))))
