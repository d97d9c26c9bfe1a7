-- What a record's code asks of its numbers under given axes, and what is wrong with them: replies 5, 7, 3, 1 and D in this order (01,
-- "Lines": the paragraph on storing, the table of replies, and the paragraph under it; 02, §3 for circles, §7 for the A axis). Order is by kind, not by place:
-- all ranges before all speeds.
use Rattle.std.specs.Prelude.{ℕ, List, Bool, true, false, not, ◌&&◌, ◌||◌, eqb, ℤ, pos, Result, Ok, Err}
use Rattle.count.specs.Chars.{ch}
use Rattle.count.specs.Pick.{pick}
use Rattle.count.specs.Numbers.{within}
use Rattle.count.specs.declared.Axis.TheVariants.{X, A}
use Rattle.count.specs.declared.Fault.{Fault}
use Rattle.count.specs.Refusals.{letter_of}
use Rattle.count.specs.Axes.{part, has}
use Rattle.count.specs.Ranges.{in_offset, in_back, in_loop, in_delay, in_character, in_switch, in_zero, in_speed, in_plane, in_direction, nth, right_count, right_distances, right_speeds, right_arc}

-- ---- a row: is it known at all (5), and what holds of its numbers under the axes: how many they are (7), an axes value (3), the others
-- (1), the speeds (D)

pub record Asks : Type 0 where
  pub known : Bool
  pub count : ℕ → ℕ → Bool
  pub values : ℕ → List ℕ → Bool
  pub ranges : ℕ → List ℕ → Bool
  pub speeds : ℕ → List ℕ → Bool

-- a row: 7, 3, 1, D
abbrev pub asking : (ℕ → ℕ → Bool) → (ℕ → List ℕ → Bool) → (ℕ → List ℕ → Bool) → (ℕ → List ℕ → Bool) → Asks
asking count values ranges speeds = record { known = true; count = count; values = values; ranges = ranges; speeds = speeds }

-- so many numbers, whatever the axes
abbrev pub just : ℕ → ℕ → ℕ → Bool
just k axes n = eqb n k

-- nothing is asked
abbrev pub any : ℕ → List ℕ → Bool
any axes l = true

-- what is not known
abbrev pub unknown : Asks
unknown = record { known = false; count = λ axes n. false; values = any; ranges = any; speeds = any }

-- ---- the columns' entries, by what the numbers are

-- 3: axes are 1 to 7 and none beyond the axes set, where the sets 1, 3 and 7 hold just the values up to themselves; or 8, A alone, where A is
-- set (02, §7: it is not mixed with others)
unfoldable pub named_by : ℕ → ℤ → Bool
named_by axes z =
    (has axes X && within (pos 1) (pos 7) z && within (pos 1) (pos axes) z)
    || (has axes A && within (pos (part A)) (pos (part A)) z)

abbrev pub axes_named : ℕ → List ℕ → Bool
axes_named axes l = named_by axes (nth l 0)

abbrev pub distances : ℕ → List ℕ → Bool
distances axes l = right_distances axes false l

abbrev pub targets : ℕ → List ℕ → Bool
targets axes l = right_distances axes true l

abbrev pub switch : ℕ → List ℕ → Bool
switch axes l = in_switch (nth l 0)

-- a loop: number 1 to 32,767 and an offset of at most -1; a jump: number 0 and any offset
unfoldable pub loop_right : ℤ → ℤ → Bool
loop_right number offset = (in_loop number && in_back offset) || (in_zero number && in_offset offset)

abbrev pub loop_or_jump : ℕ → List ℕ → Bool
loop_or_jump axes l = loop_right (nth l 0) (nth l 1)

abbrev pub delay : ℕ → List ℕ → Bool
delay axes l = in_delay (nth l 0)

abbrev pub character : ℕ → List ℕ → Bool
character axes l = in_character (nth l 0)

abbrev pub character_offset : ℕ → List ℕ → Bool
character_offset axes l = in_character (nth l 0) && in_offset (nth l 1)

-- a plane, a direction; and a circle's numbers: which way its axes go at the start, and whether its plane is set, is asked when it is run
abbrev pub plane : ℕ → List ℕ → Bool
plane axes l = in_plane (nth l 0)

abbrev pub direction : ℕ → List ℕ → Bool
direction axes l = in_direction (nth l 0)

abbrev pub arc : ℕ → List ℕ → Bool
arc axes l = right_arc l

abbrev pub arc_speed : ℕ → List ℕ → Bool
arc_speed axes l = in_speed (nth l 1)

-- ---- the table: `0` and `m` movement, `n` origin, `z` 3D, `3` loop or jump, `5` delay, `1` character sent, `2` character waited for,
-- `e` plane, `f` direction, `y` circle

abbrev pub asks : ℕ → Asks
asks code =
    pick (eqb code (ch "0")) (asking right_count any distances right_speeds)
    (pick (eqb code (ch "m")) (asking right_count any targets right_speeds)
    (pick (eqb code (ch "n")) (asking (just 1) axes_named any any)
    (pick (eqb code (ch "z")) (asking (just 1) any switch any)
    (pick (eqb code (ch "3")) (asking (just 2) any loop_or_jump any)
    (pick (eqb code (ch "5")) (asking (just 1) any delay any)
    (pick (eqb code (ch "1")) (asking (just 1) any character any)
    (pick (eqb code (ch "2")) (asking (just 2) any character_offset any)
    (pick (eqb code (ch "e")) (asking (just 1) any plane any)
    (pick (eqb code (ch "f")) (asking (just 1) any direction any)
    (pick (eqb code (ch "y")) (asking (just 7) any arc arc_speed) unknown))))))))))

-- its columns
unfoldable pub is_code : ℕ → Bool
is_code code = (asks code).known

unfoldable pub count_right : ℕ → ℕ → ℕ → Bool
count_right axes code n = (asks code).count axes n

unfoldable pub axes_right : ℕ → ℕ → List ℕ → Bool
axes_right axes code l = (asks code).values axes l

unfoldable pub ranges_right : ℕ → ℕ → List ℕ → Bool
ranges_right axes code l = (asks code).ranges axes l

unfoldable pub speeds_right : ℕ → ℕ → List ℕ → Bool
speeds_right axes code l = (asks code).speeds axes l

-- the movements, for those who run them
abbrev pub is_movement : ℕ → Bool
is_movement code = eqb code (ch "0") || eqb code (ch "m")

abbrev pub is_absolute : ℕ → Bool
is_absolute code = eqb code (ch "m")

-- ---- the reply's character

-- the refusals of numbers in their order, and what comes behind them
abbrev pub numbers_reply : Bool → Bool → Bool → Bool → ℕ → ℕ
numbers_reply count values ranges speeds other =
    pick (not count) (ch "7")
    (pick (not values) (ch "3")
    (pick (not ranges) (ch "1")
    (pick (not speeds) (ch "D") other)))

-- as it is answered: what is wrong, by its character; 0 where nothing is
abbrev pub replied : {A : Type 0} → Result A Fault → ℕ
replied (Ok x) = ch "0"
replied (Err f) = letter_of f

-- a code that is none has the wrong shape, 5; 0 where the record is right
unfoldable pub fault_of : ℕ → ℕ → ℕ → List ℕ → ℕ
fault_of axes code n l =
    pick (not (is_code code)) (ch "5")
    (numbers_reply (count_right axes code n) (axes_right axes code l) (ranges_right axes code l) (speeds_right axes code l) (ch "0"))
