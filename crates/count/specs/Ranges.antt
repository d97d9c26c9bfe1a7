-- The ranges that lines and records ask of their numbers (01, "Lines": both tables and the paragraph under the second; 02, §3 for circles).
use Rattle.std.specs.Prelude.{Bool, false, not, ◌&&◌, ◌||◌, List, ℕ, eqb, ℤ, pos, negsuc, get_or}
use Rattle.count.specs.Sizes.{slowest, fastest}
use Rattle.count.specs.Pick.{pick}
use Rattle.count.specs.Numbers.{within, in24, signed}

-- a speed: 30 to 10,000 (reply D)
unfoldable pub in_speed : ℤ → Bool
in_speed z = within (pos slowest) (pos fastest) z

-- an offset: -32,768 to 32,767
unfoldable pub in_offset : ℤ → Bool
in_offset z = within (negsuc 32767) (pos 32767) z

-- a loop's offset: at most -1
unfoldable pub in_back : ℤ → Bool
in_back z = within (negsuc 32767) (negsuc 0) z

-- a loop's number: 1 to 32,767
unfoldable pub in_loop : ℤ → Bool
in_loop z = within (pos 1) (pos 32767) z

-- a delay: 0 to 65,535 tenths of a second
unfoldable pub in_delay : ℤ → Bool
in_delay z = within (pos 0) (pos 65535) z

-- a character: 33 to 126
unfoldable pub in_character : ℤ → Bool
in_character z = within (pos 33) (pos 126) z

-- 3D off or on: 0 or 1
unfoldable pub in_switch : ℤ → Bool
in_switch z = within (pos 0) (pos 1) z

-- an input port: 0 to 3
unfoldable pub in_port : ℤ → Bool
in_port z = within (pos 0) (pos 3) z

-- a byte: 0 to 255
unfoldable pub in_byte : ℤ → Bool
in_byte z = within (pos 0) (pos 255) z

-- the number 0: a jump's number, the output port, an absolute movement's z2
unfoldable pub in_zero : ℤ → Bool
in_zero z = within (pos 0) (pos 0) z

-- ---- the numbers of a movement (01, "Lines", row A, M; "Movement", sentences 1, 3 and 4; 02, §7): a distance or target and a speed for
-- each of x, y, z1, z2, with four axes of x, y, z, a, and with A alone of a. These are one, two or four pairs of numbers, and no other axes have
-- a movement.

-- one pair for x or A alone, two for x and y, four for x, y and z and for all four
abbrev pub one_pair : ℕ → Bool
one_pair axes = eqb axes 1 || eqb axes 8

abbrev pub two_pairs : ℕ → Bool
two_pairs axes = eqb axes 3

abbrev pub four_pairs : ℕ → Bool
four_pairs axes = eqb axes 7 || eqb axes 15

abbrev pub by_pairs : ℕ → Bool → Bool → Bool → Bool
by_pairs axes one two four = pick (one_pair axes) one (pick (two_pairs axes) two (pick (four_pairs axes) four false))

-- 2, 4 or 8 numbers
unfoldable pub right_count : ℕ → ℕ → Bool
right_count axes n = by_pairs axes (eqb n 2) (eqb n 4) (eqb n 8)

-- the number at a place among the words
abbrev pub nth : List ℕ → ℕ → ℤ
nth l i = signed (get_or l i 0)

-- z2: a distance of 24 bits; of an absolute movement 0
unfoldable pub right_z2 : Bool → ℤ → Bool
right_z2 absolute z = pick absolute (in_zero z) (in24 z)

-- the fourth distance or target: z2 of three axes; with four axes that of a, like the others
abbrev pub right_fourth : ℕ → Bool → ℤ → Bool
right_fourth axes absolute z = right_z2 (absolute && eqb axes 7) z

-- distances and targets are of 24 bits
unfoldable pub right_distances : ℕ → Bool → List ℕ → Bool
right_distances axes absolute l =
    by_pairs axes (in24 (nth l 0)) (in24 (nth l 0) && in24 (nth l 2))
    (in24 (nth l 0) && in24 (nth l 2) && in24 (nth l 4) && right_fourth axes absolute (nth l 6))

-- every speed, used or not, is a speed
unfoldable pub right_speeds : ℕ → List ℕ → Bool
right_speeds axes l =
    by_pairs axes (in_speed (nth l 1)) (in_speed (nth l 1) && in_speed (nth l 3))
    (in_speed (nth l 1) && in_speed (nth l 3) && in_speed (nth l 5) && in_speed (nth l 7))

-- ---- the numbers of circles (02, §3: its first sentence, the one on starts and D, and the refusals)

-- a plane: 0 to 2
unfoldable pub in_plane : ℤ → Bool
in_plane z = within (pos 0) (pos 2) z

-- a direction: 0 or -1
unfoldable pub in_direction : ℤ → Bool
in_direction z = within (negsuc 0) (pos 0) z

-- an arc length: 0 to 8,388,607
unfoldable pub in_arc : ℤ → Bool
in_arc z = within (pos 0) (pos 8388607) z

-- a start: -4,000,000 to 4,000,000
unfoldable pub in_start : ℤ → Bool
in_start z = within (negsuc 3999999) (pos 4000000) z

-- which way an axis goes: 1 or -1
unfoldable pub in_way : ℤ → Bool
in_way z = within (pos 1) (pos 1) z || within (negsuc 0) (negsuc 0) z

-- arc length, speed, D, the start on both axes and their two ways: each in its range, and the start not at the centre
unfoldable pub right_arc : List ℕ → Bool
right_arc l =
    in_arc (nth l 0) && in24 (nth l 2)
    && (in_start (nth l 3) && in_start (nth l 4) && not (in_zero (nth l 3) && in_zero (nth l 4)))
    && (in_way (nth l 5) && in_way (nth l 6))
