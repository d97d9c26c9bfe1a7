-- The columns of the table of codes as the code tests them. Assumes nothing.
use Prim.Native.Nat.{ℕ}
use mathlib.Core.Path.{◌≡◌, refl, ap}
use mathlib.Core.List.{List}
use mathlib.Core.Bool.{true, false, ◌||◌}
use lib.Dec.{eqb}
use Rattle.std.proofs.Common.{lt-ltb, le-ltb, le-leb, eq-eqb, ne_eqb}
use Rattle.std.proofs.lemmas.Bool.{lt-leb}
use Rattle.count.specs.Pick.{pick}
use Rattle.count.proofs.laws.Laws.{within-up}
use Rattle.count.specs.Ranges.{in_speed, nth, right_count, right_speeds}
use Rattle.record.specs.Fault.{Asks, axes_named, is_movement, is_code, count_right, axes_right, ranges_right, speeds_right}
use Rattle.record.proofs.laws.Faultless.{row-none, one_byte, by_byte, by_code-each}

pub code-so : (c : ℕ) → is_code c ≡ is_movement c || (eqb c 110 || eqb c 122 || eqb c 51 || eqb c 53 || eqb c 49 || eqb c 50 || eqb c 101 || eqb c 102 || eqb c 121)
unfolding is_code
code-so c =
    by_byte (λ (k : ℕ). is_code k ≡ is_movement k || (eqb k 110 || eqb k 122 || eqb k 51 || eqb k 53 || eqb k 49 || eqb k 50 || eqb k 101 || eqb k 102 || eqb k 121)) c
    refl refl refl refl refl refl refl refl refl refl refl
    (λ n. rw (row-none c n, is_code, n.not-0, n.not-m, n.not-n, n.not-z, n.not-3, n.not-5, n.not-1, n.not-2, n.not-e, n.not_f, n.not-y))

pub count-so : (axes c n : ℕ) → is_code c ≡ true → count_right axes c n ≡ pick (is_movement c) (right_count axes n) (pick (eqb c 51 || eqb c 50) (eqb n 2) (pick (eqb c 121) (eqb n 7) (eqb n 1)))
unfolding count_right
count-so axes c n e =
    by_code-each (λ (k : ℕ). count_right axes k n ≡ pick (is_movement k) (right_count axes n) (pick (eqb k 51 || eqb k 50) (eqb n 2) (pick (eqb k 121) (eqb n 7) (eqb n 1)))) c e
    refl refl refl refl refl refl refl refl refl refl refl

pub axes-so : (axes c : ℕ) (l : List ℕ) → axes_right axes c l ≡ pick (eqb c 110) (axes_named axes l) true
unfolding axes_right
axes-so axes c l =
    by_byte (λ (k : ℕ). axes_right axes k l ≡ pick (eqb k 110) (axes_named axes l) true) c
    refl refl refl refl refl refl refl refl refl refl refl
    (λ n. rw (row-none c n, axes_right, n.not-n))

pub speeds-so : (axes c : ℕ) (l : List ℕ) → speeds_right axes c l ≡ pick (is_movement c) (right_speeds axes l) (pick (eqb c 121) (in_speed (nth l 1)) true)
unfolding speeds_right
speeds-so axes c l =
    by_byte (λ (k : ℕ). speeds_right axes k l ≡ pick (is_movement k) (right_speeds axes l) (pick (eqb k 121) (in_speed (nth l 1)) true)) c
    refl refl refl refl refl refl refl refl refl refl refl
    (λ n. rw (row-none c n, speeds_right, n.not-0, n.not-m, n.not-y))

-- no range is asked by `n`, nor by a byte that is no code
pub ranges-none : (axes c : ℕ) (l : List ℕ) → eqb c 48 ≡ false → eqb c 109 ≡ false → eqb c 122 ≡ false → eqb c 51 ≡ false → eqb c 53 ≡ false → eqb c 49 ≡ false
    → eqb c 50 ≡ false → eqb c 101 ≡ false → eqb c 102 ≡ false → eqb c 121 ≡ false → ranges_right axes c l ≡ true
unfolding ranges_right
ranges-none axes c l p q r s t u v x y z =
    one_byte (λ (k : ℕ). ranges_right axes k l ≡ true) c 110 refl
    (λ e. ap (λ (a : Asks). a.ranges axes l) (row-none c (record { not-0 = p; not-m = q; not-n = e; not-z = r; not-3 = s; not-5 = t; not-1 = u; not-2 = v; not-e = x; not_f = y; not-y = z })))

-- the columns, for the functions that read them
pub ruleset rows = (code-so, count-so, axes-so, speeds-so, lt-ltb, le-ltb, le-leb, lt-leb, eq-eqb, ne_eqb, within-up)
