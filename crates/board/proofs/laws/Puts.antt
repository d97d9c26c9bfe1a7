-- The replies of P, b and the end line as the code writes them, part after part, are the texts at the front of the buffer. Assumes nothing.
use Prim.Native.Nat.{ℕ, suc, ◌+◌, ◌-◌, ◌≤◌}
use mathlib.Core.Path.{◌≡◌, refl, sym, ap, ◌∙◌}
use mathlib.Core.Bool.{Bool, true, false}
use mathlib.Core.List.{List, [], ◌∷◌, ◌++◌, append_assoc, append-nil}
use native.Mathlib.Omega.{arith}
use borrow.Author.Tests.{le-ltb, eq-eqb, ne_eqb}
use lib.Dec.{eqb}
use borrow.Rule.Slice.PartMut.{put_mid}
use lib.ListN.{length, take, drop, set, length-append, length-drop}
use lib.Seq.{take_at, drop_at, drop-drop, set_split, length-take-le}
use Rattle.count.proofs.laws.Lists.{rest, to_end, set_front, drop-one}
use Rattle.count.specs.Text.{Written, written, wrote, report, two_hex, hexes, four_digits, decimals}
use Rattle.count.specs.Axes.{shown_axes, end_to_end}
use Rattle.motion.specs.declared.Counters.{Counters}
use Rattle.motion.specs.Axes.{on}
use Rattle.board.specs.declared.Saying.{Saying}
use Rattle.board.specs.declared.Saying.TheVariants as saying
use Rattle.board.specs.work.Work.{bytes_of, put_of}
use Rattle.std.proofs.lemmas.List.{take-append-drop, drop-append-le}

-- ---- a text where there is room for it

wrote-long : (room : ℕ) (t x : List ℕ) → room ≤ length x → wrote room t x ≡ written (length t) (t ++ drop (length t) x)
unfolding wrote
wrote-long room t x h = rw (le-ltb (length x) room h)

-- behind the first `at` bytes
text-behind : (s ys t : List ℕ) (at room n k : ℕ) → length s ≡ at + k → room ≤ k → written n ys ≡ wrote room t (take k (drop at s))
    → ys ≡ t ++ drop (length t) (drop at s)
text-behind s ys t at room n k l h e =
    let m : k ≡ length s - at = omega arith in
    let r : take k (drop at s) ≡ drop at s = rw m (rest at s) in
    let d : length (drop at s) ≡ length s - at = length-drop at s in
    let p : written n ys ≡ wrote room t (drop at s) = e ∙ ap (λ (x : List ℕ). wrote room t x) r in
    ap (λ (w : Written). w.text) (p ∙ wrote-long room t (drop at s) (omega arith))

pub length-report : (c : ℕ) → length (report c) ≡ 6
unfolding report hexes
length-report c = refl

pub length_two : (b : ℕ) → length (two_hex b) ≡ 2
unfolding two_hex hexes
length_two b = refl

pub length-four : (p : ℕ) → length (four_digits p) ≡ 4
unfolding four_digits decimals
length-four p = refl

put_as : (t s : List ℕ) {x : List ℕ} (n : ℕ) → length t ≡ n → x ≡ t ++ drop n s → written n x ≡ put_of t s
put_as t s n l e = ap (λ (y : List ℕ). written n y) e ∙ ap (λ (k : ℕ). written k (t ++ drop k s)) (sym l)

-- ---- 0 and a port's byte

pub port-put : (s ys : List ℕ) (b n : ℕ) → length s ≡ 32 → written n ys ≡ wrote 2 (two_hex b) (take 31 (drop 1 s))
    → written 3 (set (put_mid 1 31 s ys) 0 48) ≡ put_of (48 ∷ two_hex b) s
port-put s ys b n h e =
    let l = length_two b in
    let m : length s - 1 ≡ 31 = omega arith in
    let p : ys ≡ two_hex b ++ drop 2 (drop 1 s) = text-behind s ys (two_hex b) 1 2 n 31 h (omega arith) e ∙ rw l in
    let f : set (put_mid 1 31 s ys) 0 48 ≡ 48 ∷ ys = rw m at (set_front s ys 48 (omega arith)) in
    let q : set (put_mid 1 31 s ys) 0 48 ≡ (48 ∷ two_hex b) ++ drop 3 s = f ∙ rw (p, drop-one 2 s) in
    put_as (48 ∷ two_hex b) s 3 (ap suc l) q

-- ---- G, a letter and a place

-- a part from the third element on has come back, and then the first two are set
set-two : (s ys : List ℕ) (x y : ℕ) → 2 ≤ length s → set (set (put_mid 2 (length s - 2) s ys) 0 x) 1 y ≡ x ∷ y ∷ ys
set-two [] ys x y h = absurd (omega arith)
set-two (a ∷ []) ys x y h = absurd (omega arith)
set-two (a ∷ b ∷ s) ys x y h = ap (λ (l : List ℕ). set (set l 0 x) 1 y) (to_end 2 (a ∷ b ∷ s) ys)

pub fault-put : (s ys : List ℕ) (l p n : ℕ) → length s ≡ 32 → written n ys ≡ wrote 4 (four_digits p) (take 30 (drop 2 s))
    → written 6 (set (set (put_mid 2 30 s ys) 0 71) 1 l) ≡ put_of (71 ∷ l ∷ four_digits p) s
fault-put s ys l p n h e =
    let f = length-four p in
    let m : length s - 2 ≡ 30 = omega arith in
    let t : ys ≡ four_digits p ++ drop 4 (drop 2 s) = text-behind s ys (four_digits p) 2 4 n 30 h (omega arith) e ∙ rw f in
    let g : set (set (put_mid 2 30 s ys) 0 71) 1 l ≡ 71 ∷ l ∷ ys = rw m at (set-two s ys 71 l (omega arith)) in
    let q : set (set (put_mid 2 30 s ys) 0 71) 1 l ≡ (71 ∷ l ∷ four_digits p) ++ drop 6 s = g ∙ rw (t, drop-drop 4 2 s) in
    put_as (71 ∷ l ∷ four_digits p) s 6 (ap (λ (k : ℕ). suc (suc k)) f) q

-- ---- 0 and the positions

pub report-put : (s ys : List ℕ) (at c n : ℕ) → length s ≡ 32 → at ≤ 26 → written n ys ≡ wrote 6 (report c) (take (32 - at) (drop at s))
    → put_mid at (32 - at) s ys ≡ take at s ++ report c ++ drop (at + 6) s
report-put s ys at c n l h e =
    let m : length s - at ≡ 32 - at = omega arith in
    let p : ys ≡ report c ++ drop 6 (drop at s) = text-behind s ys (report c) at 6 n (32 - at) (omega arith) (omega arith) e ∙ rw (length-report c) in
    let t : put_mid at (32 - at) s ys ≡ take at s ++ ys = rw m at (to_end at s ys) in
    t ∙ rw (p, drop-drop) (sym (append_assoc (take at s) (report c) (drop (at + 6) s)))

-- six bytes more behind the first k
more-put : (p s t u x : List ℕ) (k : ℕ) → length p ≡ k → t ≡ p ++ drop k s → u ≡ take k t ++ x ++ drop (k + 6) t → u ≡ (p ++ x) ++ drop (k + 6) s
more-put p s t u x k l e h =
    let a : take k t ≡ p = rw e (take_at p (drop k s) k l) in
    let d : drop k t ≡ drop k s = rw e (drop_at p (drop k s) k l) in
    let q : drop (k + 6) t ≡ drop (k + 6) s = sym (drop-drop 6 k t) ∙ ap (λ (y : List ℕ). drop 6 y) d ∙ drop-drop 6 k s in
    h ∙ rw (a, q)

pub positions-put : (s t u v : List ℕ) (x y z : ℕ) → length s ≡ 32
    → t ≡ take 1 (set s 0 48) ++ report x ++ drop 7 (set s 0 48)
    → u ≡ take 7 t ++ report y ++ drop 13 t
    → v ≡ take 13 u ++ report z ++ drop 19 u
    → written 19 v ≡ put_of (48 ∷ report x ++ report y ++ report z) s
positions-put s t u v x y z h e f g =
    let lx = length-report x in
    let ly = length-report y in
    let lz = length-report z in
    let o : set s 0 48 ≡ (48 ∷ []) ++ drop 1 s = set_split s 0 48 (omega arith) in
    let a : t ≡ ((48 ∷ []) ++ report x) ++ drop 7 s = more-put (48 ∷ []) s (set s 0 48) t (report x) 1 refl o e in
    let l7 : length ((48 ∷ []) ++ report x) ≡ 7 = rw lx in
    let b : u ≡ (((48 ∷ []) ++ report x) ++ report y) ++ drop 13 s = more-put ((48 ∷ []) ++ report x) s t u (report y) 7 l7 a f in
    let l13 : length (((48 ∷ []) ++ report x) ++ report y) ≡ 13 = length-append ((48 ∷ []) ++ report x) (report y) ∙ omega arith in
    let c : v ≡ ((((48 ∷ []) ++ report x) ++ report y) ++ report z) ++ drop 19 s = more-put (((48 ∷ []) ++ report x) ++ report y) s u v (report z) 13 l13 b g in
    let m : length (48 ∷ report x ++ report y ++ report z) ≡ 19 = simp length-append (omega arith) in
    put_as (48 ∷ report x ++ report y ++ report z) s 19 m c

-- ---- the positions by the axis

positions-three : (x y z : List ℕ) → x ++ y ++ z ≡ x ++ (y ++ (z ++ []))
positions-three x y z = append_assoc x y z ∙ ap (λ (l : List ℕ). x ++ (y ++ l)) (sym (append-nil z))

positions-four : (x y z a : List ℕ) → x ++ y ++ z ++ a ≡ x ++ (y ++ (z ++ (a ++ [])))
positions-four x y z a =
    append_assoc (x ++ y) z a ∙ append_assoc x y (z ++ a) ∙ ap (λ (l : List ℕ). x ++ (y ++ (z ++ l))) (sym (append-nil a))

-- three, where not four axes are set
pub shown-three : (s t : List ℕ) (at : Counters) (axes n : ℕ) → (axes ≡ 15 → ⊥) → written n t ≡ put_of (48 ∷ report at.x ++ report at.y ++ report at.z) s
    → written n t ≡ put_of (48 ∷ end_to_end (λ i. report (on i at)) (shown_axes (eqb axes 15))) s
shown-three s t at axes n h e =
    e ∙ ap (λ (l : List ℕ). put_of (48 ∷ l) s) (positions-three (report at.x) (report at.y) (report at.z))
    ∙ ap (λ (b : Bool). put_of (48 ∷ end_to_end (λ i. report (on i at)) (shown_axes b)) s) (sym (ne_eqb axes 15 h))

-- four, behind the three
pub shown-four : (s t u : List ℕ) (at : Counters) (axes n : ℕ) → axes ≡ 15 → written n t ≡ put_of (48 ∷ report at.x ++ report at.y ++ report at.z) s
    → u ≡ take 19 t ++ report at.a ++ drop 25 t → written 25 u ≡ put_of (48 ∷ end_to_end (λ i. report (on i at)) (shown_axes (eqb axes 15))) s
shown-four s t u at axes n h e f =
    let x = report at.x in
    let y = report at.y in
    let z = report at.z in
    let lx = length-report at.x in
    let ly = length-report at.y in
    let lz = length-report at.z in
    let la = length-report at.a in
    let l : length (48 ∷ x ++ y ++ z) ≡ 19 = simp length-append (omega arith) in
    let p : t ≡ (48 ∷ x ++ y ++ z) ++ drop 19 s = ap (λ (w : Written). w.text) e ∙ ap (λ (k : ℕ). (48 ∷ x ++ y ++ z) ++ drop k s) l in
    let q : u ≡ ((48 ∷ x ++ y ++ z) ++ report at.a) ++ drop 25 s = more-put (48 ∷ x ++ y ++ z) s t u (report at.a) 19 l p f in
    let m : length (48 ∷ x ++ y ++ z ++ report at.a) ≡ 25 = simp length-append (omega arith) in
    put_as (48 ∷ x ++ y ++ z ++ report at.a) s 25 m q ∙ ap (λ (k : List ℕ). put_of (48 ∷ k) s) (positions-four x y z (report at.a))
    ∙ ap (λ (b : Bool). put_of (48 ∷ end_to_end (λ i. report (on i at)) (shown_axes b)) s) (sym (eq-eqb axes 15 h))

-- ---- at the front of what is lent

text_short : (say : Saying) (axes : ℕ) (at : Counters) → length (bytes_of say axes at) ≤ 32
text_short saying.Silent axes at = omega arith
text_short (saying.One b) axes at = omega arith
text_short saying.Positions axes at = shown (eqb axes 15)
  where
    shown : (b : Bool) → length (48 ∷ end_to_end (λ i. report (on i at)) (shown_axes b)) ≤ 32
    shown true = simp (length-append, length-report) (omega arith)
    shown false = simp (length-append, length-report) (omega arith)
text_short (saying.Port v) axes at = omega (arith, length_two v)
text_short (saying.Fault l p) axes at = omega (arith, length-four p)

-- the first 32 bytes are written, and the others stay
pub front-put : (s x y : List ℕ) (say : Saying) (axes : ℕ) (at : Counters) (n : ℕ) → 32 ≤ length s → x ≡ take 32 s
    → written n y ≡ put_of (bytes_of say axes at) x
    → written n (y ++ drop 32 s) ≡ put_of (bytes_of say axes at) s
front-put s x y say axes at n h f e =
    let t = bytes_of say axes at in
    let l : length (take 32 s) ≡ 32 = length-take-le 32 s h in
    let k : length t ≤ length (take 32 s) = omega (arith, text_short say axes at) in
    let d : drop (length t) s ≡ drop (length t) (take 32 s) ++ drop 32 s =
    ap (λ (z : List ℕ). drop (length t) z) (sym (take-append-drop 32 s)) ∙ drop-append-le (length t) (take 32 s) (drop 32 s) k in
    let y' : y ≡ t ++ drop (length t) (take 32 s) = ap (λ (w : Written). w.text) e ∙ rw f in
    let m : n ≡ length t = ap (λ (w : Written). w.len) e in
    rw (m, y', d) (ap (λ (z : List ℕ). written (length t) z) (append_assoc t (drop (length t) (take 32 s)) (drop 32 s)))
