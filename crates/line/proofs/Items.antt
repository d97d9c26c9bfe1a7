-- The numbers of a line read one after the other, each in one pass, are the numbers of the texts between the commas. Assumes nothing.
use Prim.Native.Nat.{ℕ, suc, ◌+◌, ◌-◌, ◌*◌, ◌<◌, ◌≤◌}
use mathlib.Core.Path.{◌≡◌, refl, ap, sym, ◌∙◌}
use Rattle.std.specs.Prelude.{Option, Some, None}
use mathlib.Core.List.{List, [], ◌∷◌, ◌++◌, map, append-nil, append_assoc}
use mathlib.Core.Bool.{Bool, true, false}
use native.Mathlib.Numerals.{add-one}
use native.Mathlib.Omega.{arith}
use borrow.Author.Tests.{lt-ltb, le-ltb, ne_eqb, ltb-true, ltb-false, eqb-true}
use lib.Dec.{eqb, ltb}
use lib.IntN.{ℤ}
use lib.ListN.{length, drop, set, length-append, length-drop}
use Rattle.count.specs.Pick.{pick}
use Rattle.count.specs.Numbers.{word, with_sign}
use Rattle.count.proofs.laws.Words.{pad-put}
use Rattle.count.specs.Words.{pad}
use Rattle.line.specs.declared.numbers.Item.{Item}
use Rattle.line.specs.declared.numbers.Items.{Items}
use Rattle.line.specs.Numbers.{Size, size, no_size, digits_behind, digits_of, Number, is, no_number, plus, minus, number_of, past_space, item_of, onto, parted, Numbers, are, wrong, and_then, items_of, first_of, numbers_of}
use Rattle.line.specs.work.Reading.{last, more, reading, item_from, spaced, items}
use Rattle.line.proofs.Spaces.{tail, past-spaced}

-- ---- 1 to 8 digits, digit by digit: d of them were read, of the size v

abbrev digits_from : ℕ → ℕ → List ℕ → Size
digits_from d v [] = pick (eqb d 0) no_size (size v)
digits_from d v (b ∷ s) = pick (ltb b 48) no_size (pick (ltb 57 b) no_size (pick (ltb d 8) (digits_from (d + 1) (10 * v + (b - 48)) s) no_size))

abbrev sized : ℕ → Size → Size
sized n x = pick (eqb n 0) no_size (pick (ltb 8 n) no_size x)

none : (a b : Bool) → pick a no_size (pick b no_size no_size) ≡ no_size
none true b = refl
none false true = refl
none false false = refl

more-end : (d v : ℕ) → d ≤ 8 → digits_from d v [] ≡ sized (d + 0) (size v)
more-end d v h = let k : d + 0 ≡ d = omega arith in rw (k, le-ltb 8 d h)

more_by : (a b t : Bool) (d l : ℕ) (x y : Size) → ltb d 8 ≡ t → d ≤ 8 → (d + 1 ≤ 8 → x ≡ sized (d + 1 + l) y)
    → pick a no_size (pick b no_size (pick t x no_size)) ≡ sized (d + suc l) (pick a no_size (pick b no_size y))
more_by true b t d l x y e h ih = sym (none (eqb (d + suc l) 0) (ltb 8 (d + suc l)))
more_by false true t d l x y e h ih = sym (none (eqb (d + suc l) 0) (ltb 8 (d + suc l)))
more_by false false true d l x y e h ih =
    let k : d + 1 + l ≡ d + suc l = omega arith in
    ih (omega (arith, ltb-true d 8 e)) ∙ ap (λ (n : ℕ). sized n y) k
more_by false false false d l x y e h ih =
    let g = ltb-false d 8 e in
    rw (ne_eqb (d + suc l) 0 (λ z. omega arith), lt-ltb 8 (d + suc l) (omega arith))

more-is : (s : List ℕ) (d v : ℕ) → d ≤ 8 → digits_from d v s ≡ sized (d + length s) (digits_behind v s)
unfolding digits_behind
more-is [] d v h = more-end d v h
more-is (b ∷ s) d v h = more_by (ltb b 48) (ltb 57 b) (ltb d 8) d (length s) _ _ refl h (λ k. more-is s (d + 1) (10 * v + (b - 48)) k)

digits_more : (s : List ℕ) → digits_from 0 0 s ≡ digits_of s
unfolding digits_of
digits_more s = more-is s 0 0 (omega arith) ∙ rw (zero-add (length s))
  where
    zero-add : (n : ℕ) → 0 + n ≡ n
    zero-add n = omega arith

-- ---- the numbers to come: n words are kept in w, and the texts fs are to be read

abbrev on : Number → (ℤ → Option Items) → Option Items
on (is z) f = f z
on no_number f = items wrong

-- behind commas
abbrev behind_from : ℕ → List ℕ → List (List ℕ) → Option Items
behind_from n w [] = Some (record { count = n; words = w })
behind_from n w (f ∷ fs) = on (item_of f) (λ z. behind_from (n + 1) (set w n (word z)) fs)

-- a number first
abbrev pub items_from : ℕ → List ℕ → List (List ℕ) → Option Items
items_from n w [] = Some (record { count = n; words = w })
items_from n w (f ∷ fs) = on (number_of f) (λ z. behind_from (n + 1) (set w n (word z)) fs)

abbrev after : List ℕ → Numbers → Option Items
after done (are l) = Some (record { count = length done + length l; words = pad 8 (done ++ map word l) })
after done wrong = items wrong

after_one : (done : List ℕ) (z : ℤ) (p : Numbers) → after (done ++ word z ∷ []) p ≡ after done (and_then (is z) p)
after_one done z (are l) =
    let k : length done + 1 + length l ≡ length done + suc (length l) = omega arith in
    rw (append_assoc, length-append, k)
after_one done z wrong = refl

after_none : (p : Numbers) → after [] p ≡ items p
after_none (are l) = let k : 0 + length l ≡ length l = omega arith in rw k
after_none wrong = refl

from-by : (x : Number) (done : List ℕ) (fs : List (List ℕ))
    → ((d : List ℕ) → behind_from (length d) (pad 8 d) fs ≡ after d (items_of fs))
    → on x (λ z. behind_from (length done + 1) (set (pad 8 done) (length done) (word z)) fs) ≡ after done (and_then x (items_of fs))
from-by (is z) done fs ih = rw (pad-put, ← after_one, ← ih (done ++ word z ∷ []), length-append)
from-by no_number done fs ih = refl

from : (fs : List (List ℕ)) (done : List ℕ) → behind_from (length done) (pad 8 done) fs ≡ after done (items_of fs)
unfolding items_of
from [] done = let k : length done + 0 ≡ length done = omega arith in rw (append-nil, k)
from (f ∷ fs) done = from-by (item_of f) done fs (from fs)

start-by : (fs : List (List ℕ)) → items (first_of fs) ≡ items_from 0 (pad 8 []) fs
start-by [] = refl
start-by (f ∷ fs) = sym (from-by (number_of f) [] fs (from fs) ∙ after_none (and_then (number_of f) (items_of fs)))

pub from_start : (t : List ℕ) → items (numbers_of t) ≡ items_from 0 (pad 8 []) (parted t)
unfolding numbers_of
from_start t = start-by (parted t)

-- ---- one number: what the code reads at the front of a text t, from byte i of s on

-- the text between two commas is never missing
parted-by : (t : Bool) (b : ℕ) (s : List ℕ) → (f : List ℕ) × (fs : List (List ℕ)) × (parted s ≡ f ∷ fs)
    → (f : List ℕ) × (fs : List (List ℕ)) × (pick t ([] ∷ parted s) (onto b (parted s)) ≡ f ∷ fs)
parted-by true b s h = ([], parted s, refl)
parted-by false b s h = (b ∷ h.0, h.1, rw h.2)

pub parted-some : (s : List ℕ) → (f : List ℕ) × (fs : List (List ℕ)) × (parted s ≡ f ∷ fs)
unfolding parted
parted-some [] = ([], [], refl)
parted-some (b ∷ s) = parted-by (eqb b 44) b s (parted-some s)

abbrev signed : Bool → Size → Number
signed true x = minus x
signed false x = plus x

signed-size : (m : Bool) (v : ℕ) → signed m (size v) ≡ is (with_sign m v)
signed-size true v = refl
signed-size false v = refl

signed-none : (m : Bool) → signed m no_size ≡ no_number
signed-none true = refl
signed-none false = refl

module _ (s : List ℕ) (n : ℕ) (w : List ℕ) where
  abbrev following : ℕ → Option ℕ → Option Items
  following x None = Some (record { count = n + 1; words = set w n x })
  following x (Some j) = behind_from (n + 1) (set w n x) (parted (drop j s))

  -- what is left to read behind an item
  abbrev pub follow : Option Item → Option Items
  follow None = items wrong
  follow (Some i) = following i.word i.next

  module _ (m : Bool) where
    -- the texts fs, the first of which goes on behind d digits of the size v
    abbrev begun : ℕ → ℕ → List (List ℕ) → Option Items
    begun d v [] = items wrong
    begun d v (f ∷ fs) = on (signed m (digits_from d v f)) (λ z. behind_from (n + 1) (set w n (word z)) fs)

    end_by : (t : Bool) (v : ℕ) (fs : List (List ℕ)) (y : Option Item) → follow y ≡ behind_from (n + 1) (set w n (word (with_sign m v))) fs
        → on (signed m (pick t no_size (size v))) (λ z. behind_from (n + 1) (set w n (word z)) fs) ≡ follow (pick t None y)
    end_by true v fs y h = rw (signed-none m)
    end_by false v fs y h = rw (signed-size m v) (sym h)

    digit-by : (a b c : Bool) (x : Size) (y : Option Item) (fs : List (List ℕ))
        → on (signed m x) (λ z. behind_from (n + 1) (set w n (word z)) fs) ≡ follow y
        → on (signed m (pick a no_size (pick b no_size (pick c x no_size)))) (λ z. behind_from (n + 1) (set w n (word z)) fs)
        ≡ follow (pick a None (pick b None (pick c y None)))
    digit-by true b c x y fs h = rw (signed-none m)
    digit-by false true c x y fs h = rw (signed-none m)
    digit-by false false true x y fs h = h
    digit-by false false false x y fs h = rw (signed-none m)

    byte-by : (c : Bool) (b i d v : ℕ) (t : List ℕ) → parted t ≡ parted (drop (i + 1) s)
        → begun (d + 1) (10 * v + (b - 48)) (parted t) ≡ follow (reading m (i + 1) (d + 1) (10 * v + (b - 48)) t)
        → begun d v (pick c ([] ∷ parted t) (onto b (parted t)))
        ≡ follow (pick c (pick (eqb d 0) None (Some (more (word (with_sign m v)) (i + 1))))
        (pick (ltb b 48) None (pick (ltb 57 b) None (pick (ltb d 8) (reading m (i + 1) (d + 1) (10 * v + (b - 48)) t) None))))
    byte-by true b i d v t e ih =
        end_by (eqb d 0) v (parted t) (Some (more (word (with_sign m v)) (i + 1))) (rw e)
    byte-by false b i d v t e ih =
        let p = parted-some t in
        let q = rw p.2 at ih in
        rw p.2 (digit-by (ltb b 48) (ltb 57 b) (ltb d 8) _ _ p.1 q)

    read : (t : List ℕ) (i d v : ℕ) → t ≡ drop i s → begun d v (parted t) ≡ follow (reading m i d v t)
    unfolding parted reading
    read [] i d v e = end_by (eqb d 0) v [] (Some (last (word (with_sign m v)))) refl
    read (b ∷ t) i d v e =
        let f : t ≡ drop (i + 1) s = rw add-one (tail i s e) in
        byte-by (eqb b 44) b i d v t (ap parted f) (read t (i + 1) (d + 1) (10 * v + (b - 48)) f)

  -- an optional minus and 1 to 8 digits
  minus-by : (c : Bool) (b i : ℕ) (t : List ℕ) → eqb b 45 ≡ c → b ∷ t ≡ drop i s
      → items_from n w (parted (b ∷ t)) ≡ follow (pick c (reading true (i + 1) 0 0 t) (reading false i 0 0 (b ∷ t)))
  unfolding parted number_of
  minus-by true b i t c e =
      let h = eqb-true b 45 c in
      let p = parted-some t in
      let f : t ≡ drop (i + 1) s = rw add-one (tail i s e) in
      let q = rw p.2 at (read true t (i + 1) 0 0 f) in
      rw (h, p.2, ← digits_more p.0) q
  minus-by false b i t c e = by (eqb b 44) refl
    where
      by : (k : Bool) → eqb b 44 ≡ k → items_from n w (parted (b ∷ t)) ≡ follow (reading false i 0 0 (b ∷ t))
      by true k =
          let q = rw k at (read false (b ∷ t) i 0 0 e) in
          rw k q
      by false k =
          let p = parted-some t in
          let q = rw (k, p.2) at (read false (b ∷ t) i 0 0 e) in
          rw (k, p.2, c, ← digits_more (b ∷ p.0)) q

  item : (t : List ℕ) (i : ℕ) → t ≡ drop i s → items_from n w (parted t) ≡ follow (item_from i t)
  unfolding parted number_of item_from reading
  item [] i e = refl
  item (b ∷ t) i e = minus-by (eqb b 45) b i t refl e

  pub turn : (at : ℕ) {x : Option Item} → x ≡ item_from at (drop at s) → items_from n w (parted (drop at s)) ≡ follow x
  turn at h = rw h (item (drop at s) at refl)

-- past one space, if one stands behind the comma, a number comes first
onward-by : (c d : Bool) (n b : ℕ) (w t : List ℕ) → eqb b 44 ≡ c → eqb b 32 ≡ d
    → behind_from n w (pick c ([] ∷ parted t) (onto b (parted t))) ≡ items_from n w (parted (pick d t (b ∷ t)))
unfolding parted
onward-by true d n b w t e f =
    let h = eqb-true b 44 e in
    let k : d ≡ false = sym f ∙ rw h in
    rw (k, e)
onward-by false true n b w t e f = let p = parted-some t in rw (p.2, f)
onward-by false false n b w t e f = let p = parted-some t in rw (e, p.2, f)

onward : (n : ℕ) (w t : List ℕ) → behind_from n w (parted t) ≡ items_from n w (parted (past_space t))
unfolding parted
onward n w [] = refl
onward n w (b ∷ t) = onward-by (eqb b 44) (eqb b 32) n b w t refl refl

pub past-comma : (n : ℕ) (w s : List ℕ) (j : ℕ) → behind_from n w (parted (drop j s)) ≡ items_from n w (parted (drop (spaced j (drop j s)) s))
past-comma n w s j = onward n w (drop j s) ∙ ap (λ (t : List ℕ). items_from n w (parted t)) (past-spaced s j)

-- ---- where the next number begins

next-by : (c d e f g : Bool) (x : ℕ) (y : Option Item) (w i j l : ℕ) → (y ≡ Some (more w j) → (i + 1 < j) × (j ≤ i + 1 + l))
    → pick c (pick d None (Some (more x (i + 1)))) (pick e None (pick f None (pick g y None))) ≡ Some (more w j) → (i < j) × (j ≤ i + suc l)
next-by true true e f g x y w i j l ih h = let z : ◌≡◌ {A = ℕ} 0 1 = cc in absurd (omega arith)
next-by true false e f g x y w i j l ih h =
    let r : more x (i + 1) ≡ more w j = cc in
    let n = ap (λ (k : Item). k.next) r in
    let q : i + 1 ≡ j = cc in
    omega arith
next-by false d true f g x y w i j l ih h = let z : ◌≡◌ {A = ℕ} 0 1 = cc in absurd (omega arith)
next-by false d false true g x y w i j l ih h = let z : ◌≡◌ {A = ℕ} 0 1 = cc in absurd (omega arith)
next-by false d false false true x y w i j l ih h = let q = ih h in omega arith
next-by false d false false false x y w i j l ih h = let z : ◌≡◌ {A = ℕ} 0 1 = cc in absurd (omega arith)

next-end : (c : Bool) (x w j i : ℕ) → pick c None (Some (last x)) ≡ Some (more w j) → (i < j) × (j ≤ i + 0)
next-end true x w j i h = let z : ◌≡◌ {A = ℕ} 0 1 = cc in absurd (omega arith)
next-end false x w j i h =
    let r : last x ≡ more w j = cc in
    let n = ap (λ (k : Item). k.next) r in
    let z : ◌≡◌ {A = ℕ} 0 1 = cc in
    absurd (omega arith)

next-read : (m : Bool) (t : List ℕ) (i d v : ℕ) {w j : ℕ} → reading m i d v t ≡ Some (more w j) → (i < j) × (j ≤ i + length t)
unfolding reading
next-read m [] i d v {w} {j} h = next-end (eqb d 0) (word (with_sign m v)) w j i h
next-read m (b ∷ t) i d v {w} {j} h =
    next-by (eqb b 44) (eqb d 0) (ltb b 48) (ltb 57 b) (ltb d 8) _ _ w i j (length t) (next-read m t (i + 1) (d + 1) (10 * v + (b - 48))) h

next-item-by : (c : Bool) (x y : Option Item) (w i j l : ℕ) → (x ≡ Some (more w j) → (i + 1 < j) × (j ≤ i + 1 + l)) → (y ≡ Some (more w j) → (i < j) × (j ≤ i + suc l))
    → pick c x y ≡ Some (more w j) → (i < j) × (j ≤ i + suc l)
next-item-by true x y w i j l f g h = let q = f h in omega arith
next-item-by false x y w i j l f g h = g h

next-item : (t : List ℕ) (i : ℕ) {w j : ℕ} → item_from i t ≡ Some (more w j) → (i < j) × (j ≤ i + length t)
unfolding item_from
next-item [] i h = next-read false [] i 0 0 h
next-item (b ∷ t) i {w} {j} h =
    next-item-by (eqb b 45) _ _ w i j (length t) (next-read true t (i + 1) 0 0) (next-read false (b ∷ t) i 0 0) h

pub ahead : (s : List ℕ) (at : ℕ) {x : Option Item} {w j : ℕ} → at ≤ length s → x ≡ item_from at (drop at s) → x ≡ Some (more w j) → (at < j) × (j ≤ length s)
ahead s at l h e =
    let q = rw length-drop at (next-item (drop at s) at (sym h ∙ e)) in
    omega arith
