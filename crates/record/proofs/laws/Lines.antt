-- How long the text of a right record and of a readable store is. Assumes nothing.
use Prim.Native.Nat.{ℕ, zero, suc, ◌+◌, ◌*◌, ◌<◌, ◌≤◌}
use mathlib.Core.Path.{◌≡◌, refl, ap, ◌∙◌}
use mathlib.Core.List.{List, [], ◌∷◌, ◌++◌}
use mathlib.Core.Bool.{true}
use native.Mathlib.Omega.{arith}
use borrow.Author.Tests.{leb-true}
use lib.IntN.{ℤ, pos, negsuc}
use lib.Signed.{mag, le_z}
use lib.ListN.{length, get_or, take, length-append, length-take}
use lib.Seq.{take-suc}
use Rattle.count.specs.Numbers.{within, signed}
use Rattle.count.specs.Ranges.{in_speed, nth}
use Rattle.count.specs.Text.{decimal, digits, shown}
use Rattle.count.proofs.laws.Digits.{decimal-more, decimal-long, digits-small}
use Rattle.count.proofs.laws.Words.{length-pad}
use Rattle.count.proofs.laws.Truth.{and_parts}
use Rattle.record.specs.declared.Held.{Held}
use Rattle.record.specs.declared.Record.{Record}
use Rattle.record.specs.Bytes.{numbers_of, length_of}
use Rattle.record.specs.Places.{are, records_of, encode_all}
use Rattle.record.specs.Listing.{more, numbers_text, line_text, list_text}
use Rattle.record.specs.Bytes.{Below}
use Rattle.record.proofs.laws.Right.{RightOne, right-long}
use Rattle.record.proofs.laws.Stored.{AllRight, readable-list}
use Rattle.record.proofs.laws.Faultless.{right-faultless}
use Rattle.record.proofs.laws.Shapes.{Shape, Way, one, two, four, eight, seven, way-short, shape}

-- ---- a number's text

digits-five : (n : ℕ) → n < 100000 → length (digits n) ≤ 5
unfolding digits
digits-five n h =
    let e : decimal 5 n ≡ decimal 10 n =
    decimal-more 4 n h ∙ decimal-more 5 n (omega arith) ∙ decimal-more 6 n (omega arith) ∙ decimal-more 7 n (omega arith) ∙ decimal-more 8 n (omega arith) in
    rw (← e) (decimal-long 5 n)

digits-seven : (n : ℕ) → n < 10000000 → length (digits n) ≤ 7
unfolding digits
digits-seven n h =
    let e : decimal 7 n ≡ decimal 10 n = decimal-more 6 n h ∙ decimal-more 7 n (omega arith) ∙ decimal-more 8 n (omega arith) in
    rw (← e) (decimal-long 7 n)

shown-eight : (z : ℤ) → mag z < 9999999 → length (shown z) ≤ 8
unfolding shown
shown-eight (pos n) h = omega (arith, digits-seven n (omega arith))
shown-eight (negsuc n) h = omega (arith, digits-seven (suc n) (omega arith))

speed-five : (z : ℤ) → in_speed z ≡ true → length (shown z) ≤ 5
unfolding in_speed within shown
speed-five (pos n) e =
    let p = and_parts (le_z (pos 30) (pos n)) (le_z (pos n) (pos 10000)) e in
    digits-five n (omega (arith, leb-true n 10000 p.1))
speed-five (negsuc n) e = absurd (let z : ◌≡◌ {A = ℕ} 0 1 = cc in omega arith)

way-two : (z : ℤ) → Way z → length (shown z) ≤ 2
unfolding shown
way-two (pos n) e =
    let h = way-short (pos n) e in
    rw (digits-small n (omega arith)) (omega arith)
way-two (negsuc n) e =
    let h = way-short (negsuc n) e in
    rw (digits-small (suc n) (omega arith)) (omega arith)

-- ---- the numbers' text, a comma counted to each

abbrev long_at : List ℕ → ℕ → ℕ
long_at w i = length (shown (nth w i))

unfoldable span : ℕ → List ℕ → ℕ
span zero w = 0
span (suc n) w = span n w + (1 + long_at w n)

more-long : (l : List ℕ) (x : ℕ) → length (more (l ++ x ∷ [])) ≡ length (more l) + (1 + length (shown (signed x)))
unfolding more
more-long [] x = rw length-append (omega arith)
more-long (y ∷ l) x = simp length-append (omega (arith, more-long l x))

span_more : (n : ℕ) (w : List ℕ) → n ≤ length w → length (more (take n w)) ≡ span n w
unfolding more span
span_more zero w h = refl
span_more (suc n) w h = rw (take-suc w n 0) (more-long (take n w) (get_or w n 0) ∙ rw (span_more n w (omega arith)))

text-more : (l : List ℕ) → length (numbers_text l) ≤ length (more l)
unfolding more numbers_text
text-more [] = omega arith
text-more (x ∷ l) = omega arith

-- ---- a right record's line

record Fits (n : ℕ) (w : List ℕ) : Type 0 where
  pub ratio : 4 * (2 + span n w) ≤ 7 * (4 + 4 * n)
  pub line : 2 + span n w ≤ 62

fits : (n : ℕ) (w : List ℕ) → Shape n w → Fits n w
unfolding span
fits n w (one e a) =
    let p = shown-eight (nth w 0) a in
    rw e record { ratio = omega arith; line = omega arith }
fits n w (two e a b) =
    let p = shown-eight (nth w 0) a in
    let q = shown-eight (nth w 1) b in
    rw e record { ratio = omega arith; line = omega arith }
fits n w (four e a b c d) =
    let p = shown-eight (nth w 0) a in
    let q = speed-five (nth w 1) b in
    let r = shown-eight (nth w 2) c in
    let s = speed-five (nth w 3) d in
    rw e record { ratio = omega arith; line = omega arith }
fits n w (eight e a b c d f g h i) =
    let p = shown-eight (nth w 0) a in
    let q = speed-five (nth w 1) b in
    let r = shown-eight (nth w 2) c in
    let s = speed-five (nth w 3) d in
    let t = shown-eight (nth w 4) f in
    let u = speed-five (nth w 5) g in
    let v = shown-eight (nth w 6) h in
    let x = speed-five (nth w 7) i in
    rw e record { ratio = omega arith; line = omega arith }
fits n w (seven e a b c d f g h) =
    let p = shown-eight (nth w 0) a in
    let q = speed-five (nth w 1) b in
    let r = shown-eight (nth w 2) c in
    let s = shown-eight (nth w 3) d in
    let t = shown-eight (nth w 4) f in
    let u = way-two (nth w 5) g in
    let v = way-two (nth w 6) h in
    rw e record { ratio = omega arith; line = omega arith }

module _ (axes : ℕ) (r : Record) (g : RightOne axes r) where
  line-span : length (line_text r) ≤ 2 + span r.count r.words
  unfolding line_text
  line-span =
      let e : length r.words ≡ 8 = ap length g.padded ∙ length-pad 8 (numbers_of r) in
      let m = span_more r.count r.words (rw e g.few) in
      simp length-append (omega (arith, text-more (numbers_of r)))

  shaped : Fits r.count r.words
  shaped = fits r.count r.words (shape r.words axes r.code r.count (right-faultless axes r g.right))

  -- A RECORD'S TEXT IS AT MOST 7 BYTES FOR 4 OF THE STORE, AND A LINE IS AT MOST 62 WITH ITS CARRIAGE RETURN
  pub line-ratio : 4 * length (line_text r) ≤ 7 * length_of r
  line-ratio = omega (arith, line-span, shaped.ratio)

  pub line-long : length (line_text r) ≤ 62
  line-long = omega (arith, line-span, shaped.line)

-- ---- the listing of a readable store

pub list-ratio : (axes : ℕ) (l : List Record) → AllRight axes l → 4 * length (list_text l) ≤ 7 * length (encode_all l) + 8
unfolding list_text encode_all
list-ratio axes [] g = omega arith
list-ratio axes (r ∷ l) g =
    let i = list-ratio axes l g.1 in
    let h = line-ratio axes r g.0 in
    let e = right-long axes r g.0 in
    simp length-append (omega arith)

-- THE LISTING OF A READABLE STORE FITS
pub list-long : (h : Held) (s : List ℕ) (l : List Record) → Below 256 s → records_of h s ≡ are l → h.used ≤ 16384 → length (list_text l) ≤ 28674
list-long h s l b e u =
    let f = readable-list h s l b e in
    let n : length (encode_all l) ≤ h.used = rw (← f.bytes, length-take) (omega arith) in
    omega (arith, list-ratio h.axes l f.right)

pub list-fits : (h : Held) (s : List ℕ) (l : List Record) → Below 256 s → records_of h s ≡ are l → h.used ≤ 16384 → length (list_text l) ≤ 32768
list-fits h s l b e u = omega (arith, list-long h s l b e u)
