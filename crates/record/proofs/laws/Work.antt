-- How the code reads a record, and the laws that join it to the definitions. Assumes nothing.
use Prim.Native.Nat.{ℕ, zero, suc, ◌+◌, ◌-◌, ◌*◌, ◌<◌, ◌≤◌}
use mathlib.Core.Path.{◌≡◌, refl, ap, sym, ◌∙◌}
use mathlib.Core.List.{List, [], ◌∷◌, ◌++◌}
use mathlib.Core.Bool.{Bool, true, false, ◌&&◌}
use native.Mathlib.Numerals.{add-one}
use native.Mathlib.Omega.{arith}
use borrow.Author.Tests.{lt-ltb, ne_eqb, leb-true}
use lib.Dec.{ltb, leb, eqb}
use lib.ListN.{length, get_or, take, drop, set, length-take, length-drop}
use lib.Seq.{take-nil, drop-drop}
use Rattle.std.specs.Prelude.{Some, None}
use Rattle.std.proofs.lemmas.Option.{none-some, same_Some}
use Rattle.count.specs.declared.Fault.{Fault}
use Rattle.count.specs.Refusals.{letter_of}
use Rattle.count.specs.Pick.{pick}
use Rattle.count.proofs.laws.Words.{pad-put}
use Rattle.count.specs.Words.{pad}
use Rattle.count.proofs.laws.Lists.{rest}
use Rattle.count.proofs.laws.Truth.{and_parts}
use Rattle.record.specs.declared.Held.{Held}
use Rattle.record.specs.Fault.{fault_of}
use Rattle.record.specs.Bytes.{word_at, words_of, made, if_right, front}
use Rattle.record.specs.declared.Found.TheVariants.{Got, Wrong}
use Rattle.record.specs.Places.{in_use, record_at}
use Rattle.record.specs.work.Work.{head_of}
use Rattle.record.proofs.laws.Replies.{letter-some}

-- ---- the numbers of a record, one after the other

pub length-words : (n : ℕ) (s : List ℕ) → length (words_of n s) ≡ n
unfolding words_of
length-words zero s = refl
length-words (suc n) s = ap suc (length-words n (drop 4 s))

words-behind : (i : ℕ) (s : List ℕ) → words_of (suc i) s ≡ words_of i s ++ word_at (drop (4 * i) s) ∷ []
unfolding words_of
words-behind zero s = refl
words-behind (suc i) s =
    let e : 4 + 4 * i ≡ 4 * suc i = omega arith in
    ap (λ (l : List ℕ). word_at s ∷ l) (words-behind i (drop 4 s) ∙ rw (drop-drop, e))

pub read_more : (s : List ℕ) (i : ℕ) {w : ℕ} → w ≡ word_at (take (length s - 4 * i) (drop (4 * i) s))
    → set (pad 8 (words_of i s)) i w ≡ pad 8 (words_of (i + 1) s)
read_more s i {w} e =
    let p : set (pad 8 (words_of i s)) i w ≡ pad 8 (words_of i s ++ w ∷ []) = rw length-words at (pad-put 8 (words_of i s) w) in
    p ∙ rw (e, rest, add-one) (ap (pad 8) (sym (words-behind i s)))

-- a head that is one
pub record Whole (axes : ℕ) (s : List ℕ) (n : ℕ) : Type 0 where
  pub few : n ≤ 8
  pub fits : 4 + 4 * n ≤ length s
  pub reads : front axes s ≡ if_right axes (made (get_or s 2 0) (words_of n (drop 4 s)))

module _ (axes : ℕ) (s : List ℕ) where
  head-by : (a b c : Bool) → ltb (length s) 4 ≡ a → eqb (get_or s 0 0) 0xD7 && eqb (get_or s 1 0) 0x2B ≡ b
      → leb (get_or s 3 0) 8 && leb (4 + 4 * get_or s 3 0) (length s) ≡ c → {n : ℕ} → Some n ≡ head_of s → Whole axes s n
  unfolding head_of front
  head-by true b c p q r {n} h = absurd (none-some n (sym (rw p at h)))
  head-by false false c p q r {n} h = absurd (none-some n (sym (rw (p, q) at h)))
  head-by false true false p q r {n} h = absurd (none-some n (sym (rw (p, q, r) at h)))
  head-by false true true p q r {n} h =
      let e = and_parts (leb (get_or s 3 0) 8) (leb (4 + 4 * get_or s 3 0) (length s)) r in
      let i : n ≡ get_or s 3 0 = same_Some n (get_or s 3 0) (rw (p, q, r) at h) in
      rw i (record {
        few = leb-true (get_or s 3 0) 8 e.0;
        fits = leb-true (4 + 4 * get_or s 3 0) (length s) e.1;
        reads = rw (p, q, r);
      })

  pub head-whole : {n : ℕ} → Some n ≡ head_of s → Whole axes s n
  head-whole h = head-by _ _ _ refl refl refl h

  front_by : (a b c : Bool) → ltb (length s) 4 ≡ a → eqb (get_or s 0 0) 0xD7 && eqb (get_or s 1 0) 0x2B ≡ b
      → leb (get_or s 3 0) 8 && leb (4 + 4 * get_or s 3 0) (length s) ≡ c → None ≡ head_of s → front axes s ≡ Wrong
  unfolding head_of front
  front_by true b c p q r h = rw p
  front_by false false c p q r h = rw (p, q)
  front_by false true false p q r h = rw (p, q, r)
  front_by false true true p q r h = absurd (none-some (get_or s 3 0) (rw (p, q, r) at h))

  pub front-none : None ≡ head_of s → front axes s ≡ Wrong
  front-none h = front_by _ _ _ refl refl refl h

  -- the code's own reading of a head that is one
  module _ {n : ℕ} {w : List ℕ} (h : Some n ≡ head_of s) (v : w ≡ pad 8 (words_of n (take (length s - 4) (drop 4 s)))) where
    read_as : front axes s ≡ pick (eqb (fault_of axes (get_or s 2 0) n w) 48) (Got (record { code = get_or s 2 0; count = n; words = w })) Wrong
    read_as =
        let x : w ≡ pad 8 (words_of n (drop 4 s)) = v ∙ rw rest in
        let y : length (words_of n (drop 4 s)) ≡ n = length-words n (drop 4 s) in
        (head-whole h).reads ∙ rw (← x, y)

    pub front-wrong : (f : Fault) → letter_of f ≡ fault_of axes (get_or s 2 0) n w → front axes s ≡ Wrong
    front-wrong f g = read_as ∙ rw (← g, ne_eqb (letter_of f) 48 (letter-some f))

    pub front-right : 48 ≡ fault_of axes (get_or s 2 0) n w → front axes s ≡ Got (record { code = get_or s 2 0; count = n; words = w })
    front-right g = read_as ∙ rw (← g)

-- ---- a record of the part in use

pub take_short : (n : ℕ) (s : List ℕ) → take (length (take n s)) s ≡ take n s
take_short zero s = refl
take_short (suc n) [] = refl
take_short (suc n) (x ∷ s) = ap (λ (l : List ℕ). x ∷ l) (take_short n s)

drop-take : (a n : ℕ) (s : List ℕ) → drop a (take n s) ≡ take (n - a) (drop a s)
drop-take zero n s =
    let e : n ≡ n - 0 = omega arith in
    ap (λ (k : ℕ). take k s) e
drop-take (suc a) zero s =
    let e : 0 ≡ 0 - suc a = omega arith in
    ap (λ (k : ℕ). take k (drop (suc a) s)) e
drop-take (suc a) (suc n) [] = sym (take-nil (suc n - suc a))
drop-take (suc a) (suc n) (x ∷ s) =
    let e : n - a ≡ suc n - suc a = omega arith in
    drop-take a n s ∙ ap (λ (k : ℕ). take k (drop a s)) e

-- from a byte to the end of the part in use
part-from : (at n : ℕ) (s : List ℕ) {e : ℕ} → e ≡ length (take n s) → take (e - at) (drop at s) ≡ drop at (take n s)
part-from at n s {e} p = rw p (sym (drop-take at (length (take n s)) s) ∙ ap (λ (l : List ℕ). drop at l) (take_short n s))

-- the part in use itself
pub part-all : (n : ℕ) (s : List ℕ) {e : ℕ} → e ≡ length (take n s) → take e s ≡ take n s
part-all n s p = rw p (take_short n s)

-- which ends within the store
pub part-within : (n : ℕ) (s : List ℕ) {e : ℕ} → e ≡ length (take n s) → (e ≤ length s) × (e ≤ n)
part-within n s p = rw (p, length-take) (omega arith, omega arith)

front-short : (axes : ℕ) (s : List ℕ) → length s < 4 → front axes s ≡ Wrong
unfolding front
front-short axes s h = rw (lt-ltb (length s) 4 h)

-- a byte past the part in use has no record
pub at-past : (h : Held) (s : List ℕ) (at : ℕ) {e : ℕ} → e ≡ length (in_use h s) → e < at → record_at h s at ≡ Wrong
unfolding record_at
at-past h s at p l =
    let d : length (drop at (in_use h s)) ≡ length (in_use h s) - at = length-drop at (in_use h s) in
    front-short h.axes (drop at (in_use h s)) (omega arith)

pub at_part : (h : Held) (s : List ℕ) (at : ℕ) {e : ℕ} → e ≡ length (in_use h s) → front h.axes (take (e - at) (drop at s)) ≡ record_at h s at
unfolding record_at
at_part h s at p = ap (front h.axes) (part-from at h.used s p)
