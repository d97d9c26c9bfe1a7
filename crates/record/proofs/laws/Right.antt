-- A right record and its bytes: what is written is read back, and what is read was written. Assumes nothing.
use Prim.Native.Nat.{ℕ, zero, suc, ◌+◌, ◌*◌, ◌/◌, ◌%◌, ◌<◌, ◌≤◌}
use mathlib.Core.Path.{◌≡◌, refl, ap, sym, ◌∙◌}
use mathlib.Core.List.{List, [], ◌∷◌, ◌++◌, append_assoc}
use mathlib.Core.Bool.{Bool, true}
use native.Mathlib.Omega.{arith}
use borrow.Author.Tests.{le-ltb, le-leb}
use lib.ListN.{length, get_or, take, drop, length-append, length-drop}
use lib.Seq.{length-take-le, drop-drop}
use Rattle.count.specs.Pick.{pick}
use Rattle.count.proofs.laws.Words.{length-pad}
use Rattle.count.specs.Words.{pad}
use Rattle.record.specs.declared.Record.{Record}
use Rattle.record.specs.Bytes.{bytes4, num_bytes, numbers_of, encode, word_at, words_of, made, length_of, is_right, if_right, front}
use Rattle.record.specs.declared.Found.TheVariants.{Got, Wrong}
use Rattle.record.specs.Bytes.{Below}
use Rattle.record.proofs.laws.Below.{below_none, below-cons, below-take, below-pad, below-drop}
use Rattle.record.proofs.laws.Work.{length-words}
use Rattle.record.proofs.laws.Walk.{front-stands}
use Rattle.record.proofs.laws.Put.{length-num_bytes}

-- A RIGHT RECORD: at most eight numbers, the words past them 0, each a word of 32 bits, the code a byte, and nothing wrong with them
pub record RightOne (axes : ℕ) (r : Record) : Type 0 where
  pub few : r.count ≤ 8
  pub padded : r.words ≡ pad 8 (numbers_of r)
  pub small : Below 4294967296 r.words
  pub byte : r.code < 256
  pub right : is_right axes r ≡ true

-- ---- the numbers

joined : (w : ℕ) → w % 256 + 256 * (w / 256 % 256) + 65536 * (w / 65536 % 256) + 16777216 * (w / 16777216) ≡ w
joined w = omega arith

words_back : (l t : List ℕ) → words_of (length l) (num_bytes l ++ t) ≡ l
unfolding words_of word_at num_bytes bytes4
words_back [] t = refl
words_back (w ∷ l) t = rw (words_back l t) (ap (λ (x : ℕ). x ∷ l) (joined w))

four : (s : List ℕ) → 4 ≤ length s → s ≡ get_or s 0 0 ∷ get_or s 1 0 ∷ get_or s 2 0 ∷ get_or s 3 0 ∷ drop 4 s
four [] h = absurd (omega arith)
four (a ∷ []) h = absurd (omega arith)
four (a ∷ b ∷ []) h = absurd (omega arith)
four (a ∷ b ∷ c ∷ []) h = absurd (omega arith)
four (a ∷ b ∷ c ∷ d ∷ s) h = refl

module _ (a b c d : ℕ) (p : a < 256) (q : b < 256) (r : c < 256) (t : d < 256) where
  abbrev joint : ℕ
  joint = a + 256 * b + 65536 * c + 16777216 * d

  apart : (joint % 256 ≡ a) × (joint / 256 % 256 ≡ b) × (joint / 65536 % 256 ≡ c) × (joint / 16777216 ≡ d)
  apart = (omega arith, omega arith, omega arith, omega arith)

  below_word : joint < 4294967296
  below_word = omega arith

module _ (s : List ℕ) (b : Below 256 s) where
  bytes_back : 4 ≤ length s → bytes4 (word_at s) ++ drop 4 s ≡ s
  unfolding bytes4 word_at
  bytes_back h =
      let e = apart (get_or s 0 0) (get_or s 1 0) (get_or s 2 0) (get_or s 3 0) (b.at 0) (b.at 1) (b.at 2) (b.at 3) in
      rw (e.0, e.1, e.2, e.3) (sym (four s h))

  word_small : word_at s < 4294967296
  unfolding word_at
  word_small = below_word (get_or s 0 0) (get_or s 1 0) (get_or s 2 0) (get_or s 3 0) (b.at 0) (b.at 1) (b.at 2) (b.at 3)

nums-back : (n : ℕ) (s : List ℕ) → Below 256 s → 4 * n ≤ length s → num_bytes (words_of n s) ++ drop (4 * n) s ≡ s
unfolding num_bytes words_of
nums-back zero s b h = refl
nums-back (suc n) s b h =
    let e : 4 * suc n ≡ 4 + 4 * n = omega arith in
    let i = nums-back n (drop 4 s) (below-drop 256 4 s b) (rw length-drop (omega arith)) in
    rw (e, append_assoc, ← drop-drop (4 * n) 4 s, i) (bytes_back s b (omega arith))

words_small : (n : ℕ) (s : List ℕ) → Below 256 s → Below 4294967296 (words_of n s)
unfolding words_of
words_small zero s b = below_none 4294967296 (omega arith)
words_small (suc n) s b =
    below-cons 4294967296 (omega arith) (word_at s) (words_of n (drop 4 s)) (word_small s b) (words_small n (drop 4 s) (below-drop 256 4 s b))

pub take-pad : (k : ℕ) (l : List ℕ) → length l ≤ k → take (length l) (pad k l) ≡ l
take-pad k [] h = refl
take-pad zero (x ∷ l) h = absurd (omega arith)
take-pad (suc k) (x ∷ l) h = ap (λ (t : List ℕ). x ∷ t) (take-pad k l (omega arith))

-- ---- written, then read

module _ (axes : ℕ) (r : Record) (g : RightOne axes r) where
  pub right-count : length (numbers_of r) ≡ r.count
  right-count =
      let e : length r.words ≡ 8 = ap length g.padded ∙ length-pad 8 (numbers_of r) in
      length-take-le r.count r.words (rw e g.few)

  pub right-long : length (encode r) ≡ length_of r
  unfolding encode
  right-long =
      let l : length (num_bytes (numbers_of r)) ≡ 4 * r.count = length-num_bytes (numbers_of r) ∙ ap (λ (k : ℕ). 4 * k) right-count in
      omega arith

  made-right : made r.code (numbers_of r) ≡ r
  made-right = λ i. record { code = r.code; count = right-count i; words = sym g.padded i }

  -- a right record that was written is read back
  pub front-encode : (t : List ℕ) → front axes (encode r ++ t) ≡ Got r
  unfolding front encode
  front-encode t =
      let l = numbers_of r in
      let n : length (num_bytes l ++ t) ≡ 4 * length l + length t = length-append (num_bytes l) t ∙ rw length-num_bytes in
      let c = right-count in
      let f = g.few in
      rw (
        le-ltb (length (encode r ++ t)) 4 (omega arith),
        le-leb (length l) 8 (omega arith),
        le-leb (4 + 4 * length l) (length (encode r ++ t)) (omega arith),
        words_back l t,
      )
      (ap (if_right axes) made-right ∙ ap (λ (x : Bool). pick x (Got r) Wrong) g.right)

-- its bytes are bytes

number-below : (w : ℕ) (t : List ℕ) → w < 4294967296 → Below 256 t → Below 256 (bytes4 w ++ t)
unfolding bytes4
number-below w t h b =
    let z : 0 < 256 = omega arith in
    below-cons 256 z (w % 256) _ (omega arith)
    (below-cons 256 z (w / 256 % 256) _ (omega arith) (below-cons 256 z (w / 65536 % 256) _ (omega arith) (below-cons 256 z (w / 16777216) t (omega arith) b)))

numbers-below : (l : List ℕ) → Below 4294967296 l → Below 256 (num_bytes l)
unfolding num_bytes
numbers-below [] b = below_none 256 (omega arith)
numbers-below (w ∷ l) b = number-below w (num_bytes l) (b.at 0) (numbers-below l (below-drop 4294967296 1 (w ∷ l) b))

pub below-encode : (axes : ℕ) (r : Record) → RightOne axes r → Below 256 (encode r)
unfolding encode
below-encode axes r g =
    let z : 0 < 256 = omega arith in
    let n : length (numbers_of r) < 256 = omega (arith, right-count axes r g, g.few) in
    below-cons 256 z 0xD7 _ (omega arith)
    (below-cons 256 z 0x2B _ (omega arith)
    (below-cons 256 z r.code _ g.byte
    (below-cons 256 z (length (numbers_of r)) (num_bytes (numbers_of r)) n
    (numbers-below (numbers_of r) (below-take 4294967296 (omega arith) r.count r.words g.small)))))

-- ---- read, then it was written

module _ (axes : ℕ) (s : List ℕ) {r : Record} (b : Below 256 s) (e : front axes s ≡ Got r) where
  pub front-right-one : RightOne axes r
  front-right-one =
      let h = front-stands axes s e in
      let l = words_of (get_or s 3 0) (drop 4 s) in
      let n : length l ≡ get_or s 3 0 = length-words (get_or s 3 0) (drop 4 s) in
      let few : length l ≤ 8 = rw n h.few in
      let p : numbers_of (made (get_or s 2 0) l) ≡ l = take-pad 8 l few in
      rw h.item
      record {
        few = few;
        padded = ap (pad 8) (sym p);
        small = below-pad 4294967296 (omega arith) 8 l (words_small (get_or s 3 0) (drop 4 s) (below-drop 256 4 s b));
        byte = b.at 2;
        right = ap (is_right axes) (sym h.item) ∙ h.right;
      }

  pub front-decode : s ≡ encode r ++ drop (length_of r) s
  unfolding encode
  front-decode =
      let h = front-stands axes s e in
      let k = get_or s 3 0 in
      let l = words_of k (drop 4 s) in
      let n : length l ≡ k = length-words k (drop 4 s) in
      let few : length l ≤ 8 = rw n h.few in
      let p : numbers_of (made (get_or s 2 0) l) ≡ l = take-pad 8 l few in
      let w : num_bytes l ++ drop (4 * k) (drop 4 s) ≡ drop 4 s = nums-back k (drop 4 s) (below-drop 256 4 s b) (rw length-drop (omega (arith, h.room))) in
      rw (h.item, p, n, ← drop-drop (4 * k) 4 s, w, ← h.mark, ← h.mark2) (four s (omega (arith, h.room)))
