-- A right record's line: it has plain bytes, and is read as that record. Assumes nothing.
use Prim.Native.Nat.{ℕ, zero, suc, ◌+◌, ◌/◌, ◌%◌, ◌<◌}
use mathlib.Core.Path.{◌≡◌, refl, ap, sym, ◌∙◌}
use mathlib.Core.List.{List, [], ◌∷◌, ◌++◌, map, append-nil}
use mathlib.Core.Bool.{Bool, true, false}
use native.Mathlib.Omega.{arith}
use borrow.Author.Tests.{ltb-true}
use lib.Dec.{ltb}
use lib.IntN.{ℤ, pos, negsuc, nat_abs}
use lib.ListN.{length, get_or, take, length-map}
use Rattle.count.specs.Pick.{pick}
use Rattle.count.specs.Numbers.{signed, word}
use Rattle.count.specs.Ranges.{nth}
use Rattle.count.proofs.laws.Laws.{word-signed}
use Rattle.count.specs.Text.{decimal, digits, shown}
use Rattle.count.specs.Words.{pad}
use Rattle.record.specs.declared.Record.{Record}
use Rattle.record.specs.Fault.{is_code}
use Rattle.record.specs.Bytes.{numbers_of}
use Rattle.record.specs.Listing.{more, numbers_text}
use Rattle.record.proofs.laws.Below.{below-take}
use Rattle.record.proofs.laws.Right.{RightOne, right-count}
use Rattle.record.proofs.laws.Faultless.{right-faultless, by_code-each}
use Rattle.record.proofs.laws.Shapes.{Seven, Fast, Way, Shape, one, two, four, eight, seven, speed-seven, way-short, shape}
use Rattle.line.specs.Code as code
use Rattle.line.specs.Numbers.{are}
use Rattle.line.specs.Lines.{code_of, stored, stored_of}
use Rattle.line.proofs.laws.RoundTrip.{joined, Short, record-codes, stored_back}
use Rattle.board.specs.Storing.{record_of}
use Rattle.promise.proofs.laws.KeepsSending.{Plain, AllPlain, plain-append}

-- ---- plain bytes: digits, a minus and commas

digits-by : (t : Bool) (n : ℕ) (l : List ℕ) → ltb n 10 ≡ t → AllPlain l → AllPlain (pick t ((48 + n) ∷ []) (l ++ (48 + n % 10) ∷ []))
digits-by true n l e p = let h = ltb-true n 10 e in ((omega arith, omega arith), tt)
digits-by false n l e p = plain-append l ((48 + n % 10) ∷ []) p ((omega arith, omega arith), tt)

decimal-plain : (k n : ℕ) → AllPlain (decimal k n)
unfolding decimal
decimal-plain zero n = tt
decimal-plain (suc k) n = digits-by (ltb n 10) n (decimal k (n / 10)) refl (decimal-plain k (n / 10))

shown-plain : (z : ℤ) → AllPlain (shown z)
unfolding shown digits
shown-plain (pos n) = decimal-plain 10 n
shown-plain (negsuc n) = ((omega arith, omega arith), decimal-plain 10 (suc n))

more-plain : (l : List ℕ) → AllPlain (more l)
unfolding more
more-plain [] = tt
more-plain (w ∷ l) = ((omega arith, omega arith), plain-append (shown (signed w)) (more l) (shown-plain (signed w)) (more-plain l))

numbers-plain : (l : List ℕ) → AllPlain (numbers_text l)
unfolding numbers_text
numbers-plain [] = tt
numbers-plain (w ∷ l) = plain-append (shown (signed w)) (more l) (shown-plain (signed w)) (more-plain l)

-- ---- the numbers of a right record have at most eight digits

abbrev Small : ℕ → List ℕ → Type 0
Small n w = (j : ℕ) → j < n → nat_abs (nth w j) < 100000000

size : (z : ℤ) → Seven z → nat_abs z < 100000000
size (pos k) h = omega arith
size (negsuc k) h = omega arith

fast : (z : ℤ) → Fast z → nat_abs z < 100000000
fast z e = size z (speed-seven z e)

way : (z : ℤ) → Way z → nat_abs z < 100000000
way z e = size z (omega (arith, way-short z e))

small : (n : ℕ) (w : List ℕ) → Shape n w → Small n w
small n w (one e a) zero h = size (nth w 0) a
small n w (one e a) (suc j) h = absurd (omega arith)
small n w (two e a b) zero h = size (nth w 0) a
small n w (two e a b) (suc zero) h = size (nth w 1) b
small n w (two e a b) (suc (suc j)) h = absurd (omega arith)
small n w (four e a b c d) zero h = size (nth w 0) a
small n w (four e a b c d) (suc zero) h = fast (nth w 1) b
small n w (four e a b c d) (suc (suc zero)) h = size (nth w 2) c
small n w (four e a b c d) (suc (suc (suc zero))) h = fast (nth w 3) d
small n w (four e a b c d) (suc (suc (suc (suc j)))) h = absurd (omega arith)
small n w (eight e a b c d f g i k) zero h = size (nth w 0) a
small n w (eight e a b c d f g i k) (suc zero) h = fast (nth w 1) b
small n w (eight e a b c d f g i k) (suc (suc zero)) h = size (nth w 2) c
small n w (eight e a b c d f g i k) (suc (suc (suc zero))) h = fast (nth w 3) d
small n w (eight e a b c d f g i k) (suc (suc (suc (suc zero)))) h = size (nth w 4) f
small n w (eight e a b c d f g i k) (suc (suc (suc (suc (suc zero))))) h = fast (nth w 5) g
small n w (eight e a b c d f g i k) (suc (suc (suc (suc (suc (suc zero)))))) h = size (nth w 6) i
small n w (eight e a b c d f g i k) (suc (suc (suc (suc (suc (suc (suc zero))))))) h = fast (nth w 7) k
small n w (eight e a b c d f g i k) (suc (suc (suc (suc (suc (suc (suc (suc j)))))))) h = absurd (omega arith)
small n w (seven e a b c d f g i) zero h = size (nth w 0) a
small n w (seven e a b c d f g i) (suc zero) h = fast (nth w 1) b
small n w (seven e a b c d f g i) (suc (suc zero)) h = size (nth w 2) c
small n w (seven e a b c d f g i) (suc (suc (suc zero))) h = size (nth w 3) d
small n w (seven e a b c d f g i) (suc (suc (suc (suc zero)))) h = size (nth w 4) f
small n w (seven e a b c d f g i) (suc (suc (suc (suc (suc zero))))) h = way (nth w 5) g
small n w (seven e a b c d f g i) (suc (suc (suc (suc (suc (suc zero)))))) h = way (nth w 6) i
small n w (seven e a b c d f g i) (suc (suc (suc (suc (suc (suc (suc j))))))) h = absurd (omega arith)

short-of : (n : ℕ) (w : List ℕ) → Small n w → Short (map signed (take n w))
short-of zero w f = tt
short-of (suc n) [] f = tt
short-of (suc n) (x ∷ w) f = (f 0 (omega arith), short-of n w (λ j h. f (suc j) (omega arith)))

-- ---- the text is read back

joined-text : (l : List ℕ) → joined (map signed l) ≡ numbers_text l
unfolding joined numbers_text more
joined-text [] = refl
joined-text (w ∷ []) = sym (append-nil (shown (signed w)))
joined-text (w ∷ y ∷ l) = ap (λ (t : List ℕ). shown (signed w) ++ 44 ∷ t) (joined-text (y ∷ l))

words-again : (l : List ℕ) → ((j : ℕ) → get_or l j 0 < 4294967296) → map word (map signed l) ≡ l
words-again [] b = refl
words-again (w ∷ l) b =
    let e : word (signed w) ≡ w = word-signed w (omega (arith, b 0)) in
    rw (e, words-again l (λ j. b (suc j)))

code-so : (c : ℕ) → is_code c ≡ true → code_of c ≡ code.Record c
code-so c h =
    let r = record-codes in
    by_code-each (λ (k : ℕ). code_of k ≡ code.Record k) c h r.0 r.1 r.2 r.3 r.4 r.5 r.6 r.7
    r.8 r.9 r.10

code-plain : (c : ℕ) → is_code c ≡ true → Plain c
code-plain c h =
    by_code-each Plain c h (omega arith, omega arith) (omega arith, omega arith) (omega arith, omega arith) (omega arith, omega arith)
    (omega arith, omega arith) (omega arith, omega arith) (omega arith, omega arith) (omega arith, omega arith)
    (omega arith, omega arith) (omega arith, omega arith) (omega arith, omega arith)

module _ (axes : ℕ) (r : Record) (g : RightOne axes r) where
  abbrev pub line : List ℕ
  line = r.code ∷ numbers_text (numbers_of r)

  pub line_plain : AllPlain line
  line_plain = (code-plain r.code (right-faultless axes r g.right).code-so, numbers-plain (numbers_of r))

  -- A RIGHT RECORD'S LINE IS READ AS THAT RECORD
  pub line-back : stored_of line ≡ stored (code.Record r.code) (are (map signed (numbers_of r)))
  line-back =
      let f = right-faultless axes r g.right in
      ap (λ (t : List ℕ). stored_of (r.code ∷ t)) (sym (joined-text (numbers_of r)))
      ∙ stored_back r.code (map signed (numbers_of r)) (code-so r.code f.code-so)
      (short-of r.count r.words (small r.count r.words (shape r.words axes r.code r.count f)))

  pub record-back : record_of r.code (stored (code.Record r.code) (are (map signed (numbers_of r)))) ≡ r
  record-back =
      let n : length (map signed (numbers_of r)) ≡ r.count = length-map (numbers_of r) signed ∙ right-count axes r g in
      let b = below-take 4294967296 (omega arith) r.count r.words g.small in
      let w : pad 8 (map word (map signed (numbers_of r))) ≡ r.words = ap (pad 8) (words-again (numbers_of r) b.at) ∙ sym g.padded in
      λ i. record { code = r.code; count = n i; words = w i }
