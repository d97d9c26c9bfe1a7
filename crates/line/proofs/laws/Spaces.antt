-- Two lines that differ only in the spaces after their commas say the same (02 §8). Assumes nothing.
use Prim.Native.Nat.{ℕ}
use mathlib.Core.Path.{◌≡◌, refl, ap, sym, ◌∙◌}
use mathlib.Core.List.{List, [], ◌∷◌, ◌++◌, map}
use mathlib.Core.Bool.{Bool, true, false, ◌&&◌}
use native.Mathlib.Omega.{arith}
use borrow.Author.Tests.{ne_eqb, eqb-true}
use lib.Dec.{eqb}
use lib.IntN.{pos, negsuc}
use lib.ListN.{get_or}
use Rattle.count.specs.Chars.{ch, codes}
use Rattle.count.specs.Pick.{pick}
use Rattle.line.specs.Code.{Code}
use Rattle.line.specs.Code as code
use Rattle.line.specs.Said.{Direct}
use Rattle.line.specs.Letter as letter
use Rattle.line.specs.Numbers.{digits_behind, digits_of, number_of, past_space, onto, parted, Numbers, are, wrong, and_then, items_of, first_of, numbers_of}
use Rattle.line.specs.Lines.{behind, letter_of, direct, after_address, direct_of, code_of, stored, by_code, stored_of}
use Rattle.line.specs.Spaces.{unspaced, SameButSpaces}
use Rattle.line.specs.work.Reading.{lettered}
use Rattle.line.proofs.Items.{parted-some}
use Rattle.line.proofs.Shapes.{by-letter}

-- ---- the numbers of a line are those of the texts between its commas once the spaces are left out

abbrev plain_of : List (List ℕ) → Numbers
plain_of [] = are []
plain_of (f ∷ fs) = and_then (number_of f) (plain_of fs)

abbrev past : List (List ℕ) → List (List ℕ)
past [] = []
past (f ∷ fs) = f ∷ map past_space fs

items-plain : (fs : List (List ℕ)) → items_of fs ≡ plain_of (map past_space fs)
unfolding items_of
items-plain [] = refl
items-plain (f ∷ fs) = ap (λ (n : Numbers). and_then (number_of (past_space f)) n) (items-plain fs)

first_plain : (fs : List (List ℕ)) → first_of fs ≡ plain_of (past fs)
first_plain [] = refl
first_plain (f ∷ fs) = ap (λ (n : Numbers). and_then (number_of f) n) (items-plain fs)

-- a text that begins with no space is the same past one
past_all : (k : Bool) (c : ℕ) (s : List ℕ) → eqb c 32 ≡ false
    → past (pick k ([] ∷ parted s) (onto c (parted s))) ≡ map past_space (pick k ([] ∷ parted s) (onto c (parted s)))
past_all true c s e = refl
past_all false c s e = let p = parted-some s in rw (p.2, e)

parted-by : (k d : Bool) (b c : ℕ) (s : List ℕ) → eqb c 32 ≡ d → parted (unspaced s) ≡ past (parted s) → parted (unspaced (c ∷ s)) ≡ past (parted (c ∷ s))
    → pick k ([] ∷ parted (pick (k && d) (unspaced s) (unspaced (c ∷ s)))) (onto b (parted (pick (k && d) (unspaced s) (unspaced (c ∷ s)))))
    ≡ past (pick k ([] ∷ parted (c ∷ s)) (onto b (parted (c ∷ s))))
unfolding parted
parted-by true true b c s e f g =
    let p = parted-some s in
    let h = eqb-true c 32 e in
    let q : map past_space (parted (c ∷ s)) ≡ past (parted s) = rw (h, p.2) in
    ap (λ (x : List (List ℕ)). [] ∷ x) (f ∙ sym q)
parted-by true false b c s e f g = ap (λ (x : List (List ℕ)). [] ∷ x) (g ∙ past_all (eqb c 44) c s e)
parted-by false d b c s e f g =
    let p = parted-some (c ∷ s) in
    let q : past (onto b (parted (c ∷ s))) ≡ onto b (past (parted (c ∷ s))) = rw p.2 in
    ap (onto b) g ∙ sym q

single : (k : Bool) (b : ℕ) → pick k ([] ∷ parted []) (onto b (parted [])) ≡ past (pick k ([] ∷ parted []) (onto b (parted [])))
unfolding parted
single true b = refl
single false b = refl

parted-unspaced : (s : List ℕ) → parted (unspaced s) ≡ past (parted s)
unfolding parted unspaced
parted-unspaced [] = refl
parted-unspaced (b ∷ []) = single (eqb b 44) b
parted-unspaced (b ∷ c ∷ s) = parted-by (eqb b 44) (eqb c 32) b c s refl (parted-unspaced s) (parted-unspaced (c ∷ s))

numbers-plain : (s : List ℕ) → numbers_of s ≡ plain_of (parted (unspaced s))
unfolding numbers_of
numbers-plain s = first_plain (parted s) ∙ ap plain_of (sym (parted-unspaced s))

pub numbers-alike : (s t : List ℕ) → SameButSpaces s t → numbers_of s ≡ numbers_of t
numbers-alike s t e = numbers-plain s ∙ ap (λ (l : List ℕ). plain_of (parted l)) e ∙ sym (numbers-plain t)

-- ---- what the definition is meant to hold: a space put behind a comma, where none stands, gives a line that differs only in these spaces

put-by : (k d : Bool) {x y u v : List ℕ} → x ≡ y → u ≡ v → pick (k && d) x u ≡ pick (k && d) y v
put-by true true e f = e
put-by true false e f = f
put-by false d e f = f

never-by : (k : Bool) (x u : List ℕ) → pick (k && false) x u ≡ u
never-by true x u = refl
never-by false x u = refl

put_first : (q : List ℕ) → eqb (get_or q 0 0) 32 ≡ false → SameButSpaces (44 ∷ 32 ∷ q) (44 ∷ q)
unfolding unspaced
put_first [] e = refl
put_first (c ∷ q) e = rw e

pub space-put : (p q : List ℕ) → eqb (get_or q 0 0) 32 ≡ false → SameButSpaces (p ++ 44 ∷ 32 ∷ q) (p ++ 44 ∷ q)
unfolding unspaced
space-put [] q e = put_first q e
space-put (b ∷ []) q e = ap (λ (x : List ℕ). b ∷ x) (never-by (eqb b 44) _ _ ∙ put_first q e ∙ sym (never-by (eqb b 44) _ _))
space-put (b ∷ c ∷ p) q e = ap (λ (x : List ℕ). b ∷ x) (put-by (eqb b 44) (eqb c 32) (space-put p q e) (space-put (c ∷ p) q e))

-- ---- byte by byte: the first bytes are the same, and so is the rest behind any byte but a comma

pub none_alike : {A : Type 0} (b : ℕ) (t : List ℕ) → SameButSpaces [] (b ∷ t) → A
unfolding unspaced
none_alike b [] e = let z : ◌≡◌ {A = ℕ} 0 1 = cc in absurd (omega arith)
none_alike b (c ∷ t) e = let z : ◌≡◌ {A = ℕ} 0 1 = cc in absurd (omega arith)

pub first_alike : (a b : ℕ) (s t : List ℕ) → SameButSpaces (a ∷ s) (b ∷ t) → a ≡ b
unfolding unspaced
first_alike a b [] [] e = cc
first_alike a b [] (d ∷ t) e = cc
first_alike a b (c ∷ s) [] e = cc
first_alike a b (c ∷ s) (d ∷ t) e = cc

kept : (a : ℕ) (s : List ℕ) → (a ≡ 44 → ⊥) → unspaced (a ∷ s) ≡ a ∷ unspaced s
unfolding unspaced
kept a [] n = refl
kept a (c ∷ s) n = rw (ne_eqb a 44 n)

rest-alike : (a b : ℕ) (s t : List ℕ) → (a ≡ 44 → ⊥) → SameButSpaces (a ∷ s) (b ∷ t) → SameButSpaces s t
rest-alike a b s t n e =
    let h = first_alike a b s t e in
    let q : a ∷ unspaced s ≡ a ∷ unspaced t = sym (kept a s n) ∙ e ∙ rw (← h) (kept a t n) in
    cc

-- ---- what stands behind a letter or a code

space-by : (c : Bool) (a : ℕ) (s t : List ℕ) → eqb a 32 ≡ c → SameButSpaces (a ∷ s) (a ∷ t) → numbers_of (pick c s (a ∷ s)) ≡ numbers_of (pick c t (a ∷ t))
space-by true a s t c e =
    let h = eqb-true a 32 c in
    numbers-alike s t (rest-alike a a s t (λ m. omega arith) e)
space-by false a s t c e = numbers-alike (a ∷ s) (a ∷ t) e

behind-alike : (s t : List ℕ) → SameButSpaces s t → behind s ≡ behind t
unfolding behind
behind-alike [] [] e = refl
behind-alike [] (b ∷ t) e = none_alike b t e
behind-alike (a ∷ s) [] e = none_alike a s (sym e)
behind-alike (a ∷ s) (b ∷ t) e =
    let h = first_alike a b s t e in
    let f : SameButSpaces (a ∷ s) (a ∷ t) = rw (← h) at e in
    rw (← h) (space-by (eqb a 32) a s t refl f)

-- ---- a line outside storing

comma-letter : lettered (letter_of 44) ≡ false
unfolding letter_of
comma-letter = refl

no-letter : (a : ℕ) → lettered (letter_of a) ≡ true → a ≡ 44 → ⊥
no-letter a h e = let q : true ≡ false = sym h ∙ ap (λ (x : ℕ). lettered (letter_of x)) e ∙ comma-letter in let z : ◌≡◌ {A = ℕ} 0 1 = cc in omega arith

letter-by : (k : Bool) (a : ℕ) (s t : List ℕ) → lettered (letter_of a) ≡ k → SameButSpaces (a ∷ s) (a ∷ t)
    → pick k (direct (letter_of a) (behind s)) (direct letter.Axes (numbers_of (a ∷ s))) ≡ pick k (direct (letter_of a) (behind t)) (direct letter.Axes (numbers_of (a ∷ t)))
letter-by true a s t h e = ap (direct (letter_of a)) (behind-alike s t (rest-alike a a s t (no-letter a h) e))
letter-by false a s t h e = ap (direct letter.Axes) (numbers-alike (a ∷ s) (a ∷ t) e)

after-alike : (s t : List ℕ) → SameButSpaces s t → after_address s ≡ after_address t
unfolding after_address
after-alike [] [] e = refl
after-alike [] (b ∷ t) e = none_alike b t e
after-alike (a ∷ s) [] e = none_alike a s (sym e)
after-alike (a ∷ s) (b ∷ t) e =
    let h = first_alike a b s t e in
    let f : SameButSpaces (a ∷ s) (a ∷ t) = rw (← h) at e in
    rw (← h) (by-letter (letter_of a) a s ∙ letter-by (lettered (letter_of a)) a s t refl f ∙ sym (by-letter (letter_of a) a t))

abbrev wrongly : Direct
wrongly = direct letter.Wrong wrong

-- the second byte on, behind `@`
abbrev second : List ℕ → Direct
second [] = wrongly
second (b ∷ s) = pick (eqb b 48) (after_address s) wrongly

direct-second : (a : ℕ) (s : List ℕ) → direct_of (a ∷ s) ≡ pick (eqb a 64) (second s) wrongly
unfolding direct_of
direct-second a [] = by (eqb a 64)
  where
    by : (c : Bool) → wrongly ≡ pick c wrongly wrongly
    by true = refl
    by false = refl
direct-second a (b ∷ s) = refl

pick-alike : {A : Type 0} (c : Bool) (x y z : A) → (c ≡ true → x ≡ y) → pick c x z ≡ pick c y z
pick-alike true x y z f = f refl
pick-alike false x y z f = refl

second_alike : (s t : List ℕ) → SameButSpaces s t → second s ≡ second t
second_alike [] [] e = refl
second_alike [] (b ∷ t) e = none_alike b t e
second_alike (a ∷ s) [] e = none_alike a s (sym e)
second_alike (a ∷ s) (b ∷ t) e =
    let h = first_alike a b s t e in
    rw (← h) (pick-alike (eqb a 48) (after_address s) (after_address t) wrongly
    (λ c. let k = eqb-true a 48 c in after-alike s t (rest-alike a b s t (λ m. omega arith) e)))

pub direct-alike : (s t : List ℕ) → SameButSpaces s t → direct_of s ≡ direct_of t
direct-alike [] [] e = refl
direct-alike [] (b ∷ t) e = none_alike b t e
direct-alike (a ∷ s) [] e = none_alike a s (sym e)
direct-alike (a ∷ s) (b ∷ t) e =
    let h = first_alike a b s t e in
    direct-second a s
    ∙ pick-alike (eqb a 64) (second s) (second t) wrongly (λ c. let k = eqb-true a 64 c in second_alike s t (rest-alike a b s t (λ m. omega arith) e))
    ∙ rw (← h) (sym (direct-second a t))

-- ---- a line while storing

comma-none : code_of 44 ≡ code.Wrong
unfolding code_of
comma-none = refl

no_code : (k : Code) (a : ℕ) → code_of a ≡ k → (code.Wrong ≡ k → ⊥) → a ≡ 44 → ⊥
no_code k a h n e = n (sym comma-none ∙ ap code_of (sym e) ∙ h)

code_by : (k : Code) (a b : ℕ) (s t : List ℕ) → code_of a ≡ k → SameButSpaces (a ∷ s) (b ∷ t) → by_code k s ≡ by_code k t
code_by code.Wrong a b s t h e = refl
code_by (code.Record c) a b s t h e =
    ap (stored (code.Record c)) (behind-alike s t (rest-alike a b s t (no_code (code.Record c) a h (λ q. let z : ◌≡◌ {A = ℕ} 0 1 = cc in omega arith)) e))
code_by code.End a b s t h e =
    by s t (rest-alike a b s t (no_code code.End a h (λ q. let z : ◌≡◌ {A = ℕ} 0 1 = cc in omega arith)) e)
  where
    by : (s t : List ℕ) → SameButSpaces s t → by_code code.End s ≡ by_code code.End t
    by [] [] e = refl
    by [] (b ∷ t) e = none_alike b t e
    by (a ∷ s) [] e = none_alike a s (sym e)
    by (a ∷ s) (b ∷ t) e = refl

pub stored-alike : (s t : List ℕ) → SameButSpaces s t → stored_of s ≡ stored_of t
unfolding stored_of
stored-alike [] [] e = refl
stored-alike [] (b ∷ t) e = none_alike b t e
stored-alike (a ∷ s) [] e = none_alike a s (sym e)
stored-alike (a ∷ s) (b ∷ t) e = let h = first_alike a b s t e in code_by (code_of a) a b s t refl e ∙ ap (λ (c : ℕ). by_code (code_of c) t) h

-- ---- the request's own line; two numbers for the axes; and what stays a wrong shape: a space before a comma, two spaces, a space with
-- nothing or a comma behind it, a space at the end

abbrev NoRecord : List ℕ → Type 0
NoRecord t = stored_of t ≡ stored code.Wrong wrong

pub examples :
    (stored_of (codes "3 25, -1") ≡ stored (code.Record (ch "3")) (are (pos 25 ∷ negsuc 0 ∷ []))) × (direct_of (codes "@01, 3") ≡ direct letter.Axes (are (pos 1 ∷ pos 3 ∷ [])))
    × NoRecord (codes "3 25 ,-1") × NoRecord (codes "3 25,  -1") × NoRecord (codes "3 25, ") × NoRecord (codes "3 25, ,-1") × NoRecord (codes "3 25, -1 ")
unfolding stored_of code_of behind direct_of after_address letter_of numbers_of parted items_of number_of digits_of digits_behind
examples = (refl, refl, refl, refl, refl, refl, refl)
