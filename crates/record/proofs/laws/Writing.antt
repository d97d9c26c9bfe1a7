-- A text written piece by piece into a buffer, and the pieces of a listing. Assumes nothing.
use Prim.Native.Nat.{ℕ, zero, suc, ◌+◌, ◌-◌, ◌*◌, ◌<◌, ◌≤◌}
use mathlib.Core.Path.{◌≡◌, refl, ap, sym, ◌∙◌}
use mathlib.Core.List.{List, [], ◌∷◌, ◌++◌, append_assoc}
use mathlib.Core.Bool.{Bool, true, false}
use native.Mathlib.Numerals.{add-one}
use native.Mathlib.Omega.{arith}
use borrow.Author.Tests.{ne_eqb, eq-eqb}
use lib.Dec.{eqb}
use lib.ListN.{length, get_or, take, drop, set, length-append, length-drop, length-set, drop_of_length-le}
use lib.Seq.{length-take-le, take_all, take-add, take_at, drop_at, drop-drop, drop-cons, drop-append_seam, take-append_seam, set_at}
use borrow.Rule.Slice.PartMut.{put_mid, same_len_mid}
use Rattle.count.specs.Pick.{pick}
use Rattle.count.specs.Numbers.{signed}
use Rattle.count.specs.Text.{Written, written, wrote, shown}
use Rattle.count.proofs.laws.Digits.{wrote-long, shown-most}
use Rattle.count.proofs.laws.Lists.{rest, to_end, set_front, drop-one}
use Rattle.record.specs.declared.Record.{Record}
use Rattle.record.specs.Bytes.{numbers_of, length_of, front}
use Rattle.record.specs.declared.Found.TheVariants.{Got}
use Rattle.record.specs.Places.{Records, are, none-are, onto, records_from, is_list}
use Rattle.record.proofs.laws.Walk.{step-got}
use Rattle.record.specs.Listing.{more, numbers_text, line_text, list_text}
use Rattle.record.specs.work.Writing.{item_text, line_left, list_in}

-- ---- T is being written into t₀: t holds its first `out` bytes, and `left` is still to come

pub record Writing (T t₀ t : List ℕ) (out : ℕ) (left : List ℕ) : Type 0 where
  pub so : t ≡ take out T ++ drop out t₀
  pub coming : drop out T ≡ left
  pub within : out ≤ length T
  pub same : length t ≡ length t₀

pub write-start : (T t₀ : List ℕ) → Writing T t₀ t₀ 0 T
write-start T t₀ = record { so = refl; coming = refl; within = omega arith; same = refl }

module _ (T t₀ t : List ℕ) (out : ℕ) (fits : length T ≤ length t₀) where
  -- one byte
  pub write-one : (x : ℕ) (left : List ℕ) → Writing T t₀ t out (x ∷ left) → Writing T t₀ (set t out x) (out + 1) left
  write-one x left w =
      let n : length (drop out T) ≡ length T - out = length-drop out T in
      let m : suc (length left) ≡ length T - out = sym (ap length w.coming) ∙ n in
      let p : length (take out T) ≡ out = length-take-le out T w.within in
      let d : drop out t₀ ≡ get_or t₀ out 0 ∷ drop (out + 1) t₀ = rw add-one (drop-cons t₀ out 0 (omega arith)) in
      let a : take (out + 1) T ≡ take out T ++ x ∷ [] = take-add out 1 T ∙ rw w.coming in
      record {
        so = rw (w.so, d, a, append_assoc) (set_at (take out T) (get_or t₀ out 0) (drop (out + 1) t₀) x out p);
        coming = sym (drop-drop 1 out T) ∙ rw w.coming;
        within = omega arith;
        same = length-set t out x ∙ w.same;
      }

  -- a piece, at the front of the part from `out` on
  pub write-part : (q left ys : List ℕ) → Writing T t₀ t out (q ++ left) → length ys ≡ length (take (length t - out) (drop out t))
      → ys ≡ q ++ drop (length q) (take (length t - out) (drop out t)) → Writing T t₀ (put_mid out (length t - out) t ys) (out + length q) left
  write-part q left ys w kept e =
      let n : length (drop out T) ≡ length T - out = length-drop out T in
      let m : length q + length left ≡ length T - out = sym (length-append q left) ∙ sym (ap length w.coming) ∙ n in
      let p : length (take out T) ≡ out = length-take-le out T w.within in
      let f : take out t ≡ take out T = rw w.so (take_at (take out T) (drop out t₀) out p) in
      let d : drop out t ≡ drop out t₀ = rw w.so (drop_at (take out T) (drop out t₀) out p) in
      let a : take (out + length q) T ≡ take out T ++ q = take-add out (length q) T ∙ rw (w.coming, take-append_seam) in
      record {
        so = to_end out t ys ∙ rw (e, f, rest, d, drop-drop, a) (sym (append_assoc (take out T) q (drop (out + length q) t₀)));
        coming = sym (drop-drop (length q) out T) ∙ rw w.coming (drop-append_seam q left);
        within = omega arith;
        same = same_len_mid out (length t - out) t ys kept ∙ w.same;
      }

pub write-left : {T t₀ t : List ℕ} {out : ℕ} {l m : List ℕ} → l ≡ m → Writing T t₀ t out l → Writing T t₀ t out m
write-left e w = record { so = w.so; coming = w.coming ∙ e; within = w.within; same = w.same }

pub write-end : (T t₀ t : List ℕ) (out : ℕ) → Writing T t₀ t out [] → (out ≡ length T) × (t ≡ T ++ drop (length T) t₀)
write-end T t₀ t out w =
    let n : length (drop out T) ≡ length T - out = length-drop out T in
    let z : 0 ≡ length T - out = sym (ap length w.coming) ∙ n in
    let e : out ≡ length T = omega (arith, w.within) in
    (e, w.so ∙ rw (e, take_all (length T) T (omega arith)))

pub line-next : (i w : ℕ) (l : List ℕ) → line_left i (w ∷ l) ≡ item_text i w ++ line_left (i + 1) l
unfolding line_left item_text numbers_text more
line-next zero w l = append_assoc (shown (signed w)) (more l) (13 ∷ [])
line-next (suc i) w l = rw (add-one, ne_eqb (suc i) 0 (λ e. omega arith)) (append_assoc (44 ∷ shown (signed w)) (more l) (13 ∷ []))

pub line-done : (i : ℕ) → line_left i [] ≡ 13 ∷ []
unfolding line_left numbers_text more
line-done zero = refl
line-done (suc i) = refl

-- one byte before a piece: the piece is written first, from the second byte on
pub front-behind : (x : ℕ) (q s : List ℕ) {k : ℕ} {t : List ℕ} → 1 ≤ length s → k ≡ length q → t ≡ q ++ drop (length q) (take (length s - 1) (drop 1 s))
    → (k + 1 ≡ length (x ∷ q)) × (set (put_mid 1 (length s - 1) s t) 0 x ≡ (x ∷ q) ++ drop (length (x ∷ q)) s)
front-behind x q s {k} {t} h e f =
    let m : t ≡ q ++ drop (suc (length q)) s = f ∙ rw (rest, drop-one) in
    (add-one k ∙ ap suc e, set_front s t x h ∙ ap (λ (l : List ℕ). x ∷ l) m)

module _ (i w : ℕ) (s : List ℕ) {k : ℕ} {t : List ℕ} where
  pub item-first : i ≡ 0 → 11 ≤ length s → written k t ≡ wrote 11 (shown (signed w)) s
      → (k ≡ length (item_text i w)) × (t ≡ item_text i w ++ drop (length (item_text i w)) s)
  unfolding item_text
  item-first z h e =
      let f = e ∙ wrote-long 11 (shown (signed w)) s h in
      rw (eq-eqb i 0 z) (ap (λ (x : Written). x.len) f, ap (λ (x : Written). x.text) f)

  pub item-later : (i ≡ 0 → ⊥) → 12 ≤ length s → written k t ≡ wrote 11 (shown (signed w)) (take (length s - 1) (drop 1 s))
      → (k + 1 ≡ length (item_text i w)) × (set (put_mid 1 (length s - 1) s t) 0 44 ≡ item_text i w ++ drop (length (item_text i w)) s)
  unfolding item_text
  item-later z h e =
      let n : 11 ≤ length (take (length s - 1) (drop 1 s)) = rw (rest, length-drop) (omega arith) in
      let f = e ∙ wrote-long 11 (shown (signed w)) (take (length s - 1) (drop 1 s)) n in
      rw (ne_eqb i 0 z) (front-behind 44 (shown (signed w)) s (omega arith) (ap (λ (x : Written). x.len) f) (ap (λ (x : Written). x.text) f))

-- ---- one turn of `put_tail`

pub tail-next : (i : ℕ) (v : List ℕ) → i < length v → line_left i (drop i v) ≡ item_text i (get_or v i 0) ++ line_left (i + 1) (drop (i + 1) v)
tail-next i v h = rw (drop-cons v i 0 h, ← add-one i) (line-next i (get_or v i 0) (drop (i + 1) v))

pub tail-done : (i : ℕ) (v : List ℕ) → length v ≤ i → line_left i (drop i v) ≡ 13 ∷ []
tail-done i v h = rw (drop_of_length-le v h) (line-done i)

item_by : (b : Bool) (t : List ℕ) → length t ≤ 11 → length (pick b t (44 ∷ t)) ≤ 12
item_by true t h = omega arith
item_by false t h = omega arith

pub item-most : (i w : ℕ) → length (item_text i w) ≤ 12
unfolding item_text
item-most i w = item_by (eqb i 0) (shown (signed w)) (shown-most (signed w))

more-most : (l : List ℕ) → length (more l) ≤ 12 * length l
unfolding more
more-most [] = omega arith
more-most (w ∷ l) = simp length-append (omega (arith, shown-most (signed w), more-most l))

tail-most : (l : List ℕ) → length (line_left 0 l) ≤ 12 * length l + 1
unfolding line_left numbers_text
tail-most [] = omega arith
tail-most (w ∷ l) = simp length-append (omega (arith, shown-most (signed w), more-most l))

pub tail-long : (v : List ℕ) → length v ≤ 8 → length (line_left 0 v) ≤ 97
tail-long v h = omega (arith, tail-most v)

-- a whole line from its tail
pub line_as : (r : Record) → line_text r ≡ r.code ∷ line_left 0 (numbers_of r)
unfolding line_text line_left
line_as r = refl

onto-lines : (r : Record) (x : Records) → is_list (onto r x) ≡ true → (list_text (list_in (onto r x)) ≡ line_text r ++ list_text (list_in x)) × (is_list x ≡ true)
unfolding list_text
onto-lines r (are l) e = (refl, refl)
onto-lines r none-are e = absurd (let z : ◌≡◌ {A = ℕ} 0 1 = cc in omega arith)

-- one turn of `put_lines`
pub lines_next : (axes left : ℕ) (s : List ℕ) (at : ℕ) {r : Record} → Got r ≡ front axes (take (length s - at) (drop at s))
    → is_list (records_from axes (suc left) (drop at s)) ≡ true
    → (list_text (list_in (records_from axes (suc left) (drop at s))) ≡ line_text r ++ list_text (list_in (records_from axes left (drop (at + length_of r) s))))
    × (is_list (records_from axes left (drop (at + length_of r) s)) ≡ true)
unfolding records_from
lines_next axes left s at {r} q e =
    let g = step-got axes left s at q in
    rw (g, ← drop-drop (length_of r) at s) (onto-lines r (records_from axes left (drop (length_of r) (drop at s))) (rw g at e))

-- what is left behind the last record
none-by : (axes : ℕ) (l : List ℕ) → is_list (records_from axes 0 l) ≡ true → list_text (list_in (records_from axes 0 l)) ≡ 57 ∷ 13 ∷ []
unfolding records_from list_text
none-by axes [] e = refl
none-by axes (x ∷ l) e = absurd (let z : ◌≡◌ {A = ℕ} 0 1 = cc in omega arith)

pub lines-done : (axes left : ℕ) (l : List ℕ) → left ≡ 0 → is_list (records_from axes left l) ≡ true → list_text (list_in (records_from axes left l)) ≡ 57 ∷ 13 ∷ []
lines-done axes left l z e = rw z (none-by axes l (rw z at e))

pub lines-turn : (T t₀ t ys s : List ℕ) (axes left at out : ℕ) {r : Record} {n : ℕ} → Got r ≡ front axes (take (length s - at) (drop at s))
    → is_list (records_from axes (suc left) (drop at s)) ≡ true → length T ≤ length t₀ → Writing T t₀ t out (list_text (list_in (records_from axes (suc left) (drop at s))))
    → length ys ≡ length (take (length t - out) (drop out t)) → n ≡ length (line_text r)
    → ys ≡ line_text r ++ drop (length (line_text r)) (take (length t - out) (drop out t))
    → (is_list (records_from axes left (drop (at + length_of r) s)) ≡ true)
    × Writing T t₀ (put_mid out (length t - out) t ys) (out + n) (list_text (list_in (records_from axes left (drop (at + length_of r) s))))
lines-turn T t₀ t ys s axes left at out {r} q e fits w kept m y =
    let x = lines_next axes left s at q e in
    (x.1, rw m (write-part T t₀ t out fits (line_text r) (list_text (list_in (records_from axes left (drop (at + length_of r) s)))) ys (write-left x.0 w) kept y))
