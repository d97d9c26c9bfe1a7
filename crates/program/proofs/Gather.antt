-- The walk over the records as the code makes it, with two arrays; and that these say what the list of records says. Assumes nothing.
use Prim.Native.Nat.{ℕ, zero, suc, ◌+◌, ◌-◌, ◌<◌, ◌≤◌}
use mathlib.Core.Path.{◌≡◌, refl, sym, ◌∙◌, ap, subst, fun_ext}
use mathlib.Core.Bool.{Bool, true, false}
use mathlib.Core.List.{List, [], ◌∷◌, ◌++◌, append_assoc, append-nil}
use native.Mathlib.Omega.{arith}
use borrow.Author.Tests.{le-leb, lt-leb}
use lib.Dec.{leb, eqb}
use lib.ListN.{length, get_or, drop, set, replicate, length-append, length-drop}
use lib.Seq.{drop-drop}
use Rattle.count.specs.Pick.{pick}
use Rattle.count.proofs.laws.Truth.{never}
use Rattle.count.proofs.laws.Words.{pad-put}
use Rattle.count.specs.Words.{pad}
use Rattle.record.specs.declared.Held.{Held}
use Rattle.record.specs.declared.Record.{Record}
use Rattle.record.specs.Bytes.{front, length_of, made, is_right}
use Rattle.record.specs.declared.Found.{Found}
use Rattle.record.specs.declared.Found.TheVariants.{Got, End, Wrong}
use Rattle.record.specs.Places.{in_use, record_at, Records, are, none-are, onto, then, records_from, records_of}
use Rattle.record.proofs.laws.Walk.{front-stands}
use Rattle.program.specs.Program.{record_in}
use Rattle.program.specs.work.Aims.{Aim, goes, jumps, waits, loops, aim_of, is_loop, is_turn, offset_of, aim_at, loop_at, turn_at, far_at}
use Rattle.program.specs.work.Work.{loop_in, turn_in, far_in}
use Rattle.program.specs.work.Decode.{kind_of, kept, Arrays, noted, unread, mapped, kinds_of, offsets_of, arrays_on}
use Rattle.program.proofs.laws.Decode.{kept_same}
use Rattle.program.proofs.laws.Accepting.{Rights, rights, records-count}

abbrev pub found : Found → (Record → Arrays) → Arrays
found (Got r) f = f r
found End f = unread
found Wrong f = unread

-- k records from byte `at` on, i already seen
abbrev pub walk : (h : Held) (s : List ℕ) (k at i : ℕ) (ks os : List ℕ) → Arrays
walk h s zero at i ks os = pick (leb (length (in_use h s)) at) (noted ks os) unread
walk h s (suc k) at i ks os =
    found (record_at h s at) (λ r. walk h s k (at + length_of r) (i + 1) (set ks i (kind_of (aim_of r))) (set os i (kept r)))

-- ---- arrays filled from the front

pad-none : (n : ℕ) → replicate n 0 ≡ pad n []
pad-none zero = refl
pad-none (suc n) = ap (λ (l : List ℕ). 0 ∷ l) (pad-none n)

length-mapped : (f : Record → ℕ) (l : List Record) → length (mapped f l) ≡ length l
length-mapped f [] = refl
length-mapped f (x ∷ l) = ap suc (length-mapped f l)

mapped-snoc : (f : Record → ℕ) (l : List Record) (x : Record) → mapped f l ++ f x ∷ [] ≡ mapped f (l ++ x ∷ [])
mapped-snoc f [] x = refl
mapped-snoc f (y ∷ l) x = ap (λ (r : List ℕ). f y ∷ r) (mapped-snoc f l x)

-- one record more
put-more : (f : Record → ℕ) (l : List Record) (x : Record) → set (pad 1000 (mapped f l)) (length l) (f x) ≡ pad 1000 (mapped f (l ++ x ∷ []))
put-more f l x = ap (λ (i : ℕ). set (pad 1000 (mapped f l)) i (f x)) (sym (length-mapped f l)) ∙ pad-put 1000 (mapped f l) (f x) ∙ ap (pad 1000) (mapped-snoc f l x)

-- reading them back
get_d-none : (n j : ℕ) → get_or (pad n []) j 0 ≡ 0
get_d-none zero j = refl
get_d-none (suc n) zero = refl
get_d-none (suc n) (suc j) = get_d-none n j

get_d-mapped : (n : ℕ) (f : Record → ℕ) → f (made 0 []) ≡ 0 → (l : List Record) (j : ℕ) → length l ≤ n → get_or (pad n (mapped f l)) j 0 ≡ f (get_or l j (made 0 []))
get_d-mapped n f e [] j h = get_d-none n j ∙ sym e
get_d-mapped zero f e (x ∷ l) j h = absurd (omega arith)
get_d-mapped (suc n) f e (x ∷ l) zero h = refl
get_d-mapped (suc n) f e (x ∷ l) (suc j) h = get_d-mapped n f e l j (omega arith)

loop-kind : (x : Aim) → eqb (kind_of x) 1 ≡ is_loop x
loop-kind goes = refl
loop-kind (jumps o) = refl
loop-kind (waits o) = refl
loop-kind (loops c o) = refl

turn-kind : (x : Aim) → eqb (kind_of x) 2 ≡ is_turn x
turn-kind goes = refl
turn-kind (jumps o) = refl
turn-kind (waits o) = refl
turn-kind (loops c o) = refl

abbrev kind : Record → ℕ
kind r = kind_of (aim_of r)

abbrev off : Record → ℕ
off r = offset_of (aim_of r)

kind-none : kind (made 0 []) ≡ 0
unfolding aim_of
kind-none = refl

off-none : off (made 0 []) ≡ 0
unfolding aim_of
off-none = refl

module _ (l : List Record) (h : length l ≤ 1000) where
  loops-same : loop_in (kinds_of l) ≡ loop_at l
  loops-same = fun_ext (λ i. ap (λ (k : ℕ). eqb k 1) (get_d-mapped 1000 kind kind-none l i h) ∙ loop-kind (aim_at l i))

  turns_same : turn_in (kinds_of l) ≡ turn_at l
  turns_same = fun_ext (λ i. ap (λ (k : ℕ). eqb k 2) (get_d-mapped 1000 kind kind-none l i h) ∙ turn-kind (aim_at l i))

  fars-same : far_in (offsets_of l) ≡ far_at l
  fars-same = fun_ext (λ i. ap (λ (o : ℕ). i + o) (get_d-mapped 1000 off off-none l i h))

-- ---- the walk and the list

abbrev behind : List Record → Records → Records
behind l none-are = none-are
behind l (are r) = are (l ++ r)

behind-next : (l : List Record) (x : Record) (f : Records) → behind (l ++ x ∷ []) f ≡ behind l (onto x f)
behind-next l x none-are = refl
behind-next l x (are r) = ap are (append_assoc l (x ∷ []) r)

behind-none : (f : Records) → behind [] f ≡ f
behind-none none-are = refl
behind-none (are l) = refl

module _ (h : Held) (s : List ℕ) where
  abbrev Same : ℕ → Type 0
  Same k = (at : ℕ) (l : List Record)
      → walk h s k at (length l) (kinds_of l) (offsets_of l) ≡ arrays_on (behind l (records_from h.axes k (drop at (in_use h s))))

  same_end : (at : ℕ) (l : List Record) (u : List ℕ) → drop at (in_use h s) ≡ u
      → pick (leb (length (in_use h s)) at) (noted (kinds_of l) (offsets_of l)) unread ≡ arrays_on (behind l (records_from h.axes 0 u))
  unfolding records_from
  same_end at l [] e =
      let d : 0 ≡ length (in_use h s) - at = ap length (sym e) ∙ length-drop at (in_use h s) in
      rw (le-leb (length (in_use h s)) at (omega arith)) (ap (λ (m : List Record). arrays_on (are m)) (sym (append-nil l)))
  same_end at l (x ∷ u) e =
      let d : suc (length u) ≡ length (in_use h s) - at = ap length (sym e) ∙ length-drop at (in_use h s) in
      rw (lt-leb (length (in_use h s)) at (omega arith))

  same_next : (k at : ℕ) (l : List Record) (x : Found) → record_at h s at ≡ x → Same k
      → found x (λ r. walk h s k (at + length_of r) (length l + 1) (set (kinds_of l) (length l) (kind r)) (set (offsets_of l) (length l) (kept r)))
      ≡ arrays_on (behind l (then x (λ r. records_from h.axes k (drop (length_of r) (drop at (in_use h s))))))
  unfolding record_at
  same_next k at l (Got r) e g =
      let c : length (l ++ r ∷ []) ≡ length l + 1 = length-append l (r ∷ []) in
      let o : kept r ≡ off r = kept_same h.axes r (front-stands h.axes (drop at (in_use h s)) e).right in
      rw (o, put-more kind l r, put-more off l r, ← c, drop-drop)
      (g (at + length_of r) (l ++ r ∷ []) ∙ ap arrays_on (behind-next l r (records_from h.axes k (drop (at + length_of r) (in_use h s)))))
  same_next k at l End e g = refl
  same_next k at l Wrong e g = refl

  same : (k : ℕ) → Same k
  unfolding records_from record_at
  same zero at l = same_end at l (drop at (in_use h s)) refl
  same (suc k) at l = same_next k at l (front h.axes (drop at (in_use h s))) refl (same k)

  -- the walk gives the arrays of the list
  pub start : {k : ℕ} {ks os : List ℕ} → k ≡ h.records → ks ≡ replicate 1000 0 → os ≡ replicate 1000 0 → arrays_on (records_of h s) ≡ walk h s k 0 0 ks os
  unfolding records_of
  start e p q =
      rw (e, p, q, pad-none 1000)
      (sym (same h.records 0 [] ∙ ap arrays_on (behind-none (records_from h.axes h.records (in_use h s)))))

-- ---- what the arrays say

pub record Read (h : Held) (s ks os : List ℕ) : Type 0 where
  pub items : List Record
  pub reads : records_of h s ≡ are items
  pub count : length items ≡ h.records
  pub right : (i : ℕ) → i < length items → is_right h.axes (record_in items i) ≡ true
  pub loops : loop_in ks ≡ loop_at items
  pub turns : turn_in ks ≡ turn_at items
  pub fars : far_in os ≡ far_at items

abbrev kinds_in : Arrays → List ℕ
kinds_in (noted ks os) = ks
kinds_in unread = []

abbrev offsets_in : Arrays → List ℕ
offsets_in (noted ks os) = os
offsets_in unread = []

abbrev is_noted : Arrays → Bool
is_noted (noted ks os) = true
is_noted unread = false

module _ (h : Held) (s : List ℕ) (few : h.records ≤ 1000) (ks os : List ℕ) where
  read_by : (x : Records) → records_of h s ≡ x → noted ks os ≡ arrays_on x → Read h s ks os
  unfolding records_of
  read_by (are l) r e =
      let c = records-count h s l r in
      record {
        items = l;
        reads = r;
        count = c;
        right = subst (Rights h.axes) r (rights h.axes h.records (in_use h s));
        loops = ap (λ (a : Arrays). loop_in (kinds_in a)) e ∙ loops-same l (omega arith);
        turns = ap (λ (a : Arrays). turn_in (kinds_in a)) e ∙ turns_same l (omega arith);
        fars = ap (λ (a : Arrays). far_in (offsets_in a)) e ∙ fars-same l (omega arith);
      }
  read_by none-are r e = never (sym (ap is_noted e))

  pub all_read : {b : Bool} → b ≡ true → pick b (noted ks os) unread ≡ arrays_on (records_of h s) → Read h s ks os
  all_read p e = read_by (records_of h s) refl (ap (λ (b : Bool). pick b (noted ks os) unread) (sym p) ∙ e)

  unread-by : (x : Records) → unread ≡ arrays_on x → x ≡ none-are
  unread-by (are l) e = never (ap is_noted e)
  unread-by none-are e = refl

  pub not-read : {b : Bool} → b ≡ false → pick b (noted ks os) unread ≡ arrays_on (records_of h s) → records_of h s ≡ none-are
  not-read p e = unread-by (records_of h s) (ap (λ (b : Bool). pick b (noted ks os) unread) (sym p) ∙ e)

-- ---- one step of the walk, as the code takes it

none-by : (x : Found) (f : Record → Arrays) → ((r : Record) → x ≡ Got r → ⊥) → found x f ≡ unread
none-by (Got r) f n = absurd (n r refl)
none-by End f n = refl
none-by Wrong f n = refl

module _ (h : Held) (s : List ℕ) (at i : ℕ) (ks os : List ℕ) where
  abbrev on : ℕ → Record → Arrays
  on k r = walk h s k (at + length_of r) (i + 1) (set ks i (kind_of (aim_of r))) (set os i (kept r))

  pub lost : {w : Arrays} {x : Found} → x ≡ record_at h s at → (k : ℕ) → w ≡ walk h s (suc k) at i ks os → ((r : Record) → x ≡ Got r → ⊥) → unread ≡ w
  lost {x = x} e k v n = sym (v ∙ rw (← e) (none-by x (on k) n))

  pub gone-on : {w : Arrays} {r : Record} → Got r ≡ record_at h s at → (k : ℕ) {kind off : ℕ} → w ≡ walk h s (suc k) at i ks os
      → kind ≡ kind_of (aim_of r) → off ≡ kept r → w ≡ walk h s k (at + length_of r) (i + 1) (set ks i kind) (set os i off)
  gone-on e k v p q = v ∙ rw (← e, p, q)

module _ (h : Held) (s : List ℕ) (at i : ℕ) (ks os : List ℕ) {w : Arrays} {e : ℕ} (p : e ≡ length (in_use h s)) where
  pub over : (k : ℕ) → w ≡ walk h s k at i ks os → k ≤ 0 → pick (leb e at) (noted ks os) unread ≡ w
  over zero v l = sym (v ∙ rw (← p))
  over (suc k) v l = absurd (omega arith)
